-- What a recorder is after it absorbed a branch.
use Rattle.std.specs.Prelude.{◌&&◌}
use Rattle.std.proofs.Common.{◌≡◌, ◌∙◌, ◌||◌, Bool, true, false, List, [], ◌++◌, Ok, refl, ap}
use Rattle.std.specs.Cmp.{IsEquivalence}
use Rattle.comemo_base.specs.Answers.{Respects, Agrees}
use Rattle.comemo_base.specs.Sequence.{absorbed}
use Rattle.comemo_track.specs.Recording.{Recording, Took}
use Rattle.comemo_track.specs.RecordingLaws.{or_none}
use Rattle.comemo_track.specs.Writing.{touched}
use Rattle.comemo.specs.Function.{IsRecorded, Fits}
use Rattle.comemo.specs.Recursive.{TellsOwn}
use Rattle.comemo.proofs.Recorders.{still_agrees, fitted, fits_taken, stays_early}

and_true : (a : Bool) → (a && true) ≡ a
and_true true = refl
and_true false = refl

module _ {C R : Type 0} {eq touches : C → C → Bool} {s t : Recording C R} (other : Recording C R) where
  -- a recording that absorbed one that is complete, not late and has no writes, took its pairs
  pub took_branch : t.pairs ≡ absorbed eq s.pairs other.pairs → t.writes ≡ s.writes ++ other.writes → t.complete ≡ (s.complete && other.complete) → t.late ≡ ((s.late || touched touches s.writes other.pairs) || other.late) → other.complete ≡ true → other.late ≡ false → other.writes ≡ [] → Took eq touches s t other.pairs []
  took_branch pairs writes complete late w early none = record {
    pairs = pairs;
    writes = writes ∙ ap (λ W. s.writes ++ W) none;
    complete = complete ∙ ap (λ b. s.complete && b) w ∙ and_true s.complete;
    late = late ∙ ap (λ b. (s.late || touched touches s.writes other.pairs) || b) early ∙ or_none (s.late || touched touches s.writes other.pairs);
  }

module _ {C R : Type 0} {eq touches : C → C → Bool} {same : R → R → Bool} (calls : IsEquivalence eq) (answers : IsEquivalence same) (m : C → R) (respects : Respects eq same m) {s t : Recording C R} (before : IsRecorded same m s) where
  -- it keeps a recorder's invariant
  pub branch_keeps : (P : List (C × R)) → Agrees same m P → Took eq touches s t P [] → IsRecorded same m t
  branch_keeps P a took = record {
    agrees = still_agrees calls answers m respects P [] took a before.agrees;
    no_writes = took.writes ∙ ap (λ V. V ++ []) before.no_writes;
    early = stays_early took before.no_writes before.early;
  }

  -- what fits the branch, fits
  pub branch_told : {V : Type 0} {v : V} {branch : Recording C R} → branch.complete ≡ true → branch.late ≡ false → Agrees same m branch.pairs → Took eq touches s t branch.pairs [] → {A : Type 0} {x : A} → TellsOwn (Fits eq same) (record { value = v; recording = s }) (record { value = v; recording = t }) (Ok x) (λ _ n. Fits eq same branch n)
  branch_told {branch = branch} w early a took = record {
    same_value = refl;
    before = fitted calls answers m respects branch.pairs [] took a before.agrees;
    told = λ n f. record { complete = w; early = early; respects = f.respects; agrees = fits_taken calls answers m respects branch.pairs [] took a before.agrees n f };
    complete = took.complete;
    fault = tt;
  }
