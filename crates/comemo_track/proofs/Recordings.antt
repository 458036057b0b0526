-- How a recording takes one more call.
use Rattle.std.proofs.Common.{◌≡◌, Bool, true, false, not, ◌||◌, List, [], ◌∷◌, ◌++◌, IsTrue, Result, Ok, Err, IfOk, OnErr, refl, sym, ap, ◌∙◌, append-nil}
use Rattle.std.proofs.lemmas.List.Elements.{All-push}
use Rattle.std.specs.Cmp.{IsEquivalence}
use Rattle.std.specs.declared.alloc.AllocError.{AllocError}
use Rattle.comemo_base.specs.Sequence.{Sequence, was_seen, held}
use Rattle.comemo_base.proofs.Pairs.{or_turned, held-push}
use Rattle.comemo_track.specs.Recording.{Recording, Took, Spoiled, IsRecording}
use Rattle.comemo_track.specs.RecordingLaws.{or_none}

module _ {C R : Type 0} {eq : C → C → Bool} (laws : IsEquivalence eq) (w : C → Bool) (s : Sequence C R) {W : List C} (is : IsRecording eq w s W) where
  taken : (t : Sequence C R) (call : C) (answer : R) → w call ≡ false → t.pairs ≡ s.pairs ++ (call, answer) ∷ [] → ((other : C) → was_seen eq t other ≡ (eq call other || was_seen eq s other)) → IsRecording eq w t W
  taken t call answer read pairs seen = record {
    seen = λ other.
        seen other
        ∙ ap (λ b. eq call other || b) (is.seen other)
        ∙ or_turned (eq call other) (held eq s.pairs other)
        ∙ ap (λ b. held eq s.pairs other || b) (laws.symm call other)
        ∙ sym (ap (λ ps. held eq ps other) pairs ∙ held-push eq s.pairs call answer other);
    all_reads = rw pairs (All-push (λ p. w p.0 ≡ false) s.pairs (call, answer) is.all_reads read);
    all_writes = is.all_writes;
  }

  -- a read, taken or not
  pub IsRecording-read : (t : Sequence C R) (call : C) (answer : R) (r : Result Bool AllocError) → w call ≡ false → IfOk r (λ new. IsTrue new → t.pairs ≡ s.pairs ++ (call, answer) ∷ []) → IfOk r (λ new. IsTrue new → (other : C) → was_seen eq t other ≡ (eq call other || was_seen eq s other)) → IfOk r (λ new. IsTrue (not new) → t ≡ s) → OnErr r (t ≡ s) → IsRecording eq w t W
  IsRecording-read t call answer (Ok true) read pairs seen held err = taken t call answer read (pairs refl) (seen refl)
  IsRecording-read t call answer (Ok false) read pairs seen held err = rw (held refl) is
  IsRecording-read t call answer (Err e) read pairs seen held err = rw err is

-- nothing was taken
pub took_none : {C R : Type 0} (eq touches : C → C → Bool) (s t : Recording C R) → t.pairs ≡ s.pairs → t.writes ≡ s.writes → t.complete ≡ s.complete → t.late ≡ s.late → Took eq touches s t [] []
took_none eq touches s t pairs writes complete late = record { pairs = pairs; writes = writes ∙ sym (append-nil s.writes); complete = complete; late = late ∙ sym (or_none s.late) }

-- nothing was taken where it was refused, and then it was spoiled
pub spoiled_at : {T E C R : Type 0} (eq touches : C → C → Bool) (r : Result T E) (s m t : Recording C R) → OnErr r (Took eq touches s m [] []) → t.pairs ≡ m.pairs → t.writes ≡ m.writes → t.late ≡ m.late → OnErr r (t.complete ≡ false) → OnErr r (Spoiled s t)
spoiled_at eq touches (Ok x) s m t taken pairs writes late complete = tt
spoiled_at eq touches (Err e) s m t taken pairs writes late complete = record { pairs = pairs ∙ taken.pairs; writes = writes ∙ taken.writes ∙ append-nil s.writes; complete = complete; late = late ∙ taken.late ∙ or_none s.late }
