-- For authors of functions that call themselves: what their calls establish, and how a recorder keeps its invariant.
use Rattle.std.proofs.Common.{◌≡◌, ◌∙◌, Bool, true, false, ◌↔◌, List, [], ◌++◌, Result, Ok, Err, IfOk, IfErr, IsErrAnd, refl, sym, ap, subst}
use Rattle.std.specs.Cmp.{IsEquivalence}
use Rattle.comemo_base.specs.Answers.{Respects, Agrees}
use Rattle.comemo_track.specs.Recording.{Recording, Took}
use Rattle.comemo_cache.specs.Meaning.{Meaning, run}
use Rattle.comemo_cache.specs.Cache.{Entries}
use Rattle.comemo.specs.Begin.{PendingRun}
use Rattle.comemo.specs.Finish.{Ends, Gives, Finished}
use Rattle.comemo.specs.Function.{Recorded, IsRecorded, Fits, Tells}
use Rattle.comemo.specs.Recursive.{TellsOwn, FinishedAs}
use Rattle.comemo.specs.declared.pending.Fault.{Fault}
use Rattle.comemo.specs.declared.pending.Fault.TheVariants as fault
use Rattle.comemo.specs.declared.pending.Reply.{Reply}
use Rattle.comemo_track.specs.Sending.{TookAs}
use Rattle.comemo.proofs.Endings.{gives_early}
use Rattle.comemo.proofs.Recorders.{still_agrees, fitted, fits_taken, stays_early}

module _ {V C R X : Type 0} {fits : Recording C R → (C → R) → Type 0} {s t : Recorded V C R} where
  -- a question or a call of another function establishes what a nested call does, unless it fails with `Incomplete`
  pub tells_own : {P : X → (C → R) → Type 0} (r : Result X Fault) → Tells fits s t r P → IfErr r (λ f. f ≡ fault.Incomplete → ⊥) → TellsOwn fits s t r P
  tells_own (Ok x) a never = record { same_value = a.same_value; before = a.before; told = a.told; complete = a.complete; fault = tt }
  tells_own (Err f) a never = record { same_value = a.same_value; before = tt; told = tt; complete = tt; fault = never }

  -- a failure to allocate
  pub own_memory : {P : X → (C → R) → Type 0} (r : Result X Fault) → t.value ≡ s.value → IsErrAnd r (λ f. f ≡ fault.Memory) → TellsOwn fits s t r P
  own_memory (Ok x) v h = absurd h
  own_memory (Err f) v h = record { same_value = v; before = tt; told = tt; complete = tt; fault = λ e. let no : fault.Memory ≡ fault.Incomplete = sym h ∙ e in cc }

module _ {V C R : Type 0} {fits : Recording C R → (C → R) → Type 0} {X Y : Type 0} {P : X → (C → R) → Type 0} {Q : Y → (C → R) → Type 0} {x : X} {y : Y} where
  -- what was established establishes what follows from it
  pub own_as : {s t : Recorded V C R} → TellsOwn fits s t (Ok x) P → ((m : C → R) → fits t.recording m → P x m → Q y m) → TellsOwn fits s t (Ok y) Q
  own_as a so = record { same_value = a.same_value; before = a.before; told = λ m f. so m f (a.told m f); complete = a.complete; fault = tt }

  -- two calls in turn establish what follows from both
  pub own_then : {Z : Type 0} {s t u : Recorded V C R} {S : Z → (C → R) → Type 0} {z : Z} → TellsOwn fits s t (Ok x) P → TellsOwn fits t u (Ok y) Q → ((m : C → R) → fits u.recording m → P x m → Q y m → S z m) → TellsOwn fits s u (Ok z) S
  own_then a b both = record {
    same_value = b.same_value ∙ a.same_value;
    before = λ m f. a.before m (b.before m f);
    told = λ m f. both m f (a.told m (b.before m f)) (b.told m f);
    complete = b.complete ∙ a.complete;
    fault = tt;
  }

  -- two questions or calls of other functions in turn do so too
  pub tells_then : {Z : Type 0} {s t u : Recorded V C R} {S : Z → (C → R) → Type 0} {z : Z} → Tells fits s t (Ok x) P → Tells fits t u (Ok y) Q → ((m : C → R) → fits u.recording m → P x m → Q y m → S z m) → Tells fits s u (Ok z) S
  tells_then a b both = record {
    same_value = b.same_value ∙ a.same_value;
    before = λ m f. a.before m (b.before m f);
    told = λ m f. both m f (a.told m (b.before m f)) (b.told m f);
    complete = b.complete ∙ a.complete;
    fault = tt;
  }

-- what a recorder with a complete recording learnt holds of the answers of its value, as seen at the end
pub own_now : {V C R X : Type 0} {eq : C → C → Bool} {same : R → R → Bool} {s t seen : Recorded V C R} {P : X → (C → R) → Type 0} (r : Result X Fault) (answers : V → C → R) → ((v : V) → Respects eq same (answers v)) → s.recording.complete ≡ true → seen ≡ t → IsRecorded same (answers seen.value) seen.recording → TellsOwn (Fits eq same) s t r P → IfOk r (λ x. P x (answers s.value))
own_now {eq = eq} {same = same} {s = s} {t = t} {P = P} (Ok x) answers alike w is kept a =
    let agrees : IsRecorded same (answers t.value) t.recording = subst (λ u. IsRecorded same (answers u.value) u.recording) is kept in
    subst (λ v. P x (answers v)) a.same_value (a.told (answers t.value) (record { complete = a.complete ∙ w; early = agrees.early; respects = alike t.value; agrees = agrees.agrees (a.complete ∙ w) }))
own_now (Err f) answers alike w is kept a = tt

module _ {K C R O : Type 0} (M : Meaning K C R O) (calls : IsEquivalence M.same_call) (answers : IsEquivalence M.same_answer) (m : C → R) (respects : Respects M.same_call M.same_answer m) {V : Type 0} {touches : C → C → Bool} {s t : Recorded V C R} (before : s.recording.complete ≡ true → Agrees M.same_answer m s.recording.pairs) (pairs : List (C × R)) (writes : List C) (agrees : Agrees M.same_answer m pairs) (gives : Gives M (Took M.same_call touches s.recording t.recording) pairs writes) where
  -- a call that rests on pairs with which the present answers agree, and which went to the recorder, establishes what
  -- is right by these
  pub own_given : {X : Type 0} (output : X) {P : X → (C → R) → Type 0} → t.value ≡ s.value → ((n : C → R) → Respects M.same_call M.same_answer n → Agrees M.same_answer n pairs → P output n) → TellsOwn (Fits M.same_call M.same_answer) s t (Ok output) P
  own_given output value right =
      let taken = (gives.agreeing m respects).1 agrees in
      record {
        same_value = value;
        before = fitted calls answers m respects gives.given writes gives.are_sent taken before;
        told = λ n f. right n f.respects ((gives.agreeing n f.respects).0 (fits_taken calls answers m respects gives.given writes gives.are_sent taken before n f));
        complete = gives.are_sent.complete;
        fault = tt;
      }

-- a recorder that took nothing is unchanged
pub same_recorder : {V C R : Type 0} (v : V) {s t : Recording C R} {u : Recorded V C R} → t ≡ s → record { value = v; recording = s } ≡ u → record { value = v; recording = t } ≡ u
same_recorder v e is = rw e is

-- a recorder that took what the present answers agree with, and no writes, keeps its invariant
pub given_keeps : {K C R O : Type 0} {touches : C → C → Bool} (M : Meaning K C R O) → IsEquivalence M.same_call → IsEquivalence M.same_answer → (m : C → R) → Respects M.same_call M.same_answer m → (s t : Recording C R) → IsRecorded M.same_answer m s → (pairs : List (C × R)) (writes : List C) → Agrees M.same_answer m pairs → writes ≡ [] → Gives M (Took M.same_call touches s t) pairs writes → IsRecorded M.same_answer m t
given_keeps M calls answers m respects s t before pairs writes agrees none gives = record {
  agrees = still_agrees calls answers m respects gives.given writes gives.are_sent ((gives.agreeing m respects).1 agrees) before.agrees;
  no_writes = gives.are_sent.writes ∙ ap (λ V. V ++ writes) before.no_writes ∙ none;
  early = stays_early gives.are_sent before.no_writes before.early;
}

-- a fault other than `Write`, of a run whose recording is complete
pub is_memory : {A : Type 0} (f : Fault) {w : Bool} → w ≡ true → (f ≡ fault.Write → ⊥) → (let r : Result A Fault = Err f in r ≡ Err fault.Incomplete) ↔ (w ≡ false) → f ≡ fault.Memory
is_memory fault.Memory w never is = refl
is_memory fault.Write w never is = absurd (never refl)
is_memory fault.Incomplete w never is = let no : true ≡ false = sym w ∙ is.0 refl in cc

-- what holds of a fault that is passed on
pub handed : {A : Type 0} (r : Result A Fault) (f : Fault) → IsErrAnd r (λ x. x ≡ f) → (X : Fault → Type 0) → X f → IfErr r X
handed (Ok y) f e X x = tt
handed (Err g) f e X x = subst X (sym e) x

-- a run that is to be stored and wrote nothing, was finished so
pub finished_as : {K C R O : Type 0} (M : Meaning K C R O) (es es' : Entries K C R O) (pending : PendingRun K C R) {S : Type 0} (took : S → S → List (C × R) → List C → Type 0) (lates : S → S → Type 0) {i j : S} (output : O) (reply : Reply O) → pending.enabled ≡ true → pending.recording.writes ≡ [] → pending.recording.late ≡ false → Finished M es pending (TookAs took lates pending.recording.late i j) output reply es' → FinishedAs M es false (took i j) (run pending.key pending.recording.pairs output []) reply.how es'
finished_as M es es' pending took lates {i = i} {j = j} output reply enabled none early done = record {
  enabled = λ d. let no : true ≡ false = sym enabled ∙ (done.disabled.0 d).0 in cc;
  is_late = (λ l. sym early ∙ done.late.0 l, λ f. let no : false ≡ true = f in cc);
  ends = subst (λ ws. Ends M es (run pending.key pending.recording.pairs output ws) reply.how es') none done.ends;
  gives = subst (λ ws. Gives M (took i j) pending.recording.pairs ws) none (gives_early took lates pending.recording.late early done.gives);
}
