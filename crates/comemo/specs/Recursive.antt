-- What a recorder learns from a function that calls itself, and how its calls begin and finish.
use Rattle.std.specs.Prelude.{◌≡◌, ◌↔◌, Bool, true, false, List, IsTrue, [], Result, Ok, Err, IfOk, OnOk, IfErr}
use Rattle.comemo_track.specs.Recording.{Recording}
use Rattle.comemo_cache.specs.Meaning.{Meaning, Invocation, Run}
use Rattle.comemo_cache.specs.Cache.{Entries, HasNone}
use Rattle.comemo.specs.Finish.{Ends, Gives}
use Rattle.comemo.specs.Function.{Recorded}
use Rattle.comemo.specs.declared.pending.Fault.{Fault}
use Rattle.comemo.specs.declared.pending.Fault.TheVariants as fault
use Rattle.comemo.specs.declared.pending.How.{How}
use Rattle.comemo.specs.declared.pending.How.TheVariants as how
use Rattle.comemo.specs.declared.pending.Begun.{Begun}
use Rattle.comemo.specs.declared.pending.Begun.TheVariants.{Hit, Run as Begins}

-- the first holds of a call that returned an output or a fault, the second of a run that began
abbrev pub OnCallBegun : {O I : Type 0} → Result (Begun O I) Fault → (Result O Fault → Type 0) → (I → Type 0) → Type 0
OnCallBegun (Ok (Hit output)) P Q = P (Ok output)
OnCallBegun (Ok (Begins run)) P Q = Q run
OnCallBegun (Err fault) P Q = P (Err fault)

-- what a run learns from a call, which took its recorder from s to t, of the same value: on success the recording is
-- complete exactly if it was, what fits it now fitted it before, and P holds of the answer and of all that fits; and
-- the error is never `Incomplete`
pub record TellsOwn {V C R X : Type 0} (fits : Recording C R → (C → R) → Type 0) (s t : Recorded V C R) (r : Result X Fault) (P : X → (C → R) → Type 0) : Type 0 where
  pub same_value : t.value ≡ s.value
  pub before : OnOk r ((m : C → R) → fits t.recording m → fits s.recording m)
  pub told : IfOk r (λ answer. (m : C → R) → fits t.recording m → P answer m)
  pub complete : OnOk r (t.recording.complete ≡ s.recording.complete)
  pub fault : IfErr r (λ f. f ≡ fault.Incomplete → ⊥)

-- whatever a call establishes from the recorder state t on also holds from s on
abbrev pub TellsFrom : {V C R X : Type 0} → (Recording C R → (C → R) → Type 0) → Recorded V C R → Recorded V C R → (X → (C → R) → Type 0) → Type 0
TellsFrom {V} {C} {R} {X} fits s t P = (u : Recorded V C R) (r : Result X Fault) → TellsOwn fits t u r P → TellsOwn fits s u r P

module _ {K C R O : Type 0} (M : Meaning K C R O) (es : Entries K C R O) where
  -- a run begins, with an empty recorder of the same value as the recorder that began it, under a key that equals the
  -- call's; no entry has the key and agrees
  pub record Starts {V : Type 0} (call : Invocation K C R) (outer : Recorded V C R) (own : K) (inner : Recorded V C R) : Type 0 where
    pub has_key : IsTrue (M.same_key call.key own)
    pub same_value : inner.value ≡ outer.value
    pub pairs : inner.recording.pairs ≡ []
    pub complete : inner.recording.complete ≡ true
    pub early : inner.recording.late ≡ false
    pub none : HasNone M es call

  -- a run with this result was finished: its pairs went to the recorder that began it, and the reply says whether it
  -- was stored, or why not; it was late, or not
  pub record FinishedAs (late : Bool) (sent : List (C × R) → List C → Type 0) (ran : Run K C R O) (became : How) (es' : Entries K C R O) : Type 0 where
    pub enabled : became ≡ how.Disabled → ⊥
    pub is_late : (became ≡ how.Late) ↔ (late ≡ true)
    pub ends : Ends M es ran became es'
    pub gives : Gives M sent ran.pairs ran.writes
