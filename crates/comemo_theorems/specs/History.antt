-- What happens to the cache of a memoized function: steps on a plain list of entries.
use Rattle.std.specs.Prelude.{◌≡◌, ℕ, ◌+◌, ◌<◌, ◌⊎◌, true, List, [], ◌∷◌, IsTrue}
use Rattle.comemo_base.specs.Answers.{Respects, Agrees}
use Rattle.comemo_cache.specs.Meaning.{Meaning, Invocation, Run}
use Rattle.comemo_cache.specs.Cache.{Entries, Stands, HasNone, Has, Touches, Evicts}
use Rattle.comemo.specs.Finish.{Ends}
use Rattle.comemo.specs.declared.pending.How.{How}
use Rattle.comemo.specs.declared.pending.How.TheVariants as how

-- A hit is `found`, with the entry's run up to clones, and `touched`. Any other call is `missed`, the steps of the calls in
-- its run, and `ended`, with the run and what became of it. So a call b within the run of a call a is missed a, missed b,
-- ended b, ended a. A call that failed lacks the last steps. Steps of other threads may stand anywhere in between.
pub data Step (K C R O : Type 0) : Type 0 where
  found : Invocation K C R → Run K C R O → Step K C R O
  touched : Invocation K C R → Step K C R O
  missed : Invocation K C R → Step K C R O
  ended : Invocation K C R → Run K C R O → How → Step K C R O
  evicted : ℕ → Step K C R O

module _ {K C R O : Type 0} (M : Meaning K C R O) where
  -- the step leads from the entries es to es'
  abbrev pub Does : Step K C R O → Entries K C R O → Entries K C R O → Type 0
  Does (found call ran) es es' = Has M es call ran × (es' ≡ es)
  Does (touched call) es es' = Touches M es call es' ⊎ (HasNone M es call × (es' ≡ es))
  Does (missed call) es es' = (call.enabled ≡ true → HasNone M es call) × (es' ≡ es)
  Does (ended call ran end) es es' = Ends M es ran end es'
  Does (evicted bound) es es' = Evicts bound es es'

  -- the steps in turn lead from es to es'
  abbrev pub History : List (Step K C R O) → Entries K C R O → Entries K C R O → Type 0
  History [] es es' = es' ≡ es
  History (s ∷ h) es es' = (mid : Entries K C R O) × Does s es mid × History h mid es'

  -- the run answers the call: its key is equal, the call's answers agree with what it recorded, and by that alone its
  -- output and its writes are right
  pub record Answers (call : Invocation K C R) (ran : Run K C R O) : Type 0 where
    pub alike : Respects M.same_call M.same_answer call.answers
    pub has_key : IsTrue (M.same_key call.key ran.key)
    pub agrees : Agrees M.same_answer call.answers ran.pairs
    pub stands : Stands M ran

  -- a run answers its call, as its contract says; nothing is asked of a late one, which read what it had written before
  abbrev pub Honest : Step K C R O → Type 0
  Honest (ended call ran end) = (end ≡ how.Late → ⊥) → Answers call ran
  Honest step = Unit {0}

  -- output and writes that a step returns are right at the key and the answers of its call; nothing is said of a late run
  abbrev pub Right : Step K C R O → Type 0
  Right (found call ran) = Respects M.same_call M.same_answer call.answers → M.right call.key call.answers ran.output ran.writes
  Right (ended call ran end) = (end ≡ how.Late → ⊥) → M.right call.key call.answers ran.output ran.writes
  Right step = Unit {0}

  -- an entry of this age outlives the steps: each eviction's bound is above its age, which is 0 again after a touch for a
  -- call that renews it
  abbrev pub Outlives : (Invocation K C R → Type 0) → ℕ → List (Step K C R O) → Type 0
  Outlives renews age [] = Unit {0}
  Outlives renews age (evicted bound ∷ h) = (age < bound) × Outlives renews (age + 1) h
  Outlives renews age (touched call ∷ h) = Outlives renews age h ⊎ (renews call × Outlives renews 0 h)
  Outlives renews age (step ∷ h) = Outlives renews age h
