-- Which calls a function asks, and the sequences of calls that its runs make. Calls and answers are told apart by their
-- equality.
use Rattle.std.specs.Prelude.{Bool, List, [], ◌∷◌, ◌↔◌, IsTrue}
use Rattle.std.specs.List.{All}
use Rattle.comemo_base.specs.Sequence.{held}
use Rattle.comemo_base.specs.Answers.{Respects, Agrees}
use Rattle.comemo_base.specs.Tree.{Stored}
use Rattle.comemo_base.specs.declared.insertion.InsertError.{InsertError}
use Rattle.comemo_base.specs.declared.insertion.InsertError.TheVariants.{AlreadyExists, MissingCall, Memory}

module _ {C R : Type 0} (eq : C → C → Bool) (same : R → R → Bool) where
  -- under the answers m the first call is asked and, if m answers it as the list does, the next, and so on
  abbrev pub IsAskedInTurn : (C → Type 0) → (C → R) → List (C × R) → Type 0
  IsAskedInTurn asked m [] = Unit {0}
  IsAskedInTurn asked m (p ∷ ps) = asked p.0 × (IsTrue (same (m p.0) p.1) → IsAskedInTurn asked m ps)

  -- Of a function that under the answers m asks the calls of `asked m`:
  module _ (asked : (C → R) → C → Type 0) where
    -- each call of the list is asked under all answers that agree with the pairs before it
    abbrev pub IsCausal : List (C × R) → Type 0
    IsCausal ps = (m : C → R) → Respects eq same m → IsAskedInTurn (asked m) m ps

    -- under all answers that agree with the list, exactly its calls are asked
    abbrev pub IsComplete : List (C × R) → Type 0
    IsComplete ps = (m : C → R) → Respects eq same m → Agrees same m ps → (c : C) → asked m c ↔ IsTrue (held eq ps c)

    -- the list is what a run of the function asks, in some order, with the answers: it is causal and complete
    pub record IsRun (ps : List (C × R)) : Type 0 where
      pub causal : IsCausal ps
      pub complete : IsComplete ps

  -- every path is a run of the function under its key
  abbrev pub IsSettled : {K T : Type 0} → (K → (C → R) → C → Type 0) → List (Stored K C R T) → Type 0
  IsSettled asks es = All (λ e. IsRun (asks e.key) e.path) es

-- the same is asked under equal keys, and of two equal calls both are asked or neither
abbrev pub AsksRespect : {K C R : Type 0} → (K → K → Bool) → (C → C → Bool) → (K → (C → R) → C → Type 0) → Type 0
AsksRespect {K} {C} {R} eqk eq asks = (k k' : K) (m : C → R) (c c' : C) → IsTrue (eqk k k') → IsTrue (eq c c') → asks k m c → asks k' m c'

-- the laws of a definition of asked calls: it treats equal keys and equal calls alike, and a clone of a key is equal to it
pub record AsksLaws {K C R : Type 0} (eqk : K → K → Bool) (eq : C → C → Bool) (is_clone : K → K → Type 0) (asks : K → (C → R) → C → Type 0) : Type 0 where
  pub respect : AsksRespect eqk eq asks
  pub clones : (x y : K) → is_clone x y → IsTrue (eqk x y)

-- why an insertion of a run stored nothing; `there` means that the set of its pairs is stored; a call is never missing
abbrev pub IsRunReason : Type 0 → InsertError → Type 0
IsRunReason there AlreadyExists = there
IsRunReason there MissingCall = ⊥
IsRunReason there Memory = Unit {0}
