-- Lists of pairs that grow while a function runs, and what it asks.
use Rattle.std.specs.Prelude.{◌≡◌, ◌⊎◌, Bool, List, ◌++◌, IsTrue}
use Rattle.comemo_base.specs.Sequence.{held}
use Rattle.comemo_base.specs.Answers.{Respects, Agrees}
use Rattle.comemo_base.specs.Runs.{IsAskedInTurn}

module _ {C R : Type 0} (eq : C → C → Bool) (same : R → R → Bool) where
  -- t is s and then pairs that are asked in turn under all answers that agree with s; under all answers that agree with t, each
  -- asked call is in t or left to be asked
  pub record Settles (asked left : (C → R) → C → Type 0) (s t : List (C × R)) : Type 0 where
    pub added : List (C × R)
    pub parts : t ≡ s ++ added
    pub in_turn : (m : C → R) → Respects eq same m → Agrees same m s → IsAskedInTurn eq same (asked m) m added
    pub complete : (m : C → R) → Respects eq same m → Agrees same m t → (c : C) → asked m c → IsTrue (held eq t c) ⊎ left m c

-- nothing is left to be asked
abbrev pub nothing_left : {C R : Type 0} → (C → R) → C → Type 0
nothing_left m c = ⊥
