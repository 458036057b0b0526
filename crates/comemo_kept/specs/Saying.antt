-- What is known of answers that are kept.
use Rattle.std.specs.Prelude.{◌≡◌, Bool, IsTrue, List, Some}
use Rattle.std.specs.Map.{lookup}

-- it says just these answers, up to equality
abbrev pub SaysJust : {C R : Type 0} → (C → R → Bool) → (R → R → Bool) → (C → R) → Type 0
SaysJust {C} {R} says same m = (call : C) (answer : R) → says call answer ≡ same (m call) answer

-- an answer to a call is one too if both are replaced by equal ones
abbrev pub SaysAlike : {C R : Type 0} → (C → C → Bool) → (R → R → Bool) → (C → R → Bool) → Type 0
SaysAlike {C} {R} eq same says = (c d : C) (a b : R) → IsTrue (eq c d) → IsTrue (same a b) → IsTrue (says c a) → IsTrue (says d b)

-- the kept answer to a call, if there is one, is an answer to it
pub record AreSaid {C R : Type 0} (eq : C → C → Bool) (same : R → R → Bool) (says : C → R → Bool) (kept : List (C × R)) : Type 0 where
  pub alike : SaysAlike eq same says
  pub said : (call : C) (answer : R) → lookup (eq call) kept ≡ Some answer → IsTrue (says call answer)
