-- The state of a `Tracked`, which keeps answers, and that these are the value's.
use Rattle.std.specs.Prelude.{◌≡◌, Bool, false, List, ◌∷◌, Option, None, IsTrue, Some, refl}
use Rattle.std.specs.Map.{lookup}
use Rattle.std.specs.Coded.{Coded, code_by, coded×, coded_list}
use Rattle.comemo_base.specs.Sequence.{held}

-- the value that the view reads, and the calls whose answers it knows, each with its answer, in no order
pub record Answered (V C R : Type 0) : Type 0 where
  pub value : V
  pub known : List (C × R)

-- the first pair, if there is one, and those that came after it
abbrev pub known_of : {P : Type 0} → Option P → List P → List P
known_of None ps = ps
known_of (Some p) ps = p ∷ ps

-- such a view is coded as the pair of its fields, which a proof needs to tell two apart
abbrev pub answered_code : {V C R : Type 0} → Coded V → Coded C → Coded R → Coded (Answered V C R)
answered_code {V} {C} {R} v c r = code_by (V × List (C × R)) (coded× v (coded_list (coded× c r))) (λ s. (s.value, s.known)) (λ p. record { value = p.0; known = p.1 }) (λ _. refl)

-- what was known stays known
abbrev pub StaysKnown : {C R : Type 0} → (C → C → Bool) → List (C × R) → List (C × R) → Type 0
StaysKnown {C} eq before after = (call : C) → IsTrue (held eq before call) → IsTrue (held eq after call)

-- the view's invariant: a known call is a read, and its known answer is the value's, which is m's
pub record IsAnswered {C R : Type 0} (eq : C → C → Bool) (w : C → Bool) (same : R → R → Bool) (m : C → R) (known : List (C × R)) : Type 0 where
  pub reads : (call : C) (answer : R) → lookup (eq call) known ≡ Some answer → w call ≡ false
  pub right : (call : C) (answer : R) → lookup (eq call) known ≡ Some answer → IsTrue (same (m call) answer)
