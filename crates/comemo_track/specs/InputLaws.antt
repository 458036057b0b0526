-- Proofs of the laws that the trait of inputs demands. A reader needn't trust them.
use Rattle.std.proofs.Common.{◌≡◌, Bool, IsTrue, sym, subst}
use Rattle.std.specs.Cmp.{IsEquivalence}

-- a value is equal to itself
pub equal_if_one : {X : Type 0} {same : X → X → Bool} → IsEquivalence same → (x y : X) → y ≡ x → IsTrue (same x y)
equal_if_one {X} {same} laws x y e = subst (λ z. IsTrue (same x z)) (sym e) (laws.refl x)
