-- What is the same value is equal. A reader needn't trust it.
use Rattle.std.proofs.Common.{◌≡◌, Bool, IsTrue, sym, subst}
use Rattle.std.specs.Cmp.{IsEquivalence}

pub equal_if_same : {X : Type 0} {same : X → X → Bool} → IsEquivalence same → (x y : X) → y ≡ x → IsTrue (same x y)
equal_if_same {X} {same} laws x y e = subst (λ z. IsTrue (same x z)) (sym e) (laws.refl x)
