-- Calls to tracked values.
use Rattle.std.specs.Prelude.{◌≡◌, Bool, IsTrue}

-- equal calls are both reads or both writes, and a clone of a call is equal to it
pub record CallLaws {C : Type 0} (eq : C → C → Bool) (clone : C → C → Type 0) (is_write : C → Bool) : Type 0 where
  pub same_kind : (x y : C) → IsTrue (eq x y) → is_write x ≡ is_write y
  pub clones : (x y : C) → clone x y → IsTrue (eq x y)
