-- What a write touches does not distinguish equal calls.
use Rattle.std.specs.Prelude.{◌≡◌, Bool, List, IsTrue}
use Rattle.std.specs.List.{AllZip}
use Rattle.comemo.specs.Tree.{IsSamePath}
use Rattle.comemo.specs.Writing.{touched}

module _ {C : Type 0} (eq touches : C → C → Bool) where
  -- equal writes touch equal reads, or neither does
  abbrev pub TouchesAlike : Type 0
  TouchesAlike = (c d r q : C) → IsTrue (eq c d) → IsTrue (eq r q) → touches c r ≡ touches d q

  -- so for equal lists of writes and of pairs, some write touches some read in both, or in neither
  abbrev pub TouchedAlike : {R : Type 0} → (R → R → Bool) → Type 0
  TouchedAlike {R} same =
      TouchesAlike → (V W : List C) (ps qs : List (C × R)) → AllZip (λ c d. IsTrue (eq c d)) V W → IsSamePath eq same ps qs → touched touches V ps ≡ touched touches W qs
