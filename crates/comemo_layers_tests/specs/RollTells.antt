-- What branches are told that ask a place.
use Rattle.std.specs.Prelude.{◌≡◌, Bool, ℕ, nat_eq, Result}
use Rattle.comemo.specs.Function.{Recorded, Fits}
use Rattle.comemo.specs.Recursive.{TellsOwn}
use Rattle.comemo.specs.declared.pending.Fault.{Fault}
use Rattle.comemo_layers_tests.specs.Rolls.{is_odd_at, number_at, rolled_at}
use Rattle.comemo_cutoff.specs.declared.cells.Cells.{Cells}
use Rattle.comemo_cutoff.specs.declared.cells.Get.{Get}
use Rattle.comemo_cutoff.specs.contracts.cells.GetPartialEq.TheImpl as get

-- the result is the number of this place
abbrev pub TellsRolled : ℕ → Recorded Cells Get ℕ → Recorded Cells Get ℕ → Result ℕ Fault → Type 0
TellsRolled place s t r = TellsOwn (Fits get.ghosts.eq nat_eq) s t r (λ number m. number ≡ rolled_at m place)

-- the result is what is at this place
abbrev pub TellsNumber : ℕ → Recorded Cells Get ℕ → Recorded Cells Get ℕ → Result ℕ Fault → Type 0
TellsNumber place s t r = TellsOwn (Fits get.ghosts.eq nat_eq) s t r (λ number m. number ≡ number_at m place)

-- the result is whether that is odd
abbrev pub TellsOdd : ℕ → Recorded Cells Get ℕ → Recorded Cells Get ℕ → Result Bool Fault → Type 0
TellsOdd place s t r = TellsOwn (Fits get.ghosts.eq nat_eq) s t r (λ odd m. odd ≡ is_odd_at m place)

-- the result may be any number
abbrev pub TellsSomething : Recorded Cells Get ℕ → Recorded Cells Get ℕ → Result ℕ Fault → Type 0
TellsSomething s t r = TellsOwn (Fits get.ghosts.eq nat_eq) s t r (λ _ _. Unit {0})
