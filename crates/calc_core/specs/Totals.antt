-- How a part changes the sum, and the value at the end.
use Rattle.std.specs.Prelude.{◌≡◌, ℤ, ◌+ℤ◌, Result, Ok, Err}
use Rattle.calc_core.specs.declared.scripts.outcome.CalcFault.{CalcFault}
use Rattle.calc_core.specs.declared.scripts.outcome.CalcFault.TheVariants.{Overflow}
use Rattle.calc_core.specs.Meaning.{Value, Fits}

-- after a part of this value the sum is this one, and this is returned
abbrev pub IsAdded : ℤ → Value → ℤ → Result (Unit {0}) CalcFault → Type 0
IsAdded sum (Ok n) new (Ok _) = Fits (sum +ℤ n) × (new ≡ sum +ℤ n)
IsAdded sum (Ok n) new (Err fault) = ¬ Fits (sum +ℤ n) × (fault ≡ Overflow) × (new ≡ sum)
IsAdded sum (Err fault) new (Ok _) = ⊥
IsAdded sum (Err fault) new (Err answered) = (answered ≡ fault) × (new ≡ sum)

-- the value of a script whose parts ended with this sum and this result
abbrev pub value_at : ℤ → Result (Unit {0}) CalcFault → Value
value_at sum (Ok _) = Ok sum
value_at sum (Err fault) = Err fault
