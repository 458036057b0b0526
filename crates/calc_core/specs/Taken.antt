-- What was taken of a script so far.
use Rattle.std.specs.Prelude.{ℕ, ℤ}

-- the sum and the greatest height of the parts that were taken
pub record Taken : Type 0 where
  pub sum : ℤ
  pub height : ℕ
