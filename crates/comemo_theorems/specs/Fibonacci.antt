-- Fibonacci numbers.
use Rattle.std.specs.Prelude.{ℕ, zero, suc, ◌+◌}

-- the number at an index, and the next one
abbrev pub fib_pair : ℕ → ℕ × ℕ
fib_pair zero = (0, 1)
fib_pair (suc n) = ((fib_pair n).1, (fib_pair n).0 + (fib_pair n).1)

abbrev pub fib : ℕ → ℕ
fib n = (fib_pair n).0
