-- The Fibonacci numbers.
use Rattle.std.specs.Prelude.{ℕ, zero, suc, ◌+◌}

-- the number at a place, and the one after it
abbrev pub fib_pair : ℕ → ℕ × ℕ
fib_pair zero = (0, 1)
fib_pair (suc n) = ((fib_pair n).1, (fib_pair n).0 + (fib_pair n).1)

abbrev pub fib : ℕ → ℕ
fib n = (fib_pair n).0
