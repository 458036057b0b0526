-- Fibonacci numbers, each from the two before it.
use Rattle.std.proofs.Common.{◌≡◌, ◌≤◌, ◌+◌, ◌-◌, ℕ, zero, suc, arith, sym, ap, ◌∙◌}
use Rattle.comemo_theorems.specs.Fibonacci.{fib}

pub fib_from_before : (n : ℕ) → 2 ≤ n → fib n ≡ fib (n - 2) + fib (n - 1)
fib_from_before zero h = absurd (omega arith)
fib_from_before (suc zero) h = absurd (omega arith)
fib_from_before (suc (suc n)) h =
    let two : suc (suc n) - 2 ≡ n = omega arith in
    let one : suc (suc n) - 1 ≡ suc n = omega arith in
    ap (λ k. fib k + fib (suc n)) (sym two) ∙ ap (λ k. fib (suc (suc n) - 2) + fib k) (sym one)
