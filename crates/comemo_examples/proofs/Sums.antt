-- The sum of the numbers below a number, and one more.
use Rattle.std.proofs.Common.{◌≡◌, ℕ, zero, suc, ◌+◌, arith, add-one}
use Rattle.std.specs.List.{sum, range_with_len}
use Rattle.std.proofs.lemmas.List.Sums.{sum_by-cons}

after : (a n : ℕ) → sum (range_with_len a (suc n)) ≡ sum (range_with_len a n) + (a + n)
after a zero = omega arith
after a (suc n) =
    let all : sum (range_with_len a (suc (suc n))) ≡ a + sum (range_with_len (a + 1) (suc n)) = sum_by-cons (λ x. x) a (range_with_len (a + 1) (suc n)) in
    let part : sum (range_with_len a (suc n)) ≡ a + sum (range_with_len (a + 1) n) = sum_by-cons (λ x. x) a (range_with_len (a + 1) n) in
    omega (arith, after (a + 1) n)

pub one_more : (n : ℕ) → sum (range_with_len 0 (n + 1)) ≡ sum (range_with_len 0 n) + n
one_more n = rw add-one (omega (arith, after 0 n))
