-- The sum of the first numbers without their last digits is that by the sum before.
use Rattle.std.proofs.Common.{◌≡◌, ◌≤◌, ◌-◌, ◌+◌, ◌/◌, ◌%◌, ◌^◌, ℕ, zero, suc, refl, arith}
use Rattle.comemo_cutoff.specs.declared.cells.Get.{Get}
use Rattle.comemo_cutoff.specs.Rounds.{round_by, rounded}

pub one_less : (number before : ℕ → ℕ) (count : ℕ) → 1 ≤ count → round_by count number before ≡ (before (count - 1) + number (count - 1) / 10) % 2 ^ 64
one_less number before zero h = absurd (omega arith)
one_less number before (suc k) h = let e : suc k - 1 ≡ k = omega arith in rw e refl

pub by_before : (m : Get → ℕ) (count : ℕ) → rounded m count ≡ round_by count (λ place. m (record { place = place })) (rounded m)
by_before m zero = refl
by_before m (suc k) = refl
