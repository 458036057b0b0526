-- The sum of the first numbers, each without its last digit.
use Rattle.std.specs.Prelude.{ℕ, zero, suc, ◌+◌, ◌/◌, ◌%◌, ◌^◌}
use Rattle.comemo_cutoff.specs.declared.cells.Get.{Get}

abbrev pub rounded : (Get → ℕ) → ℕ → ℕ
rounded m zero = 0
rounded m (suc k) = (rounded m k + m (record { place = k }) / 10) % 2 ^ 64

-- the same by the number at each place and the sum before
abbrev pub round_by : ℕ → (ℕ → ℕ) → (ℕ → ℕ) → ℕ
round_by zero number before = 0
round_by (suc k) number before = (before k + number k / 10) % 2 ^ 64
