-- A number that is costly to find, and totals of numbers.
use Rattle.std.specs.Prelude.{ℕ, zero, suc, ◌+◌, ◌*◌, ◌%◌, ◌^◌, ◌==◌, Bool, List, map}
use Rattle.std.specs.List.{fold}
use Rattle.comemo_cutoff.specs.declared.cells.Get.{Get}

-- the next number
abbrev pub step : ℕ → ℕ
step x = (x * 6364136223846793005 % 2 ^ 64 + 1442695040888963407) % 2 ^ 64

-- x after so many steps
abbrev pub rolled : ℕ → ℕ → ℕ
rolled zero x = x
rolled (suc n) x = rolled n (step x)

-- the place after as many steps as its number says
abbrev pub rolled_at : (Get → ℕ) → ℕ → ℕ
rolled_at m place = rolled (m (record { place = place })) place

-- a sum that wraps at 64 bits
abbrev pub plus : ℕ → ℕ → ℕ
plus t x = (t + x) % 2 ^ 64

-- the total of these places
abbrev pub total : (Get → ℕ) → List ℕ → ℕ
total m places = fold plus 0 (map (rolled_at m) places)

-- the number of a place
abbrev pub number_at : (Get → ℕ) → ℕ → ℕ
number_at m place = m (record { place = place })

-- the total of the numbers of these places
abbrev pub summed : (Get → ℕ) → List ℕ → ℕ
summed m places = fold plus 0 (map (number_at m) places)

-- whether the number of a place is odd
abbrev pub is_odd_at : (Get → ℕ) → ℕ → Bool
is_odd_at m place = number_at m place % 2 == 1
