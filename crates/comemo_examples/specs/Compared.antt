-- Cells that are equal, place by place.
use Rattle.std.specs.Prelude.{ℕ, zero, suc, Bool, true, nat_eq, ◌&&◌}
use Rattle.comemo_examples.specs.declared.cells.Get.{Get}

-- the first n cells are equal
abbrev pub all_equal : (Get → ℕ) → (Get → ℕ) → ℕ → Bool
all_equal one other zero = true
all_equal one other (suc count) = all_equal one other count && nat_eq (one (record { place = count })) (other (record { place = count }))
