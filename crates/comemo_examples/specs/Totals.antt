-- Running totals of cells.
use Rattle.std.specs.Prelude.{ℕ, zero, suc, ◌+◌, ◌%◌, ◌^◌, List, [], ◌∷◌, ◌++◌}
use Rattle.comemo_examples.specs.declared.cells.Get.{Get}
use Rattle.comemo_examples.specs.declared.notebook.NotebookCall.{NotebookCall}
use Rattle.comemo_examples.specs.declared.notebook.NotebookCall.TheVariants.{Note}

-- the total of the first n cells, modulo 2^64
abbrev pub total : (Get → ℕ) → ℕ → ℕ
total cells zero = 0
total cells (suc count) = (total cells count + cells (record { place = count })) % 2 ^ 64

-- the notes of the totals of the first cell, of the first two, and so on, up to the first n
abbrev pub notes : (Get → ℕ) → ℕ → List NotebookCall
notes cells zero = []
notes cells (suc count) = notes cells count ++ Note (total cells (suc count)) ∷ []
