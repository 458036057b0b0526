-- The marks of a ruler.
use Rattle.std.specs.Prelude.{ℕ, zero, suc, List, [], ◌∷◌, ◌++◌}
use Rattle.comemo_examples.specs.declared.notebook.NotebookCall.{NotebookCall}
use Rattle.comemo_examples.specs.declared.notebook.NotebookCall.TheVariants.{Note}

-- the notes that draw the marks up to a height, for an owner: the lower marks, the mark itself with its owner, and the lower
-- marks again
abbrev pub marks : ℕ → ℕ → List NotebookCall
marks owner zero = []
marks owner (suc height) = marks owner height ++ Note (suc height) ∷ Note owner ∷ marks owner height
