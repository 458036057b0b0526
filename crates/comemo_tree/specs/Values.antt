-- The values of a tree's entries.
use Rattle.std.specs.Prelude.{List, map}
use Rattle.comemo_base.specs.Tree.{Stored}

-- the value of each entry, in the order of the entries
abbrev pub values_of : {K C R T : Type 0} → List (Stored K C R T) → List T
values_of es = map (λ e. e.value) es
