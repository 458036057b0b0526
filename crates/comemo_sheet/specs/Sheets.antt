-- What a sheet answers, and what an answer holds.
use Rattle.std.specs.Prelude.{ℕ, ℤ, pos, List, [], String, string_bytes, unwrap_or}
use Rattle.std.specs.Global.{Global}
use Rattle.std.specs.HashMap.{HashMap, get_by_text}
use Rattle.comemo_sheet.specs.declared.sheet.SheetCall.{SheetCall}
use Rattle.comemo_sheet.specs.declared.sheet.SheetCall.TheVariants.{Cell}
use Rattle.comemo_sheet.specs.declared.sheet.Content.{Content}
use Rattle.comemo_sheet.specs.declared.sheet.Content.TheVariants.{Empty, Number, Sum}

-- the content of the cell of a name; a cell that was never set is empty
abbrev pub content_of : {H : Type 0} → HashMap (String Global) Content H → List ℕ → Content
content_of cells name = unwrap_or (get_by_text cells name) Empty

-- what a sheet answers to a call
abbrev pub cell_answer : {H : Type 0} → HashMap (String Global) Content H → SheetCall → Content
cell_answer cells (Cell name) = content_of cells (string_bytes name)

-- the number that a cell holds itself; 0 if none
abbrev pub number_in : Content → ℤ
number_in Empty = pos 0
number_in (Number n) = n
number_in (Sum names) = pos 0

-- the names of the cells whose sum a content is; empty if it is no sum
abbrev pub names_in : Content → List (String Global)
names_in Empty = []
names_in (Number n) = []
names_in (Sum names) = names.items
