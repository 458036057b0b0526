-- The value of a cell, by the cells that it refers to.
use Rattle.std.specs.Prelude.{ℕ, zero, suc, ℤ, List, String, Option, None, Some}
use Rattle.std.specs.List.{fold}
use Rattle.std.specs.Global.{Global}
use Rattle.comemo_sheet.specs.Sheets.{number_in, names_in}
use Rattle.comemo_sheet.specs.Totals.{plus}
use Rattle.comemo_sheet.specs.declared.sheet.SheetCall.{SheetCall}
use Rattle.comemo_sheet.specs.declared.sheet.SheetCall.TheVariants.{Cell}
use Rattle.comemo_sheet.specs.declared.sheet.Content.{Content}

-- the sum of two values; none if one is none
abbrev pub both : Option ℤ → Option ℤ → Option ℤ
both None value = None
both (Some total) None = None
both (Some total) (Some value) = Some (plus total value)

-- the sum of a value and the values of names, by a function from names to values
abbrev pub sum_of : (String Global → Option ℤ) → Option ℤ → List (String Global) → Option ℤ
sum_of f start names = fold (λ total name. both total (f name)) start names

-- the value of the cell of a name, by cells up to a depth of `limit`; none if it goes deeper
abbrev pub value_of : (SheetCall → Content) → ℕ → String Global → Option ℤ
value_of m zero name = None
value_of m (suc limit) name = sum_of (value_of m limit) (Some (number_in (m (Cell name)))) (names_in (m (Cell name)))
