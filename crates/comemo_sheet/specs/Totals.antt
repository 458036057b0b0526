-- The total of a row of cells.
use Rattle.std.specs.Prelude.{ℤ, pos, ◌+ℤ◌, List, String}
use Rattle.std.specs.List.{fold}
use Rattle.std.specs.Int.{int_wrap, w64}
use Rattle.std.specs.Global.{Global}
use Rattle.comemo_sheet.specs.Sheets.{number_in}
use Rattle.comemo_sheet.specs.declared.sheet.SheetCall.{SheetCall}
use Rattle.comemo_sheet.specs.declared.sheet.SheetCall.TheVariants.{Cell}
use Rattle.comemo_sheet.specs.declared.sheet.Content.{Content}

-- the sum of two numbers, which wraps at 64 bits
abbrev pub plus : ℤ → ℤ → ℤ
plus total number = int_wrap w64 (total +ℤ number)

-- the sum of the numbers that the cells of these names hold
abbrev pub total_of : (SheetCall → Content) → List (String Global) → ℤ
total_of m names = fold (λ total name. plus total (number_in (m (Cell name)))) (pos 0) names
