-- The number that a cell holds, or why it has none.
use Rattle.std.specs.Prelude.{ℤ, Result, Ok, Err}
use Rattle.comemo_sheet.specs.declared.sheet.Content.{Content}
use Rattle.comemo_sheet.specs.declared.sheet.Content.TheVariants.{Empty, Number, Sum}
use Rattle.comemo_sheet.specs.declared.plain.NoNumber.{NoNumber}
use Rattle.comemo_sheet.specs.declared.plain.NoNumber.TheVariants as no

abbrev pub plain_number : Content → Result ℤ NoNumber
plain_number Empty = Err no.Nothing
plain_number (Number n) = Ok n
plain_number (Sum names) = Err no.Sum
