use Rattle.std.proofs.Common.{rules}
use Rattle.comemo.proofs.Texts.{equal_of_bytes, alike_of_told}
use Rattle.comemo_sheet.specs.Plain.{plain_number}
use Rattle.comemo_sheet.specs.PlainLaws.{plain_alike}
use Rattle.comemo_sheet.specs.declared.sheet.SheetCall.TheVariants.{Cell}
use Rattle.comemo_sheet.proofs.plain.PlainNumberRunSheetUnit.run.Goals as goal

pub returns-clause-right : goal.returns-clause-right
returns-clause-right c = λ m f. search (rules, alike_of_told m f.respects plain_number plain_alike (Cell c.in_ok-clone.field-0) (Cell c.args.name.now) c.in_ok-content.content (equal_of_bytes c.in_ok-clone.field-0 c.args.name.now (search rules)) (c.in_ok-content.ensures.tells.told m f))
