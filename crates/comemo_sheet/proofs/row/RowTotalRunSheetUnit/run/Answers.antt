use Rattle.std.proofs.Common.{rules, ◌≡◌}
use Rattle.std.specs.Prelude.{pos}
use Rattle.std.proofs.lemmas.List.Sums.{fold_more}
use Rattle.std.proofs.lemmas.Int.{to_z-of_z}
use Rattle.comemo.proofs.Texts.{equal_of_bytes, alike_of_told}
use Rattle.comemo_sheet.specs.Sheets.{number_in}
use Rattle.comemo_sheet.specs.SheetLaws.{number_alike}
use Rattle.comemo_sheet.specs.Totals.{plus}
use Rattle.comemo_sheet.specs.declared.sheet.SheetCall.TheVariants.{Cell}
use Rattle.comemo.proofs.Recursions.{tells_then}
use Rattle.comemo_sheet.proofs.row.RowTotalRunSheetUnit.run.Goals as goal

pub loop-name-preserved : goal.loop-name-preserved
loop-name-preserved c = tells_then c.loop-name.invariant c.in_ok-content.ensures.tells (λ m f before told.
    let number : number_in c.in_ok-content.content ≡ number_in (m (Cell c.name-item.result)) = alike_of_told m f.respects number_in number_alike (Cell c.in_ok-clone.field-0) (Cell c.name-item.result) c.in_ok-content.content (equal_of_bytes c.in_ok-clone.field-0 c.name-item.result (search rules)) told in
    search (rules, to_z-of_z, fold_more (λ total x. plus total (number_in (m (Cell x)))) (pos 0) c.args.names.now.items c.loop-name.name-index c.name-item.result))
