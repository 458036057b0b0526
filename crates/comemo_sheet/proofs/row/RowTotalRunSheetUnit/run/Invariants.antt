use Rattle.std.proofs.Common.{◌≡◌, take, Ok}
use Rattle.comemo.specs.Function.{Fits, Tells}
use Rattle.comemo_sheet.specs.Totals.{total_of}
use Rattle.comemo_sheet.specs.contracts.sheet.SheetCallPartialEq.TheImpl as call
use Rattle.comemo_sheet.specs.contracts.sheet.ContentPartialEq.TheImpl as content
use Rattle.comemo_sheet.proofs.row.RowTotalRunSheetUnit.run.Given as goal

abbrev pub invariant-loop-name : goal.invariant-loop-name
invariant-loop-name l = Tells (Fits call.ghosts.eq content.ghosts.eq) l.initial.sheet l.sheet (Ok l.total) (λ total m. total ≡ total_of m (take l.name-index l.names.items))
