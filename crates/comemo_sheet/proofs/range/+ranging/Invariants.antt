use Rattle.std.proofs.Common.{◌≡◌, ◌+◌, ◌*◌, take, Ok, pos}
use Rattle.std.specs.Prelude.{Some}
use Rattle.comemo.specs.Function.{Fits}
use Rattle.comemo.specs.Recursive.{TellsOwn}
use Rattle.comemo_sheet.specs.Values.{sum_of, value_of}
use Rattle.comemo_sheet.specs.contracts.sheet.SheetCallPartialEq.TheImpl as call
use Rattle.comemo_sheet.specs.contracts.sheet.ContentPartialEq.TheImpl as content
use Rattle.comemo_sheet.proofs.range.+ranging.Given as goal

abbrev pub decreases-ranged : goal.decreases-ranged
decreases-ranged g l = 2 * l.limit

abbrev pub decreases-range_total : goal.decreases-range_total
decreases-range_total g l = 2 * l.range.limit + 1

abbrev pub invariant-range_total-loop-name : goal.invariant-range_total-loop-name
invariant-range_total-loop-name g l = TellsOwn (Fits call.ghosts.eq content.ghosts.eq) l.initial.recorder l.recorder (Ok l.total) (λ total m. total ≡ sum_of (value_of m l.fn.range.limit) (Some (pos 0)) (take l.name-index l.fn.range.names.items))
