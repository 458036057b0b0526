use Rattle.std.proofs.Common.{take, Ok}
use Rattle.std.specs.List.{AllZip}
use Rattle.comemo.specs.Recursive.{TellsOwn}
use Rattle.comemo_branches.specs.Branches.{BranchTold, TookEach}
use Rattle.comemo_branches.proofs.spread.map_in_turn.Given as goal

abbrev pub invariant-loop-item : goal.invariant-loop-item
invariant-loop-item g l = record {
  told : TellsOwn g.P.Branch.fits (g.P.Branch.seen l.initial.of) (g.P.Branch.seen l.of) (Ok l.outputs) (λ outputs m. AllZip (BranchTold g.F.Fn l.f g.P.Branch.seen (g.P.Branch.seen l.initial.of) g.P.Branch.fits m) (take l.item-index l.items) outputs.items);
  took : TookEach g.F.Fn l.f g.P.Branch.seen (g.P.Branch.seen l.initial.of) g.P.Branch.took (g.P.Branch.seen l.initial.of) (g.P.Branch.seen l.of) (take l.item-index l.items) l.outputs.items;
}
