use Rattle.std.proofs.Common.{take, length, Ok}
use Rattle.std.specs.List.{AllZip}
use Rattle.comemo.specs.Recursive.{TellsOwn}
use Rattle.comemo_branches.specs.Branches.{BranchTold, TookEach}
use Rattle.comemo_branches.proofs.ended.join_each.Given as goal

abbrev pub invariant-loop-end : goal.invariant-loop-end
invariant-loop-end g l = record {
  told : TellsOwn g.P.Branch.fits (g.P.Branch.seen l.initial.of) (g.P.Branch.seen l.of) (Ok l.outputs) (λ outputs m. AllZip (BranchTold g.F.Fn l.f g.P.Branch.seen (g.P.Branch.seen l.initial.of) g.P.Branch.fits m) (take (length l.yielded) l.items) outputs.items);
  took : TookEach g.F.Fn l.f g.P.Branch.seen (g.P.Branch.seen l.initial.of) g.P.Branch.took (g.P.Branch.seen l.initial.of) (g.P.Branch.seen l.of) (take (length l.yielded) l.items) l.outputs.items;
}
