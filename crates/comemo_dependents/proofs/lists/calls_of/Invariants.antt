use Rattle.std.proofs.Common.{drop}
use Rattle.comemo_dependents.proofs.Loops.{Copied}
use Rattle.comemo_dependents.proofs.lists.calls_of.Given as goal

abbrev pub invariant-loop-slot : goal.invariant-loop-slot
invariant-loop-slot g l = Copied g.C.PartialEq.eq l.calls.items (drop l.slot-index l.slot-items) l.slot-items
