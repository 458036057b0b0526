use Rattle.std.proofs.Common.{drop}
use Rattle.comemo_dependents.proofs.Loops.{Unlinked}
use Rattle.comemo_dependents.proofs.lists.unlink_all.Given as goal

abbrev pub invariant-loop-call : goal.invariant-loop-call
invariant-loop-call g l = Unlinked g.K.PartialEq.eq g.C.PartialEq.eq l.initial.lists l.lists l.key (drop l.call-index l.calls) l.calls
