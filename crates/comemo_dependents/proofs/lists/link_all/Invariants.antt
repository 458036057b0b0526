use Rattle.std.proofs.Common.{drop}
use Rattle.comemo_dependents.proofs.Loops.{Linked}
use Rattle.comemo_dependents.proofs.lists.link_all.Given as goal

abbrev pub invariant-loop-slot : goal.invariant-loop-slot
invariant-loop-slot g l = Linked g.K.PartialEq.eq g.C.PartialEq.eq l.initial.lists l.lists l.key (drop l.slot-index l.slot-items) l.slot-items
