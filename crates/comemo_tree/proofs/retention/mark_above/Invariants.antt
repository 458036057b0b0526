use Rattle.std.proofs.Common.{None}
use Rattle.comemo_tree.specs.Marks.{IsMarking, IsMarkingUp, AreMarkedBelow, height}
use Rattle.comemo_tree.proofs.retention.mark_above.Given as goal

abbrev pub invariant-up : goal.invariant-up
invariant-up g l = record { up : IsMarkingUp l.fn.inner l.inner l.leaves l.low l.up }

abbrev pub decreases-up : goal.decreases-up
decreases-up g l = height l.fn.inner l.up

abbrev pub invariant-leaves : goal.invariant-leaves
invariant-leaves g l = record {
  marking : IsMarking l.fn.inner l.inner l.leaves None;
  before : AreMarkedBelow l.inner l.leaves l.low;
}
