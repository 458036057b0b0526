use Rattle.std.proofs.Common.{◌≡◌}
use Rattle.comemo_branches.proofs.lanes.gather.Given as goal

abbrev pub invariant-loop-lane : goal.invariant-loop-lane
invariant-loop-lane g l =
    (goal.iterator-loop-lane g).can_next l.lane-iterator
    × (goal.iterator-loop-lane g).is_finite l.lane-iterator
    × (l.turns ≡ l.fn.turns)
