use Rattle.std.proofs.Common.{◌≡◌}
use Rattle.comemo.specs.Answered.{StaysKnown}
use Rattle.comemo_branches.proofs.waits.Waits.settle_each.Given as goal

abbrev pub invariant-loop-take : goal.invariant-loop-take
invariant-loop-take g l =
    (goal.iterator-loop-take g).can_next l.take-iterator
    × (goal.iterator-loop-take g).is_finite l.take-iterator
    × (l.self ≡ l.fn.self)
    × (l.round.value ≡ l.fn.round.value)
    × StaysKnown g.Q.At.PartialEq.eq l.fn.round.known l.round.known
