use Rattle.std.proofs.Common.{◌≡◌}
use Rattle.comemo.specs.Answered.{StaysKnown}
use Rattle.comemo_branches.proofs.waves.outputs_in_threads.Given as goal

abbrev pub invariant-loop-i : goal.invariant-loop-i
invariant-loop-i g l =
    (l.round.value ≡ l.fn.round.value)
    × (l.waits ≡ l.fn.round.value)
    × StaysKnown g.Q.At.PartialEq.eq l.fn.round.known l.round.known
