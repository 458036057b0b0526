use Rattle.std.proofs.Common.{◌≡◌}
use Rattle.comemo_track.specs.Answered.{StaysKnown}
use Rattle.comemo.proofs.round.Round.output.Given as goal

abbrev pub invariant-loop-i : goal.invariant-loop-i
invariant-loop-i g l =
    (l.self.value ≡ l.fn.self.value)
    × (l.key ≡ l.fn.key)
    × (l.trail ≡ l.fn.self.value)
    × StaysKnown g.Q.At.PartialEq.eq l.fn.self.known l.self.known
