use Rattle.std.proofs.Common.{IsTrue, take}
use Rattle.std.specs.List.{All, AllZip}
use Rattle.comemo.specs.Sequence.{held}
use Rattle.comemo_branches.proofs.waves.known_outputs.Given as goal

abbrev pub invariant-loop-key : goal.invariant-loop-key
invariant-loop-key g l =
    AllZip (λ key output. IsTrue (g.Q.Output.PartialEq.eq (g.Q.Query.gives key (g.T.Track.answers l.round.value)) output)) (take l.key-index l.keys) l.outputs.items
    × All (λ key. IsTrue (held g.Q.At.PartialEq.eq l.round.known key)) (take l.key-index l.keys)
