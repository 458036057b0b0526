use Rattle.std.proofs.Common.{◌+◌, ◌*◌}
use Rattle.comemo_layers_tests.proofs.kinds.+halves.Given as goal

abbrev pub decreases-halved : goal.decreases-halved
decreases-halved g l = 2 * l.depth

abbrev pub decreases-low : goal.decreases-low
decreases-low g l = 2 * l.below + 1

abbrev pub decreases-high : goal.decreases-high
decreases-high g l = 2 * l.below + 1
