use Rattle.std.proofs.Common.{◌+◌, ◌*◌}
use Rattle.comemo_examples.proofs.totals.+totalling.Given as goal

abbrev pub decreases-add_up : goal.decreases-add_up
decreases-add_up g l = 2 * l.count

abbrev pub decreases-totalled : goal.decreases-totalled
decreases-totalled g l = 2 * l.count + 1
