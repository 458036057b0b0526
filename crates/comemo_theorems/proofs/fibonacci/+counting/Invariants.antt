use Rattle.std.proofs.Common.{◌+◌, ◌*◌}
use Rattle.comemo_theorems.proofs.fibonacci.+counting.Given as goal

abbrev pub decreases-from_before : goal.decreases-from_before
decreases-from_before l = 2 * l.place

abbrev pub decreases-numbered : goal.decreases-numbered
decreases-numbered l = 2 * l.place + 1
