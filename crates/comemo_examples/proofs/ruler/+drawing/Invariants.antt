use Rattle.std.proofs.Common.{◌+◌, ◌*◌}
use Rattle.comemo_examples.proofs.ruler.+drawing.Given as goal

abbrev pub decreases-draw : goal.decreases-draw
decreases-draw g l = 2 * l.height

abbrev pub decreases-ruled : goal.decreases-ruled
decreases-ruled g l = 2 * l.height + 1
