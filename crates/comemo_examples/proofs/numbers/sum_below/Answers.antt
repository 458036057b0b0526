use Rattle.std.proofs.Common.{arith}
use Rattle.comemo_examples.proofs.Sums.{one_more}
use Rattle.comemo_examples.proofs.numbers.sum_below.Goals as goal

pub loop-i-preserved : goal.loop-i-preserved
loop-i-preserved c = record { exact = omega (arith, one_more c.loop-i.i); small = omega arith }
