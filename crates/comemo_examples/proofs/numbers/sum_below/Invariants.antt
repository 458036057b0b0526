use Rattle.std.proofs.Common.{◌≡◌, ◌≤◌, ◌*◌, ◌^◌}
use Rattle.std.specs.List.{sum, range_with_len}
use Rattle.comemo_examples.proofs.numbers.sum_below.Given as goal

abbrev pub invariant-loop-i : goal.invariant-loop-i
invariant-loop-i l = record { exact : l.total ≡ sum (range_with_len 0 l.i); small : l.total ≤ l.i * 2 ^ 32 }
