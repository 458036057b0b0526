use Rattle.std.proofs.Common.{◌≡◌, take}
use Rattle.std.specs.List.{fold}
use Rattle.comemo_layers_tests.specs.Rolls.{plus}
use Rattle.comemo_layers_tests.proofs.rolls.added.Given as goal

abbrev pub invariant-loop-number : goal.invariant-loop-number
invariant-loop-number l = l.total ≡ fold plus 0 (take l.number-index l.numbers)
