use Rattle.std.proofs.Common.{◌≡◌, ◌-◌}
use Rattle.comemo_layers_tests.specs.Rolls.{rolled}
use Rattle.comemo_layers_tests.proofs.rolls.roll.Given as goal

abbrev pub invariant-loop-turn : goal.invariant-loop-turn
invariant-loop-turn l = rolled l.steps l.first ≡ rolled (l.steps - l.turn) l.number
