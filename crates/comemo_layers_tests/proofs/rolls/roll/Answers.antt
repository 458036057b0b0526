use Rattle.std.proofs.Common.{arith, ◌≡◌, ◌-◌, ◌+◌, ◌∙◌, suc, ap}
use Rattle.comemo_layers_tests.specs.Rolls.{rolled}
use Rattle.comemo_layers_tests.proofs.rolls.roll.Goals as goal

pub loop-turn-preserved : goal.loop-turn-preserved
loop-turn-preserved c =
    let e : c.args.steps - c.loop-turn.turn ≡ suc (c.args.steps - (c.loop-turn.turn + 1)) = omega (arith, c.loop-turn-test.true) in
    c.loop-turn.invariant ∙ ap (λ k. rolled k c.loop-turn.number) e
