use Rattle.std.proofs.Common.{rules}
use Rattle.comemo_layers_tests.proofs.rolls.RolledRunCellsUnit.run.Goals as goal

pub returns-clause-right : goal.returns-clause-right
returns-clause-right c = λ m f. search (rules, c.roll.ensures, c.from.ensures, c.in_ok-steps.ensures.tells.told m f)
