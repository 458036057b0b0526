use Rattle.std.proofs.Common.{rules}
use Rattle.comemo_examples.proofs.both_pass.BothPassRunTownUnit.run.Goals as goal

pub returns-clause-right : goal.returns-clause-right
returns-clause-right c = λ m f. search (rules, c.in_ok-people.ensures.told m f)
