use Rattle.std.proofs.Common.{rules}
use Rattle.comemo_layers_tests.proofs.counted.PairRunUnit.run.Goals as goal

pub returns-clause-right : goal.returns-clause-right
returns-clause-right g c = λ m f. search (rules, c.in_ok-other.ensures.tells.told m f, c.in_ok-one.ensures.tells.told m (c.in_ok-other.ensures.tells.before m f))
