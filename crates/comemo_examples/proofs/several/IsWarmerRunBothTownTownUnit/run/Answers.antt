use Rattle.std.proofs.Common.{rules}
use Rattle.comemo_examples.proofs.several.IsWarmerRunBothTownTownUnit.run.Goals as goal

pub returns-clause-right : goal.returns-clause-right
returns-clause-right c = λ m f one other p q. search (rules, c.in_ok-other.ensures.tells.told m f other q, c.in_ok-one.ensures.tells.told m (c.in_ok-other.ensures.tells.before m f) one p)
