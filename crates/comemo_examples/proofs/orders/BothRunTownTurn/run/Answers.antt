use Rattle.std.proofs.Common.{rules}
use Rattle.comemo_examples.proofs.orders.BothRunTownTurn.run.Goals as goal

pub returns-in_ok-degrees-in-People-clause-right : goal.returns-in_ok-degrees-in-People-clause-right
returns-in_ok-degrees-in-People-clause-right c = λ m f. search (rules, c.in_ok-degrees-in-People.ensures.tells.told m f, c.in_ok-people-in-People.ensures.tells.told m (c.in_ok-degrees-in-People.ensures.tells.before m f))

pub returns-in_ok-people-in-Degrees-clause-right : goal.returns-in_ok-people-in-Degrees-clause-right
returns-in_ok-people-in-Degrees-clause-right c = λ m f. search (rules, c.in_ok-people-in-Degrees.ensures.tells.told m f, c.in_ok-degrees-in-Degrees.ensures.tells.told m (c.in_ok-people-in-Degrees.ensures.tells.before m f))
