use Rattle.std.proofs.Common.{rules}
use Rattle.comemo_examples.proofs.orders.ExceedsRunTownUnit.run.Goals as goal

pub returns-then-people-n-clause-right : goal.returns-then-people-n-clause-right
returns-then-people-n-clause-right c = λ m f. search (rules, c.in_ok-people.ensures.tells.told m f)

pub returns-in_ok-ask-clause-right : goal.returns-in_ok-ask-clause-right
returns-in_ok-ask-clause-right c = λ m f. search (rules, c.in_ok-ask.ensures.tells.told m f, c.in_ok-people.ensures.tells.told m (c.in_ok-ask.ensures.tells.before m f))
