use Rattle.std.proofs.Common.{rules}
use Rattle.comemo_examples.specs.declared.town.TownCall.TheVariants.{Degrees}
use Rattle.comemo_examples.proofs.tally.TallyRunMutBothMutTownCounterUnit.run.Goals as goal

pub returns-clause-right : goal.returns-clause-right
returns-clause-right c = λ m f. (search rules, λ town counter p q. search (rules, rw (p Degrees) at (rw c.in-A.is at c.in_ok-degrees.ensures.tells.told m (c.in_ok-write.ensures.tells.before m f))))
