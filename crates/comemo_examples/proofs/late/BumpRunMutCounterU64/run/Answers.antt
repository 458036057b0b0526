use Rattle.std.proofs.Common.{rules}
use Rattle.comemo_examples.proofs.late.BumpRunMutCounterU64.run.Goals as goal

pub returns-clause-right : goal.returns-clause-right
returns-clause-right c = λ m f. search (rules, c.in_ok-number.ensures.tells.told m (c.in_ok-write.ensures.tells.before m f))
