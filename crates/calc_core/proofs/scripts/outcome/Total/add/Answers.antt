use Rattle.std.proofs.Common.{rules}
use Rattle.calc_core.proofs.scripts.outcome.Total.add.Goals as goal

pub returns-clause-sum : goal.returns-clause-sum
returns-clause-sum c = search rules
