use Rattle.std.proofs.Common.{◌+◌, ap}
use Rattle.calc_core.proofs.scripts.outcome.Total.outcome.Goals as goal

pub returns-clause-height : goal.returns-clause-height
returns-clause-height c = ap (λ taken. taken.height + 1) c.self.view_is
