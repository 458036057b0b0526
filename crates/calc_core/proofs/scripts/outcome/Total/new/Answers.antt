use Rattle.std.proofs.Common.{refl}
use Rattle.calc_core.proofs.scripts.outcome.Total.new.Goals as goal

pub returns : goal.returns
returns c = refl
