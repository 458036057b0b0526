use Rattle.std.proofs.Common.{[], inr, refl, rules}
use Rattle.comemo_cache.proofs.shared.SharedHold.touch.Goals as goal

pub returns : goal.returns
returns g c = ([], [], inr (search rules, refl))
