use Rattle.comemo_cache.proofs.Holding.{found_untold}
use Rattle.comemo_cache.proofs.shared.SharedHold.look.Goals as goal

pub returns-clause-found : goal.returns-clause-found
returns-clause-found g c = found_untold _ _ c.look.result c.look.ensures.found
