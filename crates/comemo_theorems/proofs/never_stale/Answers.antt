use Rattle.comemo_theorems.proofs.Lawful.{lawful}
use Rattle.comemo_theorems.proofs.Sound.{never_stale}
use Rattle.comemo_theorems.proofs.never_stale.Goals as goal

pub returns : goal.returns
returns g c = never_stale _ (lawful _ g.met.M.Call.Eq.laws g.met.M.Answer.Eq.laws g.met.M.Key.Eq.laws g.met.M.Function.laws)
