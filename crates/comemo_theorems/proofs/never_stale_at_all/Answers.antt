use Rattle.comemo_theorems.proofs.Lawful.{lawful}
use Rattle.comemo_theorems.proofs.Sound.{never_stale_at_all}
use Rattle.comemo_theorems.proofs.never_stale_at_all.Goals as goal

pub returns : goal.returns
returns g c = never_stale_at_all _ (lawful _ g.met.M.Call.Eq.laws g.met.M.Answer.Eq.laws g.met.M.Key.Eq.laws g.met.M.Function.laws)
