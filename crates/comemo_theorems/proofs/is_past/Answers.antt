use Rattle.comemo_theorems.proofs.Lawful.{lawful}
use Rattle.comemo_theorems.proofs.Sound.{is_past}
use Rattle.comemo_theorems.proofs.is_past.Goals as goal

pub returns : goal.returns
returns g c = is_past _ (lawful _ g.met.M.Call.Eq.laws g.met.M.Answer.Eq.laws g.met.M.Key.Eq.laws g.met.M.Function.laws)
