use Rattle.comemo_theorems.proofs.Lawful.{lawful}
use Rattle.comemo_theorems.proofs.Ages.{hits_until_old}
use Rattle.comemo_theorems.proofs.hits_until_old.Goals as goal

pub returns : goal.returns
returns g c = hits_until_old _ (lawful _ g.met.M.Call.Eq.laws g.met.M.Answer.Eq.laws g.met.M.Key.Eq.laws g.met.M.Function.laws)
