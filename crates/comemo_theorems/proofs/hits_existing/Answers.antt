use Rattle.comemo_theorems.proofs.Lawful.{lawful}
use Rattle.comemo_theorems.proofs.Again.{hits_existing}
use Rattle.comemo_theorems.proofs.hits_existing.Goals as goal

pub returns : goal.returns
returns g c = hits_existing _ (lawful _ g.met.M.Call.Eq.laws g.met.M.Answer.Eq.laws g.met.M.Key.Eq.laws g.met.M.Function.laws)
