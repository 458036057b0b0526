use Rattle.comemo_theorems.proofs.Lawful.{lawful}
use Rattle.comemo_theorems.proofs.Calls.{nothing_lost}
use Rattle.comemo_theorems.proofs.nothing_lost.Goals as goal

pub returns : goal.returns
returns g c = nothing_lost _ (lawful _ g.met.M.Call.Eq.laws g.met.M.Answer.Eq.laws g.met.M.Key.Eq.laws g.met.M.Function.laws)
