use Rattle.comemo_theorems.proofs.Lawful.{lawful}
use Rattle.comemo_theorems.proofs.Calls.{as_plain_list}
use Rattle.comemo_theorems.proofs.as_plain_list.Goals as goal

pub returns : goal.returns
returns g c = λ s t. as_plain_list _ (lawful _ g.met.M.Call.Eq.laws g.met.M.Answer.Eq.laws g.met.M.Key.Eq.laws g.met.M.Function.laws) _ _
