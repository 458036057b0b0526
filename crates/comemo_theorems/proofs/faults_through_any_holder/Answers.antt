use Rattle.comemo_theorems.proofs.Lawful.{lawful}
use Rattle.comemo_theorems.proofs.Calls.{faults_through_any_holder}
use Rattle.comemo_theorems.proofs.faults_through_any_holder.Goals as goal

pub returns : goal.returns
returns g c = λ v w s t. faults_through_any_holder _ (lawful _ g.met.M.Call.Eq.laws g.met.M.Answer.Eq.laws g.met.M.Key.Eq.laws g.met.M.Function.laws) _ _ _
