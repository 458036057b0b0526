use Rattle.comemo_theorems.proofs.Calls.{faults_keep}
use Rattle.comemo_theorems.proofs.faults_keep.Goals as goal

pub returns : goal.returns
returns g c = λ v w s t. faults_keep _ _ _ _
