use Rattle.comemo_theorems.proofs.Calls.{faults_spread}
use Rattle.comemo_theorems.proofs.faults_spread.Goals as goal

pub returns : goal.returns
returns g c = λ late s t. faults_spread _ _ _
