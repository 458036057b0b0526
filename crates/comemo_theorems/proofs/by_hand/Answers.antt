use Rattle.comemo_theorems.proofs.Calls.{by_hand}
use Rattle.comemo_theorems.proofs.by_hand.Goals as goal

pub returns : goal.returns
returns g c = λ late s t. by_hand _ _
