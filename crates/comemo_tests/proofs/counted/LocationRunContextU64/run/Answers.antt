use Rattle.comemo_tests.proofs.Failing.{on_reply}
use Rattle.comemo_tests.proofs.Numbers.{same_number}
use Rattle.comemo_tests.proofs.counted.LocationRunContextU64.run.Goals as goal

pub returns-clause-right : goal.returns-clause-right
returns-clause-right c = on_reply (λ output told m fits. same_number _ _ (told m fits)) c.ask.result c.ask.ensures.tells.told
