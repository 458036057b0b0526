use Rattle.comemo_tests.proofs.Failing.{on_reply}
use Rattle.comemo_tests.proofs.faults.CallingRunContextTuple2CacheDataFailingCacheDataRefused.run.Goals as goal

pub returns-clause-right : goal.returns-clause-right
returns-clause-right c = on_reply (λ output told m fits. told m fits) c.call.result c.call.ensures.tells.told
