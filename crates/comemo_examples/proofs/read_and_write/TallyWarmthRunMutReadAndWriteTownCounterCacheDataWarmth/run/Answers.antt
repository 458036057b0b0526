use Rattle.comemo.proofs.RecordersMut.{goes_both}
use Rattle.comemo_examples.proofs.read_and_write.TallyWarmthRunMutReadAndWriteTownCounterCacheDataWarmth.run.Goals as goal

pub returns-clause-goes : goal.returns-clause-goes
returns-clause-goes c = goes_both c.in_ok-degrees.ensures.tells.goes c.in_ok-write_part.ensures.tells.goes
