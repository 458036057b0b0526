use Rattle.comemo.proofs.RecordersMut.{goes_both}
use Rattle.bench_rows.proofs.refusals.NotesThreeRunMutBookUnit.run.Goals as goal

pub returns-clause-goes : goal.returns-clause-goes
returns-clause-goes c = goes_both (goes_both c.in_ok-write.ensures.tells.goes c.in_ok-write-2.ensures.tells.goes) c.in_ok-write-3.ensures.tells.goes
