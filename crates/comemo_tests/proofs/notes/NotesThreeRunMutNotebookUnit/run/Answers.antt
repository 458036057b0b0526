use Rattle.std.proofs.Common.{rules}
use Rattle.comemo.proofs.RecordersMut.{goes_both}
use Rattle.comemo_tests.proofs.notes.NotesThreeRunMutNotebookUnit.run.Goals as goal

pub returns-clause-goes : goal.returns-clause-goes
returns-clause-goes c = goes_both (goes_both (goes_both c.in_ok-write.ensures.tells.goes c.in_ok-owner.ensures.tells.goes) c.in_ok-write-2.ensures.tells.goes) c.in_ok-write-3.ensures.tells.goes

pub returns-clause-right : goal.returns-clause-right
returns-clause-right c = λ m f. search (rules, c.in_ok-owner.ensures.tells.told m (c.in_ok-write-2.ensures.tells.before m (c.in_ok-write-3.ensures.tells.before m f)), c.in_ok-write.ensures.sent.writes, c.in_ok-write-2.ensures.sent.writes, c.in_ok-write-3.ensures.sent.writes)
