use Rattle.comemo.proofs.RecursionsMut.{right_alone}
use Rattle.comemo_examples.proofs.totals.NotesTotalsRunMutReadAndWriteCellsNotebookCacheDataRunningTotal.run.Goals as goal

pub returns-clause-right : goal.returns-clause-right
returns-clause-right c = right_alone c.totalled.result c.totalled.ensures.tells c.requires.begins
