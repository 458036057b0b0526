use Rattle.std.proofs.Common.{rules}
use Rattle.comemo_examples.proofs.late.AddsAndGetsRunMutBothMutCounterCounterUnit.run.Goals as goal

pub returns-in-B-clause-right : goal.returns-in-B-clause-right
returns-in-B-clause-right c = λ m f. search (rules, rw c.in-B.is at c.in_ok-ask.ensures.tells.told m f)
