use Rattle.std.proofs.Common.{rules}
use Rattle.comemo_examples.proofs.report.ReportRunTownKept.run.Goals as goal

pub returns-then-branch-clause-right : goal.returns-then-branch-clause-right
returns-then-branch-clause-right c = λ m f. search (rules, c.in_ok-warmth.ensures.tells.told m f, c.in_ok-call.ensures.tells.told m (c.in_ok-warmth.ensures.tells.before m f))
