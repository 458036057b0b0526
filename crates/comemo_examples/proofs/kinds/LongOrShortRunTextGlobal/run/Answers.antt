use Rattle.std.proofs.Common.{rules}
use Rattle.comemo_examples.proofs.Answered.{told_length}
use Rattle.comemo_examples.specs.declared.kinds.TextCall.TheVariants.{LengthPlus}
use Rattle.comemo_examples.proofs.kinds.LongOrShortRunTextGlobal.run.Goals as goal

pub returns-clause-right : goal.returns-clause-right
returns-clause-right c = λ m f. search (rules, told_length (m (LengthPlus 5)) c.in-Length.length (rw c.in-Length.is at c.in_ok-length.ensures.tells.told m f))
