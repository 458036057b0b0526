use Rattle.comemo_examples.proofs.Answered.{told_text}
use Rattle.comemo_examples.specs.declared.kinds.TextCall.TheVariants.{Itself}
use Rattle.comemo_examples.proofs.kinds.SelfieRunTextUnit.run.Goals as goal

pub returns-clause-right : goal.returns-clause-right
returns-clause-right c = λ m f. told_text (m Itself) c.in-Text.itself (rw c.in-Text.is at c.in_ok-itself.ensures.tells.told m f)
