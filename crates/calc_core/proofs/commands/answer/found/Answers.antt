use Rattle.std.proofs.Common.{refl}
use Rattle.calc_core.proofs.commands.answer.found.Goals as goal

pub returns-then-hit : goal.returns-then-hit
returns-then-hit c = rw c.if-hit.true refl

pub returns-else-hit : goal.returns-else-hit
returns-else-hit c = rw c.if-hit.false refl
