use Rattle.std.proofs.Common.{rules}
use Rattle.calc_core.proofs.commands.answer.Answer.text.Goals as goal

pub returns-in-Size-clause-ok : goal.returns-in-Size-clause-ok
returns-in-Size-clause-ok c = search rules
