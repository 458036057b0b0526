use Rattle.std.proofs.Common.{refl}
use Rattle.calc_core.proofs.Lines.{prints_answer, prints_bad}
use Rattle.calc_core.proofs.Refusals.{kept_on_err}
use Rattle.calc_core.proofs.sessions.program.StateSession.answer.Goals as goal

pub returns-in-Some-clause-ok : goal.returns-in-Some-clause-ok
returns-in-Some-clause-ok c = prints_answer c.args.line.now c.text.result (rw c.in-Some.is at c.parse.ensures) c.carry_out.ensures.answer c.text.ensures.ok

pub returns-in-Some-clause-refused : goal.returns-in-Some-clause-refused
returns-in-Some-clause-refused c = kept_on_err c.text.result c.carry_out.ensures.answer c.text.ensures.err

pub returns-in-None-clause-ok : goal.returns-in-None-clause-ok
returns-in-None-clause-ok c = prints_bad c.args.line.now c.from_str.result (rw c.in-None.is at c.parse.ensures) (λ q. refl) c.from_str.ensures.ok
