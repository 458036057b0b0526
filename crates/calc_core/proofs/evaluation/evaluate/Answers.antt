use Rattle.std.proofs.Common.{refl, inl}
use Rattle.calc_core.specs.ScriptCalls.{is_refused}
use Rattle.calc_core.specs.Files.{answers_of, with_key}
use Rattle.calc_core.specs.Joined.{same_answer}
use Rattle.calc_core.proofs.WhatReadsTell.{broke_at_once}
use Rattle.calc_core.proofs.evaluation.evaluate.Goals as goal

pub returns-in-Ok-clause-outcome : goal.returns-in-Ok-clause-outcome
returns-in-Ok-clause-outcome g c = rw c.in-Ok.ensures at c.evaluate_text.ensures.outcome

pub returns-in-Ok-clause-reply : goal.returns-in-Ok-clause-reply
returns-in-Ok-clause-reply g c = rw c.in-Ok.ensures at c.evaluate_text.ensures.reply

pub returns-in-Ok-clause-led : goal.returns-in-Ok-clause-led
returns-in-Ok-clause-led g c = rw c.in-Ok.ensures at c.evaluate_text.ensures.led

pub returns-in-Ok-clause-failed : goal.returns-in-Ok-clause-failed
returns-in-Ok-clause-failed g c = rw c.in-Ok.ensures at c.evaluate_text.ensures.failed

pub returns-in-Ok-clause-too_deep : goal.returns-in-Ok-clause-too_deep
returns-in-Ok-clause-too_deep g c = rw c.in-Ok.ensures at c.evaluate_text.ensures.too_deep

pub returns-in-Err-clause-failed : goal.returns-in-Err-clause-failed
returns-in-Err-clause-failed g c = is_refused (inl refl)

pub returns-in-Err-clause-too_deep : goal.returns-in-Err-clause-too_deep
returns-in-Err-clause-too_deep g c = λ memory. absurd (memory refl)

pub returns-in-Err-clause-err : goal.returns-in-Err-clause-err
returns-in-Err-clause-err g c = broke_at_once g.met.S.Sink.starts same_answer (with_key (answers_of c.args.files.now)) _ _ c.spoil.ensures
