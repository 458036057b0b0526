use Rattle.std.proofs.Common.{refl, ap, Err}
use Rattle.comemo.proofs.Calls.{broke_at_end}
use Rattle.calc_core.proofs.EvaluationAsking.{script_run, script_settled, replied_run}
use Rattle.comemo.proofs.KeyedViews.{keyed_calls, keyed_answers}
use Rattle.calc_core.specs.ScriptCalls.{is_refused, is_broken, has_no_end}
use Rattle.calc_core.specs.Files.{answers_of, with_key}
use Rattle.calc_core.specs.Joined.{same_answer}
use Rattle.calc_core.specs.Evaluations.{evaluating}
use Rattle.calc_core.proofs.Evaluations.{script_given, run_stands, of_files, exact_at_ok, exact_at_fault}
use Rattle.calc_core.proofs.WhatReadsTell.{broke_at_once}
use Rattle.calc_core.proofs.EvaluationCalls.{missed_by_run, led_by_reply}
use Rattle.calc_core.proofs.JoinedCalls.{tests}
use Rattle.calc_core.proofs.evaluation.evaluate_text.Goals as goal

pub returns-in-Ok-Hit-clause-outcome : goal.returns-in-Ok-Hit-clause-outcome
returns-in-Ok-Hit-clause-outcome g c =
    let hit = rw (c.in-Ok-Hit.is, c.in-Ok-Hit.field-0-is) at c.begin_script.ensures.begun in
    (script_given c.args.files.now hit.1, hit.0)

pub returns-in-Ok-Hit-clause-reply : goal.returns-in-Ok-Hit-clause-reply
returns-in-Ok-Hit-clause-reply g c =
    let hit = rw (c.in-Ok-Hit.is, c.in-Ok-Hit.field-0-is) at c.begin_script.ensures.begun in
    record { mid = c.args.cache.now; calls = λ not. absurd (not refl); is_reply = hit.1 }

pub returns-in-Ok-Hit-clause-led : goal.returns-in-Ok-Hit-clause-led
returns-in-Ok-Hit-clause-led g c = led_by_reply c.args.files.now (returns-in-Ok-Hit-clause-reply g c)

pub returns-in-Ok-Hit-clause-too_deep : goal.returns-in-Ok-Hit-clause-too_deep
returns-in-Ok-Hit-clause-too_deep g c =
    let hit = rw (c.in-Ok-Hit.is, c.in-Ok-Hit.field-0-is) at c.begin_script.ensures.begun in
    exact_at_ok c.args.files.now (script_given c.args.files.now hit.1) hit.0

pub finish-requires-clause-settled : goal.finish-requires-clause-settled
finish-requires-clause-settled g c = λ complete early.
    let run = rw (c.in-Ok-Run.is, c.in-Ok-Run.field-0-is) at c.begin_script.ensures.begun in
    script_settled c.in-Ok-Run.pending.key _ run.2.has_key (script_run _ _ (rw c.recording.ensures.value run.2.pairs) c.in-Ok.ensures.asks)

pub finish-requires-clause-stands : goal.finish-requires-clause-stands
finish-requires-clause-stands g c = λ complete early.
    let run = rw (c.in-Ok-Run.is, c.in-Ok-Run.field-0-is) at c.begin_script.ensures.begun in
    run_stands _ _ _ c.in-Ok-Run.pending.key _ run.2.has_key (rw c.recording.ensures.value run.2.writes) c.in-Ok.ensures.writes c.in-Ok.ensures.learns complete early

pub returns-in-Ok-finish-clause-outcome : goal.returns-in-Ok-finish-clause-outcome
returns-in-Ok-finish-clause-outcome g c =
    let finished = rw c.in-Ok-finish.is at c.finish.ensures.finished in
    rw finished.same (of_files c.args.files.now c.in-Ok.ensures.learns c.in-Ok.ensures.fits, c.in-Ok.ensures.low)

pub returns-in-Ok-finish-clause-reply : goal.returns-in-Ok-finish-clause-reply
returns-in-Ok-finish-clause-reply g c =
    let run = rw (c.in-Ok-Run.is, c.in-Ok-Run.field-0-is) at c.begin_script.ensures.begun in
    let ran = c.in-Ok.ensures in
    let stands = run_stands _ _ _ c.in-Ok-Run.pending.key _ run.2.has_key (rw c.recording.ensures.value run.2.writes) ran.writes ran.learns ran.fits.complete ran.fits.early in
    replied_run c.args.files.now g.S.Sink.took g.S.Sink.lates run.2 (rw (rw (c.in-Ok-Run.is, c.in-Ok-Run.field-0-is) at c.begin_script.ensures.kept) at ran.led) ran.fits.early ran.fits.agrees stands (rw (c.in-Ok-finish.is, run.1) at c.finish.ensures.finished)

pub returns-in-Ok-finish-clause-led : goal.returns-in-Ok-finish-clause-led
returns-in-Ok-finish-clause-led g c = led_by_reply c.args.files.now (returns-in-Ok-finish-clause-reply g c)

pub returns-in-Ok-finish-clause-too_deep : goal.returns-in-Ok-finish-clause-too_deep
returns-in-Ok-finish-clause-too_deep g c = exact_at_ok c.args.files.now (of_files c.args.files.now c.in-Ok.ensures.learns c.in-Ok.ensures.fits) c.in-Ok.ensures.low

pub returns-in-Err-clause-failed : goal.returns-in-Err-clause-failed
returns-in-Err-clause-failed g c = is_refused c.in-Err.ensures.err_keeps

pub returns-in-Err-clause-too_deep : goal.returns-in-Err-clause-too_deep
returns-in-Err-clause-too_deep g c =
    exact_at_fault c.args.files.now _ c.in-Err.fault refl (λ e. c.in-Err.ensures.deep (ap (λ f. Err f) e))

pub returns-in-Err-clause-err : goal.returns-in-Err-clause-err
returns-in-Err-clause-err g c = c.in-Err.ensures.err

pub returns-in-Err-finish-clause-failed : goal.returns-in-Err-finish-clause-failed
returns-in-Err-finish-clause-failed g c =
    let run = rw (c.in-Ok-Run.is, c.in-Ok-Run.field-0-is) at c.begin_script.ensures.begun in
    let (kept, broken) = rw c.in-Err-finish.is at c.finish.ensures.err in
    rw kept (has_no_end (missed_by_run c.args.files.now run.2) (rw (rw (c.in-Ok-Run.is, c.in-Ok-Run.field-0-is) at c.begin_script.ensures.kept) at c.in-Ok.ensures.led))

pub returns-in-Err-finish-clause-err : goal.returns-in-Err-finish-clause-err
returns-in-Err-finish-clause-err g c =
    let run = rw (c.in-Ok-Run.is, c.in-Ok-Run.field-0-is) at c.begin_script.ensures.begun in
    let (kept, broken) = rw (c.in-Err-finish.is, run.1) at c.finish.ensures.err in
    let fits = c.in-Ok.ensures.fits in
    broke_at_end evaluating (with_key (answers_of c.args.files.now)) (keyed_calls tests) (keyed_answers tests) fits.respects fits.agrees broken

pub returns-in-Err-run_script-clause-failed : goal.returns-in-Err-run_script-clause-failed
returns-in-Err-run_script-clause-failed g c =
    let run = rw (c.in-Ok-Run.is, c.in-Ok-Run.field-0-is) at c.begin_script.ensures.begun in
    is_broken (missed_by_run c.args.files.now run.2) (rw (rw (c.in-Ok-Run.is, c.in-Ok-Run.field-0-is) at c.begin_script.ensures.kept) at c.in-Err-run_script.ensures.failed)

pub returns-in-Err-run_script-clause-too_deep : goal.returns-in-Err-run_script-clause-too_deep
returns-in-Err-run_script-clause-too_deep g c =
    exact_at_fault c.args.files.now _ c.in-Err-run_script.fault refl (λ e. c.in-Err-run_script.ensures.deep (ap (λ f. Err f) e))

pub returns-in-Err-run_script-clause-err : goal.returns-in-Err-run_script-clause-err
returns-in-Err-run_script-clause-err g c =
    let run = rw (c.in-Ok-Run.is, c.in-Ok-Run.field-0-is) at c.begin_script.ensures.begun in
    broke_at_once g.met.S.Sink.starts same_answer (with_key (answers_of c.args.files.now)) _ _ (rw run.1 at c.give_up.ensures)
