use Rattle.std.proofs.Common.{arith, ap, Err, refl, ◌∙◌}
use Rattle.comemo.specs.Multi.{second_answer}
use Rattle.calc_core.specs.Joined.{same_call, touches}
use Rattle.comemo.specs.Recording.{Took, MarkedLate}
use Rattle.calc_core.proofs.EvaluationAsking.{script_run, script_settled, settled_reply, replied_run, settles_part, settles_none, settles_start, settles_rest, settles_last, settles_end, learns_text, told_text}
use Rattle.calc_core.specs.Meaning.{is_bad}
use Rattle.calc_core.specs.ScriptCalls.{no_call, one_call, is_refused, is_broken, has_no_end, not_read, failed_call}
use Rattle.calc_core.specs.Taken.{Taken}
use Rattle.calc_core.proofs.ScriptCalls.{led_none, led_rest, leads_at_end, leads_at_fault, fails_at_part}
use Rattle.calc_core.proofs.Totals.{number_means, leaves_all, leaves_rest, means_at_end, means_at_fault, deep_at_part}
use Rattle.calc_core.specs.Files.{answers_of}
use Rattle.calc_core.specs.Evaluations.{At, In}
use Rattle.calc_core.specs.EvaluationCalls.{moves}
use Rattle.calc_core.proofs.Evaluations.{learns_on, learns_nothing, fits_call, learns_call, writes_call, script_given, part_called, run_stands, of_files, learns_more, handed_on}
use Rattle.calc_core.proofs.WhatReadsTell.{fits_read, writes_read, text_read, on_err}
use Rattle.calc_core.proofs.EvaluationCalls.{missed_by_run, led_by_reply}
use Rattle.calc_core.proofs.evaluation.+evaluating.Goals as goal

pub evaluate_part-returns-in-Number-clause-learns : goal.evaluate_part-returns-in-Number-clause-learns
evaluate_part-returns-in-Number-clause-learns t c = λ bytes is.
    learns_nothing _ (λ m. number_means (In m) (rw c.in-Number.is at is))

pub evaluate_part-returns-in-Number-clause-led : goal.evaluate_part-returns-in-Number-clause-led
evaluate_part-returns-in-Number-clause-led t c = λ bytes is. no_call (rw c.in-Number.is at is).0

pub evaluate_part-returns-in-Bad-clause-learns : goal.evaluate_part-returns-in-Bad-clause-learns
evaluate_part-returns-in-Bad-clause-learns t c = λ bytes is. learns_nothing _ (λ m. is_bad (rw c.in-Bad.is at is))

pub evaluate_part-returns-in-Bad-clause-led : goal.evaluate_part-returns-in-Bad-clause-led
evaluate_part-returns-in-Bad-clause-led t c = λ bytes is. no_call (rw c.in-Bad.is at is).0

pub evaluate_part-returns-in_ok-reply-in-Eval-clause-fits : goal.evaluate_part-returns-in_ok-reply-in-Eval-clause-fits
evaluate_part-returns-in_ok-reply-in-Eval-clause-fits t c =
    let (own, named, asks) = c.in-Ok.ensures in
    fits_call c.args.files.now c.in_ok-reply-in-Eval.ensures.reply.is_reply (fits_read c.args.files.now asks c.requires)

pub evaluate_part-returns-in_ok-reply-in-Eval-clause-writes : goal.evaluate_part-returns-in_ok-reply-in-Eval-clause-writes
evaluate_part-returns-in_ok-reply-in-Eval-clause-writes t c =
    let (own, named, asks) = c.in-Ok.ensures in
    writes_call c.args.files.now c.in_ok-reply-in-Eval.ensures.reply.is_reply ∙ writes_read c.args.files.now asks

pub evaluate_part-returns-in_ok-reply-in-Eval-clause-learns : goal.evaluate_part-returns-in_ok-reply-in-Eval-clause-learns
evaluate_part-returns-in_ok-reply-in-Eval-clause-learns t c = λ bytes is.
    let (own, named, asks) = c.in-Ok.ensures in
    let replied = c.in_ok-reply-in-Eval.ensures.reply in
    learns_on (learns_text c.args.files.now asks c.requires) (learns_call c.args.files.now replied.is_reply (fits_read c.args.files.now asks c.requires)) (part_called c.in-Ok.text (rw c.in-Eval.is at is) named)

pub evaluate_part-returns-in_ok-reply-in-Eval-clause-led : goal.evaluate_part-returns-in_ok-reply-in-Eval-clause-led
evaluate_part-returns-in_ok-reply-in-Eval-clause-led t c = λ bytes is.
    let (own, named, asks) = c.in-Ok.ensures in
    one_call (rw c.in-Eval.is at is) (own, named, ap (λ x. second_answer x) (text_read c.args.files.now asks)) c.in_ok-reply-in-Eval.ensures.led

pub evaluate_part-returns-in_err-reply-in-Eval-clause-failed : goal.evaluate_part-returns-in_err-reply-in-Eval-clause-failed
evaluate_part-returns-in_err-reply-in-Eval-clause-failed t c = λ bytes is.
    let (own, named, asks) = c.in-Ok.ensures in
    on_err c.from_residual.result (failed_call (rw c.in-Eval.is at is) (own, named, ap (λ x. second_answer x) (text_read c.args.files.now asks)) c.in_err-reply-in-Eval.ensures.failed)

pub evaluate_part-returns-in_default-clause-failed : goal.evaluate_part-returns-in_default-clause-failed
evaluate_part-returns-in_default-clause-failed t c = λ bytes is. not_read (rw c.in-Eval.is at is)

pub evaluate_part-returns-in_err-reply-in-Eval-clause-deep : goal.evaluate_part-returns-in_err-reply-in-Eval-clause-deep
evaluate_part-returns-in_err-reply-in-Eval-clause-deep t c = λ bytes is e.
    let (own, named, asks) = c.in-Ok.ensures in
    let deep = c.in_err-reply-in-Eval.ensures.deep (ap (λ f. Err f) (handed_on c.from_residual.result c.in_err-reply-in-Eval.field-0.0 _ c.from_residual.ensures.1 e)) in
    (_, _, rw c.in-Eval.is at is, (own, named, ap (λ x. second_answer x) (text_read c.args.files.now asks)), deep)

pub evaluate_within-returns-in-Ok-Hit-clause-outcome : goal.evaluate_within-returns-in-Ok-Hit-clause-outcome
evaluate_within-returns-in-Ok-Hit-clause-outcome t c =
    let hit = rw (c.in-Ok-Hit.is, c.in-Ok-Hit.field-0-is) at c.begin_script.ensures.begun in
    (script_given c.args.files.now hit.1, hit.0)

pub evaluate_within-returns-in-Ok-Hit-clause-reply : goal.evaluate_within-returns-in-Ok-Hit-clause-reply
evaluate_within-returns-in-Ok-Hit-clause-reply t c =
    let hit = rw (c.in-Ok-Hit.is, c.in-Ok-Hit.field-0-is) at c.begin_script.ensures.begun in
    record { mid = c.args.cache.now; calls = λ not. absurd (not refl); is_reply = hit.1 }

pub evaluate_within-returns-in-Ok-Hit-clause-led : goal.evaluate_within-returns-in-Ok-Hit-clause-led
evaluate_within-returns-in-Ok-Hit-clause-led t c = led_by_reply c.args.files.now (evaluate_within-returns-in-Ok-Hit-clause-reply t c)

pub evaluate_within-finish-requires-clause-settled : goal.evaluate_within-finish-requires-clause-settled
evaluate_within-finish-requires-clause-settled t c = λ complete early.
    let run = rw (c.in-Ok-Run.is, c.in-Ok-Run.field-0-is) at c.begin_script.ensures.begun in
    script_settled c.in-Ok-Run.pending.key _ run.2.has_key (script_run _ _ (rw c.recording.ensures.value run.2.pairs) c.in-Ok.ensures.asks)

pub evaluate_within-finish-requires-clause-stands : goal.evaluate_within-finish-requires-clause-stands
evaluate_within-finish-requires-clause-stands t c = λ complete early.
    let run = rw (c.in-Ok-Run.is, c.in-Ok-Run.field-0-is) at c.begin_script.ensures.begun in
    run_stands _ _ _ c.in-Ok-Run.pending.key _ run.2.has_key (rw c.recording.ensures.value run.2.writes) c.in-Ok.ensures.writes c.in-Ok.ensures.learns complete early

pub evaluate_within-returns-in-Ok-finish-clause-outcome : goal.evaluate_within-returns-in-Ok-finish-clause-outcome
evaluate_within-returns-in-Ok-finish-clause-outcome t c =
    let finished = rw c.in-Ok-finish.is at c.finish.ensures.finished in
    rw finished.same (of_files c.args.files.now c.in-Ok.ensures.learns c.in-Ok.ensures.fits, c.in-Ok.ensures.low)

pub evaluate_within-returns-in-Ok-finish-clause-reply : goal.evaluate_within-returns-in-Ok-finish-clause-reply
evaluate_within-returns-in-Ok-finish-clause-reply t c =
    let run = rw (c.in-Ok-Run.is, c.in-Ok-Run.field-0-is) at c.begin_script.ensures.begun in
    let ran = c.in-Ok.ensures in
    let stands = run_stands _ _ _ c.in-Ok-Run.pending.key _ run.2.has_key (rw c.recording.ensures.value run.2.writes) ran.writes ran.learns ran.fits.complete ran.fits.early in
    replied_run c.args.files.now (Took same_call touches) MarkedLate run.2 (rw (rw (c.in-Ok-Run.is, c.in-Ok-Run.field-0-is) at c.begin_script.ensures.kept) at ran.led) ran.fits.early ran.fits.agrees stands (rw (c.in-Ok-finish.is, run.1) at c.finish.ensures.finished)

pub evaluate_within-returns-in-Ok-finish-clause-led : goal.evaluate_within-returns-in-Ok-finish-clause-led
evaluate_within-returns-in-Ok-finish-clause-led t c = led_by_reply c.args.files.now (evaluate_within-returns-in-Ok-finish-clause-reply t c)

pub evaluate_within-returns-in-Err-clause-failed : goal.evaluate_within-returns-in-Err-clause-failed
evaluate_within-returns-in-Err-clause-failed t c = is_refused c.in-Err.ensures.err_keeps

pub evaluate_within-returns-in-Err-finish-clause-failed : goal.evaluate_within-returns-in-Err-finish-clause-failed
evaluate_within-returns-in-Err-finish-clause-failed t c =
    let run = rw (c.in-Ok-Run.is, c.in-Ok-Run.field-0-is) at c.begin_script.ensures.begun in
    let (kept, spoiled) = rw c.in-Err-finish.is at c.finish.ensures.err in
    rw kept (has_no_end (missed_by_run c.args.files.now run.2) (rw (rw (c.in-Ok-Run.is, c.in-Ok-Run.field-0-is) at c.begin_script.ensures.kept) at c.in-Ok.ensures.led))

pub evaluate_within-returns-in-Err-run_script-clause-failed : goal.evaluate_within-returns-in-Err-run_script-clause-failed
evaluate_within-returns-in-Err-run_script-clause-failed t c =
    let run = rw (c.in-Ok-Run.is, c.in-Ok-Run.field-0-is) at c.begin_script.ensures.begun in
    is_broken (missed_by_run c.args.files.now run.2) (rw (rw (c.in-Ok-Run.is, c.in-Ok-Run.field-0-is) at c.begin_script.ensures.kept) at c.in-Err-run_script.ensures.failed)

pub run_script-returns-in_err-outcome-clause-deep : goal.run_script-returns-in_err-outcome-clause-deep
run_script-returns-in_err-outcome-clause-deep t c = λ e.
    let i = c.loop-part.invariant in
    let (bytes, cut, is) = c.in-Some.ensures in
    let (path, text, calls, at, deep) = c.in_err-outcome.ensures.deep bytes is (ap (λ f. Err f) (handed_on c.from_residual.result c.in_err-outcome.field-0.0 _ c.from_residual.ensures.1 e)) in
    deep_at_part (At (answers_of c.args.files.now)) c.args.limit c.requires.room (of_files c.args.files.now i.learns i.fits) cut calls at deep

pub run_script-returns-in_err-outcome-clause-failed : goal.run_script-returns-in_err-outcome-clause-failed
run_script-returns-in_err-outcome-clause-failed t c =
    let (bytes, cut, is) = c.in-Some.ensures in
    on_err c.from_residual.result (fails_at_part (At (answers_of c.args.files.now)) (moves c.args.files.now) c.loop-part.invariant.led cut (c.in_err-outcome.ensures.failed bytes is))

pub run_script-outcome-requires : goal.run_script-outcome-requires
run_script-outcome-requires t c =
    let i = c.loop-part.invariant in
    omega (arith, c.in-Err.ensures.height, i.low, c.in_ok-outcome.ensures.low)

pub run_script-returns-in-Err-clause-learns : goal.run_script-returns-in-Err-clause-learns
run_script-returns-in-Err-clause-learns t c =
    let (bytes, cut, is) = c.in-Some.ensures in
    learns_on c.loop-part.invariant.learns (c.in_ok-outcome.ensures.learns bytes is) (λ m p q. means_at_fault (In m) c.add.new.self p cut q c.in-Err.ensures.sum c.in-Err.ensures.height c.outcome.ensures.value c.outcome.ensures.height)

pub run_script-returns-in-Err-clause-led : goal.run_script-returns-in-Err-clause-led
run_script-returns-in-Err-clause-led t c =
    let files = c.args.files.now in
    let (bytes, cut, is) = c.in-Some.ensures in
    let part = c.in_ok-outcome.ensures in
    leads_at_fault (At (answers_of files)) (moves files) c.add.new.self _ c.loop-part.invariant.led cut (of_files files (part.learns bytes is) part.fits) c.in-Err.ensures.sum (part.led bytes is)

pub run_script-loop-part-preserved : goal.run_script-loop-part-preserved
run_script-loop-part-preserved t c =
    let files = c.args.files.now in
    let i = c.loop-part.invariant in
    let (bytes, cut, is) = c.in-Some.ensures in
    let part = c.in_ok-outcome.ensures in
    record {
      low = omega (arith, c.in_default-add.ensures.height, i.low, part.low);
      fits = part.fits;
      writes = part.writes ∙ i.writes;
      learns = learns_on i.learns (part.learns bytes is) (λ m p q. leaves_rest (In m) p cut q c.in_default-add.ensures.sum c.in_default-add.ensures.height);
      asks = settles_rest c.loop-part.total c.add.new.self i.fits.complete i.fits.early part.fits.complete part.fits.early i.asks i.learns cut (part.learns bytes is) (part.asks bytes is) c.in_default-add.ensures.sum;
      led = led_rest (At (answers_of files)) (moves files) i.led cut (of_files files (part.learns bytes is) part.fits) c.in_default-add.ensures.sum (part.led bytes is);
    }

pub run_script-returns-clause-learns : goal.run_script-returns-clause-learns
run_script-returns-clause-learns t c =
    learns_more c.loop-part.invariant.learns (λ m p. means_at_end (In m) p c.in_default.ensures.0 c.outcome-2.ensures.value c.outcome-2.ensures.height)

pub run_script-returns-clause-led : goal.run_script-returns-clause-led
run_script-returns-clause-led t c =
    leads_at_end (At (answers_of c.args.files.now)) (moves c.args.files.now) c.loop-part.invariant.led c.in_default.ensures.0

pub evaluate_part-returns-in-Number-clause-asks : goal.evaluate_part-returns-in-Number-clause-asks
evaluate_part-returns-in-Number-clause-asks t c = λ bytes is. settles_none _ (rw c.in-Number.is at is).0

pub evaluate_part-returns-in-Bad-clause-asks : goal.evaluate_part-returns-in-Bad-clause-asks
evaluate_part-returns-in-Bad-clause-asks t c = λ bytes is. settles_none _ (rw c.in-Bad.is at is).0

pub evaluate_part-returns-in_ok-reply-in-Eval-clause-asks : goal.evaluate_part-returns-in_ok-reply-in-Eval-clause-asks
evaluate_part-returns-in_ok-reply-in-Eval-clause-asks t c = λ bytes is.
    let files = c.args.files.now in
    let (own, named, asks) = c.in-Ok.ensures in
    let replied = c.in_ok-reply-in-Eval.ensures.reply in
    let fits = fits_read files asks c.requires in
    settles_part files asks c.requires fits (told_text files asks c.requires fits.complete fits.early) replied.is_reply (settled_reply files replied.is_reply) (rw c.in-Eval.is at is) named

pub run_script-returns-in-Err-clause-asks : goal.run_script-returns-in-Err-clause-asks
run_script-returns-in-Err-clause-asks t c =
    let i = c.loop-part.invariant in
    let (bytes, cut, is) = c.in-Some.ensures in
    let part = c.in_ok-outcome.ensures in
    settles_last c.loop-part.total c.add.new.self i.fits.complete i.fits.early part.fits.complete part.fits.early i.asks i.learns cut (part.learns bytes is) (part.asks bytes is) _ c.in-Err.ensures.sum

pub run_script-returns-clause-asks : goal.run_script-returns-clause-asks
run_script-returns-clause-asks t c = settles_end _ _ c.loop-part.invariant.asks c.in_default.ensures.0

pub run_script-loop-part-init : goal.run_script-loop-part-init
run_script-loop-part-init t c = record {
  low = omega (arith, c.requires.room, ap (λ (s : Taken). s.height) c.new-total.ensures);
  fits = c.requires.fits;
  writes = refl;
  learns = learns_nothing _ (λ m. leaves_all (In m) (rw c.as_str.ensures at c.new-parts.ensures) c.new-total.ensures);
  asks = settles_start _ _ _ _ (rw c.as_str.ensures at c.new-parts.ensures) c.new-total.ensures;
  led = led_none (At (answers_of c.args.files.now)) (moves c.args.files.now) _ (rw c.as_str.ensures at c.new-parts.ensures) c.new-total.ensures;
}
