use Rattle.std.proofs.Common.{rules, refl, ◌≡◌, ◌∙◌, sym, subst, length}
use Rattle.comemo.proofs.Calls.{broke_at_begin, broke_at_end, of_memory, on_fault_is, never_stops}
use Rattle.comemo.proofs.KeyedViews.{keyed_calls, keyed_answers}
use Rattle.calc_core.specs.Files.{text_at, answers_of, with_key}
use Rattle.calc_core.specs.Joined.{same_answer}
use Rattle.calc_core.specs.Size.{sizing}
use Rattle.calc_core.proofs.WhatReadsTell.{files_respect, broke_at_once}
use Rattle.calc_core.proofs.FileCalls.{key_bytes}
use Rattle.calc_core.proofs.JoinedCalls.{tests}
use Rattle.calc_core.proofs.Sizes.{mapped, mapped_err, size_fits, size_stands, size_read, size_by_hit, size_by_run}
use Rattle.calc_core.proofs.files.measure.size.Goals as goal

pub returns-in_default-clause-err : goal.returns-in_default-clause-err
returns-in_default-clause-err g c = (refl, broke_at_once g.met.S.Sink.starts same_answer (with_key (answers_of c.args.files.now)) _ _ c.spoil.ensures)

pub returns-clause-err : goal.returns-clause-err
returns-clause-err g c =
    let memory = of_memory c.in-Err.fault _ c.in-Err.ensures.err (λ write. never_stops (files_respect c.fork.result) (λ output writes d. d.0) write.1) in
    let (kept, unchanged, broken) = rw c.fork.ensures at memory in
    (kept, broke_at_begin broken)

pub returns-clause-fault : goal.returns-clause-fault
returns-clause-fault g c = on_fault_is c.in-Err.fault c.in-Err.ensures.err (λ e memory. e) (λ e write. absurd (never_stops (files_respect c.fork.result) (λ output writes d. d.0) write.1))

pub returns-in-Ok-Hit-clause-output : goal.returns-in-Ok-Hit-clause-output
returns-in-Ok-Hit-clause-output g c =
    let (hit, touched) = rw (c.in-Ok-Hit.is, c.in-Ok-Hit.field-0-is, c.fork.ensures) at c.begin.ensures.hit in
    subst (λ path. c.in-Ok-Hit.output ≡ length (text_at c.args.files.now path)) c.in-Ok.ensures.ok (hit.right.1 (answers_of c.args.files.now) (λ c. refl))

pub returns-in-Ok-Hit-clause-reply : goal.returns-in-Ok-Hit-clause-reply
returns-in-Ok-Hit-clause-reply g c =
    let (hit, touched) = rw (c.in-Ok-Hit.is, c.in-Ok-Hit.field-0-is, c.fork.ensures) at c.begin.ensures.hit in
    size_by_hit c.args.files.now c.in-Ok.ensures.ok hit touched

pub returns-in_default-read-clause-err : goal.returns-in_default-read-clause-err
returns-in_default-read-clause-err g c =
    let (run, unchanged, kept, same) = rw (c.in-Ok-Run.is, c.in-Ok-Run.field-0-is, c.fork.ensures) at c.begin.ensures.run in
    (same, broke_at_once g.met.S.Sink.starts same_answer (with_key (answers_of c.args.files.now)) _ _ (rw kept at c.give_up.ensures))

pub finish-requires-clause-stands : goal.finish-requires-clause-stands
finish-requires-clause-stands g c = λ complete early.
    let (run, unchanged, kept, same) = rw (c.in-Ok-Run.is, c.in-Ok-Run.field-0-is, c.fork.ensures) at c.begin.ensures.run in
    let (own, named, asks) = c.in-Ok-read.ensures in
    let long : length c.in-Ok-read.text ≡ c.len-output.result = search rules in
    size_stands c.args.files.now asks (rw c.recording.ensures.value run.complete) (rw c.recording.ensures.value run.early) (rw c.recording.ensures.value run.pairs) (rw c.recording.ensures.value run.writes) c.in-Ok-Run.pending.key (named ∙ sym c.in-Ok.ensures.ok ∙ key_bytes c.in-Ok.key c.in-Ok-Run.pending.key.0 run.has_key) (sym long) complete early

pub returns-in-Ok-Run-clause-output : goal.returns-in-Ok-Run-clause-output
returns-in-Ok-Run-clause-output g c =
    let (run, unchanged, kept, same) = rw (c.in-Ok-Run.is, c.in-Ok-Run.field-0-is, c.fork.ensures) at c.begin.ensures.run in
    let (own, named, asks) = c.in-Ok-read.ensures in
    let long : length c.in-Ok-read.text ≡ c.len-output.result = search rules in
    mapped (λ reply finished. finished.same ∙ sym long ∙ size_read c.args.files.now asks (rw c.recording.ensures.value run.complete) (rw c.recording.ensures.value run.early) (rw c.recording.ensures.value run.pairs) named) c.finish.result c.finish.ensures.finished

pub returns-in-Ok-Run-clause-reply : goal.returns-in-Ok-Run-clause-reply
returns-in-Ok-Run-clause-reply g c =
    let (run, unchanged, kept, same) = rw (c.in-Ok-Run.is, c.in-Ok-Run.field-0-is, c.fork.ensures) at c.begin.ensures.run in
    let (own, named, asks) = c.in-Ok-read.ensures in
    let long : length c.in-Ok-read.text ≡ c.len-output.result = search rules in
    mapped (λ reply finished. size_by_run c.args.files.now g.S.Sink.took g.S.Sink.lates c.in-Ok.ensures.ok run c.recording.ensures.value named asks (sym long) finished) c.finish.result (rw (kept, same) at c.finish.ensures.finished)

pub returns-in-Ok-Run-clause-err : goal.returns-in-Ok-Run-clause-err
returns-in-Ok-Run-clause-err g c =
    let (run, unchanged, kept, same) = rw (c.in-Ok-Run.is, c.in-Ok-Run.field-0-is, c.fork.ensures) at c.begin.ensures.run in
    let (own, named, asks) = c.in-Ok-read.ensures in
    let fits = size_fits c.args.files.now asks (rw c.recording.ensures.value run.complete) (rw c.recording.ensures.value run.early) (rw c.recording.ensures.value run.pairs) in
    mapped_err (λ e. (e.0, broke_at_end sizing (with_key (answers_of c.args.files.now)) (keyed_calls tests) (keyed_answers tests) fits.respects fits.agrees e.1)) c.finish.result (rw (kept, same) at c.finish.ensures.err)
