use Rattle.std.proofs.Common.{arith, inl, inr, sym, subst, ◌<◌}
use Rattle.comemo.proofs.Calls.{reply_by_hit, broke_at_begin, of_memory, never_stops}
use Rattle.comemo.proofs.KeyedViews.{keyed_calls, keyed_answers}
use Rattle.calc_core.specs.Meaning.{Deep, no_room}
use Rattle.calc_core.proofs.Meanings.{deep_of_height}
use Rattle.calc_core.specs.Files.{answers_of, with_key}
use Rattle.calc_core.specs.Joined.{same_answer}
use Rattle.calc_core.specs.Evaluations.{At}
use Rattle.calc_core.proofs.WhatReadsTell.{files_respect, broke_after, broke_at_once}
use Rattle.calc_core.proofs.JoinedCalls.{tests}
use Rattle.calc_core.proofs.evaluation.begin_script.Goals as goal

pub returns-then-limit-eq0-clause-deep : goal.returns-then-limit-eq0-clause-deep
returns-then-limit-eq0-clause-deep g c = λ _. subst (λ n. Deep (At (answers_of c.args.files.now)) c.args.script.now n) (sym c.if-limit-eq0.true) no_room

pub returns-then-limit-eq0-clause-err : goal.returns-then-limit-eq0-clause-err
returns-then-limit-eq0-clause-err g c = broke_at_once g.met.S.Sink.starts same_answer (with_key (answers_of c.args.files.now)) _ _ c.spoil.ensures

pub returns-in_default-clause-err : goal.returns-in_default-clause-err
returns-in_default-clause-err g c = broke_at_once g.met.S.Sink.starts same_answer (with_key (answers_of c.args.files.now)) _ _ c.spoil-in_default.ensures

pub returns-clause-err : goal.returns-clause-err
returns-clause-err g c =
    let memory = of_memory c.in-Err.field-0 _ c.in-Err.ensures.err (λ write. never_stops (files_respect c.fork.result) (λ output writes d. d.0) write.1) in
    broke_at_begin (rw c.fork.ensures at memory).2

pub returns-clause-err_keeps : goal.returns-clause-err_keeps
returns-clause-err_keeps g c =
    let memory = of_memory c.in-Err.field-0 _ c.in-Err.ensures.err (λ write. never_stops (files_respect c.fork.result) (λ output writes d. d.0) write.1) in
    inl memory.0

pub returns-then-outcome-limit-clause-err_keeps : goal.returns-then-outcome-limit-clause-err_keeps
returns-then-outcome-limit-clause-err_keeps g c =
    let (hit, touched) = rw (c.in-Ok-Hit.is, c.in-Ok-Hit.field-0-is, c.fork.ensures, c.in-Ok.ensures.cases) at c.begin.ensures.hit in
    inr touched

pub returns-then-outcome-limit-clause-err : goal.returns-then-outcome-limit-clause-err
returns-then-outcome-limit-clause-err g c =
    let (hit, touched) = rw (c.in-Ok-Hit.is, c.in-Ok-Hit.field-0-is, c.fork.ensures) at c.begin.ensures.hit in
    broke_after same_answer (with_key (answers_of c.args.files.now)) _ _ _ hit.pairs hit.writes hit.agrees hit.right.0 hit.are_sent c.spoil-then-outcome-limit.ensures

pub returns-then-outcome-limit-clause-deep : goal.returns-then-outcome-limit-clause-deep
returns-then-outcome-limit-clause-deep g c = λ _.
    let (hit, touched) = rw (c.in-Ok-Hit.is, c.in-Ok-Hit.field-0-is, c.fork.ensures, c.in-Ok.ensures.cases) at c.begin.ensures.hit in
    deep_of_height (At (answers_of c.args.files.now)) hit.right.1 c.args.limit c.if-outcome-limit.true

pub returns-in-Ok-Hit-clause-begun : goal.returns-in-Ok-Hit-clause-begun
returns-in-Ok-Hit-clause-begun g c =
    let (hit, touched) = rw (c.in-Ok-Hit.is, c.in-Ok-Hit.field-0-is, c.fork.ensures, c.in-Ok.ensures.cases) at c.begin.ensures.hit in
    (omega (arith, c.if-outcome-limit.false), reply_by_hit (keyed_calls tests) (keyed_answers tests) c.args.cache.now _ hit touched)

pub returns-in-Ok-Run-clause-begun : goal.returns-in-Ok-Run-clause-begun
returns-in-Ok-Run-clause-begun g c =
    let (run, unchanged, kept, same) = rw (c.in-Ok-Run.is, c.in-Ok-Run.field-0-is, c.fork.ensures, c.in-Ok.ensures.cases) at c.begin.ensures.run in
    let room : 0 < c.args.limit = omega (arith, c.if-limit-eq0.false) in
    (room, kept, run)
