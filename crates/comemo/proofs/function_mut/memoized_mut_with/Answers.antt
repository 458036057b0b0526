use Rattle.std.proofs.Common.{rules, ◌≡◌, ◌∙◌, true, false, refl, [], inl, inr, sym, subst}
use Rattle.std.proofs.lemmas.Bool.{cases_Bool}
use Rattle.comemo_base.specs.Answers.{Agrees}
use Rattle.comemo_track.specs.Writing.{Done}
use Rattle.comemo_cache.proofs.Sendings.{breaks_at_once}
use Rattle.comemo.proofs.Calls.{run_seen, reply_by_done_hit, reply_by_done_run, stopped_as, on_fault, on_fault_is, never_hit}
use Rattle.comemo.proofs.Lateness.{never_late}
use Rattle.comemo.specs.declared.pending.How.TheVariants as how
use Rattle.comemo.proofs.RecordersMut.{done_at, broke_at_begin_mut, broke_by_run_mut}
use Rattle.comemo_cache.proofs.Named.{named_moved}
use Rattle.comemo.proofs.NamedRuns.{settled_end}
use Rattle.comemo_cache.proofs.Sendings.{mapped}
use Rattle.comemo.proofs.Closures.{mapped_by, mapped_err, err_with, fault_of_end}
use Rattle.comemo_cache.proofs.Holding.{held_leads, held_map, some_held, some_led, of_led, stayed, led_by, led_from, leads_same, leads_map}
use Rattle.comemo_cache.specs.Meaning.{IsRight}
use Rattle.comemo.proofs.function_mut.memoized_mut_with.Goals as goal

pub end-requires-clause-settled : goal.end-requires-clause-settled
end-requires-clause-settled g c =
    let run = rw (c.in-Ok-Run.is, c.in-Ok-Run.field-0-is) at c.begin-begun.ensures.run in
    let is = run_seen c.pending.view_is (some_held (g.H.Hold.entries c.args.cache.now) _ run.0).1 in
    let t = c.run_recorded-ran.result.1 in
    λ output ok w l.
    let own = settled_end g.M.Key.PartialEq.eq g.T.Call.PartialEq.eq g.T.Answer.PartialEq.eq g.M.Function.naming _ t c.run_recorded-ran.result.0 output c.run_recorded-ran.ensures.settled ok w l in
    named_moved g.met.T.Call.Eq.laws g.met.T.Answer.Eq.laws g.met.M.Key.Eq.laws g.M.Function.naming c.args.key c.pending.inside.key t.pairs is.has_key own

pub end-requires-clause-stands : goal.end-requires-clause-stands
end-requires-clause-stands g c =
    let run = rw (c.in-Ok-Run.is, c.in-Ok-Run.field-0-is) at c.begin-begun.ensures.run in
    let is = run_seen c.pending.view_is (some_held (g.H.Hold.entries c.args.cache.now) _ run.0).1 in
    λ output ok w l m r a.
    let right = (rw ok at c.run_recorded-ran.ensures.right) m (record { complete = w; early = l; respects = r; agrees = a }) in
    g.met.M.Function.laws.keys c.args.key c.pending.inside.key m output c.run_recorded-ran.result.1.writes r is.has_key right

pub returns-in-Ok-Hit-clause-right : goal.returns-in-Ok-Hit-clause-right
returns-in-Ok-Hit-clause-right g c = λ _.
    of_led (g.H.Hold.entries c.args.cache.now) (g.H.Hold.entries c.begin-begun.new.cache) _ (λ es es' found. (found.0.writes, found.0.right, done_at (Done g.T.Track.wrote g.T.Call.Call.is_write g.T.Call.Call.touches g.T.Answer.PartialEq.eq g.T.Track.answers) c.args.of.now c.begin-begun.new.input.value.now _ found.0.writes (search rules) found.0.are_done.0)) (rw (c.in-Ok-Hit.is, c.in-Ok-Hit.field-0-is) at c.begin-begun.ensures.hit)

pub returns-in-Ok-Hit-clause-reply : goal.returns-in-Ok-Hit-clause-reply
returns-in-Ok-Hit-clause-reply g c =
    let hit = rw (c.in-Ok-Hit.is, c.in-Ok-Hit.field-0-is) at c.begin-begun.ensures.hit in
    led_from (g.H.Hold.entries c.args.cache.now) (g.H.Hold.entries c.begin-begun.new.cache) _ _ (λ es es' found. inl (reply_by_done_hit g.met.T.Call.Eq.laws g.met.T.Answer.Eq.laws es es' found.0 found.1 (Done g.T.Track.wrote g.T.Call.Call.is_write g.T.Call.Call.touches g.T.Answer.PartialEq.eq g.T.Track.answers) c.args.of.now c.begin-begun.new.input.value.now _ (search rules) found.0.are_done.0)) hit

pub returns-in-Ok-Run-clause-right : goal.returns-in-Ok-Run-clause-right
returns-in-Ok-Run-clause-right g c =
    let run = rw (c.in-Ok-Run.is, c.in-Ok-Run.field-0-is) at c.begin-begun.ensures.run in
    let m = g.T.Track.answers c.args.of.now in
    let t = c.run_recorded-ran.result.1 in
    mapped_by (λ so reply done not_late.
    let fin = (some_led (g.H.Hold.entries c.begin-begun.new.cache) (g.H.Hold.entries c.end.new.cache) _ done.2).2 in
    let complete = fin.complete in
    let early : t.late ≡ false = elim (cases_Bool t.late) [ inl l ↦ absurd (not_late (fin.late.1 l)) | inr e ↦ e ] in
    let agrees = subst (λ v. Agrees g.T.Answer.PartialEq.eq (g.T.Track.answers v) t.pairs) run.1.0 (c.run_recorded-ran.ensures.agrees complete early) in
    let right = (rw done.1 at c.run_recorded-ran.ensures.right) m (record { complete = complete; early = early; respects = g.met.T.Track.alike c.args.of.now; agrees = agrees }) in
    let did = subst (λ v. Done g.T.Track.wrote g.T.Call.Call.is_write g.T.Call.Call.touches g.T.Answer.PartialEq.eq g.T.Track.answers v c.run_recorded-ran.new.of t.writes) run.1.0 (c.run_recorded-ran.ensures.done complete) in
    (t.writes, subst (λ o. (IsRight g.M.Function.means g.M.Function.writes) c.args.key m o t.writes) (sym fin.same) right, done_at (Done g.T.Track.wrote g.T.Call.Call.is_write g.T.Call.Call.touches g.T.Answer.PartialEq.eq g.T.Track.answers) c.args.of.now c.run_recorded-ran.new.of _ t.writes so did)) c.end.result c.end.ensures.finished (search rules)

pub returns-in-Ok-Run-clause-reply : goal.returns-in-Ok-Run-clause-reply
returns-in-Ok-Run-clause-reply g c =
    let run = rw (c.in-Ok-Run.is, c.in-Ok-Run.field-0-is) at c.begin-begun.ensures.run in
    let t = c.run_recorded-ran.result.1 in
    mapped_by (λ so reply done. led_by (g.H.Hold.entries c.args.cache.now) (g.H.Hold.entries c.args.cache.now) (g.H.Hold.entries c.end.new.cache) _ _ _ (λ es mid es' began fin.
    let is = run_seen c.pending.view_is began in
    let complete = fin.complete in
    let did = subst (λ v. Done g.T.Track.wrote g.T.Call.Call.is_write g.T.Call.Call.touches g.T.Answer.PartialEq.eq g.T.Track.answers v c.run_recorded-ran.new.of t.writes) run.1.0 (c.run_recorded-ran.ensures.done complete) in
    reply_by_done_run t g.T.Call.Call.touches (c.run_recorded-ran.ensures.late complete) is
    (λ early. subst (λ v. Agrees g.T.Answer.PartialEq.eq (g.T.Track.answers v) t.pairs) run.1.0 (c.run_recorded-ran.ensures.agrees complete early))
    g.S.Sink.took g.S.Sink.lates (λ early m r a.
    let right = (rw done.1 at c.run_recorded-ran.ensures.right) m (record { complete = complete; early = early; respects = r; agrees = a }) in
    g.met.M.Function.laws.keys c.args.key c.pending.inside.key m done.0 t.writes r is.has_key right)
    fin (Done g.T.Track.wrote g.T.Call.Call.is_write g.T.Call.Call.touches g.T.Answer.PartialEq.eq g.T.Track.answers) c.args.of.now c.run_recorded-ran.new.of _ so did) run.0 done.2) c.end.result (rw (stayed (g.H.Hold.entries c.args.cache.now) (g.H.Hold.entries c.begin-begun.new.cache) run.3) at (rw run.2 at c.end.ensures.finished)) (search rules)

pub returns-in-Ok-Run-clause-reached : goal.returns-in-Ok-Run-clause-reached
returns-in-Ok-Run-clause-reached g c =
    let run = rw (c.in-Ok-Run.is, c.in-Ok-Run.field-0-is) at c.begin-begun.ensures.run in
    let reached = rw run.1.0 at c.run_recorded-ran.ensures.reached in
    (reached.0, done_at (Done g.T.Track.wrote g.T.Call.Call.is_write g.T.Call.Call.touches g.T.Answer.PartialEq.eq g.T.Track.answers) c.args.of.now c.run_recorded-ran.new.of _ reached.0 (search rules) reached.1)

pub returns-in-Ok-Run-clause-err : goal.returns-in-Ok-Run-clause-err
returns-in-Ok-Run-clause-err g c =
    let run = rw (c.in-Ok-Run.is, c.in-Ok-Run.field-0-is) at c.begin-begun.ensures.run in
    let t = c.run_recorded-ran.result.1 in
    mapped_err (λ e. leads_same (g.H.Hold.entries c.args.cache.now) (g.H.Hold.entries c.end.new.cache) [] _ e.0 (λ es. inl (refl, e.1))) c.end.result (broke_by_run_mut (record { same_call = g.T.Call.PartialEq.eq; same_answer = g.T.Answer.PartialEq.eq; same_key = g.M.Key.PartialEq.eq; is_write = g.T.Call.Call.is_write; is_clone = g.M.Out.Clone.is_clone; right = IsRight g.M.Function.means g.M.Function.writes; naming = g.M.Function.naming }) g.T.Call.Call.touches (g.T.Track.answers c.args.of.now) g.met.T.Call.Eq.laws g.met.T.Answer.Eq.laws (g.met.T.Track.alike c.args.of.now) _ t.pairs t.complete
    (λ w none. subst (λ v. Agrees g.T.Answer.PartialEq.eq (g.T.Track.answers v) t.pairs) run.1.0 (c.run_recorded-ran.ensures.agrees w (never_late _ _ none t.late t.writes t.pairs (c.run_recorded-ran.ensures.late w).touching)))
    (λ w. breaks_at_once g.met.S.Sink.starts _ _ [] (rw run.2 at (c.end.ensures.spoils w)))
    _ c.end.result (rw (stayed (g.H.Hold.entries c.args.cache.now) (g.H.Hold.entries c.begin-begun.new.cache) run.3) at (rw run.2 at c.end.ensures.err)))

pub returns-clause-err : goal.returns-clause-err
returns-clause-err g c =
    let err = (rw c.in-Err.is at c.begin-begun.ensures.err) in
    (on_fault c.in-Err.fault err
    (λ memory. leads_same (g.H.Hold.entries c.args.cache.now) (g.H.Hold.entries c.begin-begun.new.cache) [] _ memory.0 (λ es. inl (refl, broke_at_begin_mut g.T.Call.Call.touches (some_held (g.H.Hold.entries c.args.cache.now) _ memory.2).1)))
    (λ stop. leads_map (g.H.Hold.entries c.args.cache.now) (g.H.Hold.entries c.begin-begun.new.cache) _ _ (λ es es' s. inr (s.0, stopped_as s.1 (search (rules, s.1.are_done.0)))) stop))

pub returns-in-Ok-Hit-clause-early : goal.returns-in-Ok-Hit-clause-early
returns-in-Ok-Hit-clause-early g c = λ late. let no : how.Hit ≡ how.Late = late in cc

pub returns-in-Ok-Run-clause-early : goal.returns-in-Ok-Run-clause-early
returns-in-Ok-Run-clause-early g c =
    let t = c.run_recorded-ran.result.1 in
    mapped (λ reply done late.
    let fin = (some_led (g.H.Hold.entries c.begin-begun.new.cache) (g.H.Hold.entries c.end.new.cache) _ done.2).2 in
    let is : t.late ≡ true = fin.late.0 late in
    (c.run_recorded-ran.ensures.early fin.complete is, λ none. let no : true ≡ false = sym is ∙ never_late _ _ none t.late t.writes t.pairs (c.run_recorded-ran.ensures.late fin.complete).touching in cc)) c.end.result c.end.ensures.finished

pub returns-in-Ok-Hit-clause-needs : goal.returns-in-Ok-Hit-clause-needs
returns-in-Ok-Hit-clause-needs g c = (inl refl, λ _. refl)

pub returns-in-Ok-Run-clause-needs : goal.returns-in-Ok-Run-clause-needs
returns-in-Ok-Run-clause-needs g c =
    let run = rw (c.in-Ok-Run.is, c.in-Ok-Run.field-0-is) at c.begin-begun.ensures.run in
    (inr (held_map (g.H.Hold.entries c.args.cache.now) _ _ (λ es began. began.none) run.0), mapped (λ reply done hit. of_led (g.H.Hold.entries c.begin-begun.new.cache) (g.H.Hold.entries c.end.new.cache) _ (λ es es' is. absurd (never_hit is hit)) done.2) c.end.result c.end.ensures.finished)

pub returns-clause-needs : goal.returns-clause-needs
returns-clause-needs g c = (inl refl, tt)

pub returns-in-Ok-Run-clause-fault : goal.returns-in-Ok-Run-clause-fault
returns-in-Ok-Run-clause-fault g c =
    let run = rw (c.in-Ok-Run.is, c.in-Ok-Run.field-0-is) at c.begin-begun.ensures.run in
    err_with (λ f e which. held_leads (g.H.Hold.entries c.args.cache.now) (g.H.Hold.entries c.end.new.cache) _ _ e.0 (λ es began. inl (refl, inr (began.none, which))) run.0) c.end.result (rw (stayed (g.H.Hold.entries c.args.cache.now) (g.H.Hold.entries c.begin-begun.new.cache) run.3) at c.end.ensures.err) (rw run.2 at (fault_of_end _ _ c.run_recorded-ran.result.0 c.end.result c.end.ensures.incomplete c.end.ensures.write c.end.ensures.fault c.end.ensures.spoils))

pub returns-clause-fault : goal.returns-clause-fault
returns-clause-fault g c =
    let err = (rw c.in-Err.is at c.begin-begun.ensures.err) in
    (on_fault_is c.in-Err.fault err
    (λ e memory. leads_same (g.H.Hold.entries c.args.cache.now) (g.H.Hold.entries c.begin-begun.new.cache) [] _ memory.0 (λ es. inl (refl, inl (e, search (rules, memory.1.0)))))
    (λ e stop. leads_map (g.H.Hold.entries c.args.cache.now) (g.H.Hold.entries c.begin-begun.new.cache) _ _ (λ es es' s. inr (e, (s.0, stopped_as s.1 (search (rules, s.1.are_done.0))))) stop))
