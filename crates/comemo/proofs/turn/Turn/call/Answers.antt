use Rattle.std.proofs.Math.Logic.{⊎_map}
use Rattle.std.proofs.Common.{◌∙◌, [], inl, inr, refl, ap, subst}
use Rattle.comemo.specs.Trail.{IsTrail}
use Rattle.comemo.proofs.Calls.{reply_by_hit, reply_by_own_run, broke_at_begin, on_fault, for_memory, never_stops, never_hit}
use Rattle.comemo_cache.proofs.Sendings.{mapped}
use Rattle.comemo.proofs.Closures.{err_with}
use Rattle.comemo_cache.proofs.Holding.{held_map, some_held, some_led, of_led, stayed, led_by, led_from}
use Rattle.comemo.proofs.turn.Turn.call.Goals as goal

pub invariant_of-self-in-Ok-Run : goal.invariant_of-self-in-Ok-Run
invariant_of-self-in-Ok-Run g c = subst (λ (s : _ × _). IsTrail g.V.Answer.PartialEq.eq (g.V.Track.answers s.1) c.into_trail.result.items) (c.look_up-found.ensures.reached.1 ∙ c.new-input.ensures) c.into_trail.ensures

pub invariant_of-self-2 : goal.invariant_of-self-2
invariant_of-self-2 g c = subst (λ (s : _ × _). IsTrail g.V.Answer.PartialEq.eq (g.V.Track.answers s.1) c.into_trail.result.items) (c.look_up-found.ensures.reached.1 ∙ c.new-input.ensures) c.into_trail.ensures

pub returns-in-Ok-Hit-clause-reply : goal.returns-in-Ok-Hit-clause-reply
returns-in-Ok-Hit-clause-reply g c =
    let hit = rw (c.in-Ok-Hit.is, c.in-Ok-Hit.field-0-is, c.new-input.ensures) at c.look_up-found.ensures.hit in
    rw (← c.self.view_is) (led_from (g.H.Hold.entries c.args.cache.now) (g.H.Hold.entries c.look_up-found.new.cache) _ _ (λ es es' found. reply_by_hit g.met.V.Call.Eq.laws g.met.V.Answer.Eq.laws es es' found.0 found.1) hit)

pub returns-in-Ok-Run-clause-right : goal.returns-in-Ok-Run-clause-right
returns-in-Ok-Run-clause-right g c =
    let run = rw (c.in-Ok-Run.is, c.in-Ok-Run.field-0-is, c.new-input.ensures) at c.look_up-found.ensures.run in
    let has = (some_held (g.H.Hold.entries c.args.cache.now) _ run.0).1 in
    let m = g.V.Track.answers c.self.inside.at.now in
    let respects = g.met.V.Track.alike c.self.inside.at.now in
    rw (← c.self.view_is) (mapped (λ reply ran. of_led (g.H.Hold.entries c.look_up-found.new.cache) (g.H.Hold.entries c.run_kept.new.cache) _ (λ es es' is. (has.right m reply.output [] respects (is.stands m respects is.agrees)).1) ran) c.run_kept.result (rw c.view-view.ensures at c.run_kept.ensures.ran))

pub returns-in-Ok-Run-clause-reply : goal.returns-in-Ok-Run-clause-reply
returns-in-Ok-Run-clause-reply g c =
    let run = rw (c.in-Ok-Run.is, c.in-Ok-Run.field-0-is, c.new-input.ensures) at c.look_up-found.ensures.run in
    rw (← c.self.view_is) (mapped (λ reply ran. led_by (g.H.Hold.entries c.args.cache.now) (g.H.Hold.entries c.args.cache.now) (g.H.Hold.entries c.run_kept.new.cache) _ _ _ (λ es mid es' has is. reply_by_own_run has is) run.0 ran) c.run_kept.result (rw (stayed (g.H.Hold.entries c.args.cache.now) (g.H.Hold.entries c.look_up-found.new.cache) run.3) at (rw (run.2, c.view-view.ensures) at c.run_kept.ensures.ran)))

pub returns-clause-err : goal.returns-clause-err
returns-clause-err g c =
    let err = rw (c.in-Err.is, c.new-input.ensures) at c.look_up-found.ensures.err in
    (on_fault c.in-Err.fault err (λ memory. memory.0) (λ write. absurd (never_stops (g.met.V.Track.alike c.self.inside.at.now) (λ output writes d. c.requires.alone c.args.key (g.V.Track.answers c.self.inside.at.now) output writes d.0) (some_led (g.H.Hold.entries c.args.cache.now) (g.H.Hold.entries c.look_up-found.new.cache) _ write).2.1)))

pub returns-in-Ok-Run-clause-fault : goal.returns-in-Ok-Run-clause-fault
returns-in-Ok-Run-clause-fault g c =
    let run = rw (c.in-Ok-Run.is, c.in-Ok-Run.field-0-is, c.new-input.ensures) at c.look_up-found.ensures.run in
    rw (← c.self.view_is) (err_with (λ fault err which. ⊎_map (λ memory. memory) (λ spoils. held_map (g.H.Hold.entries c.args.cache.now) _ _ (λ es has. has.none) run.0) which) c.run_kept.result c.run_kept.ensures.err c.run_kept.ensures.fault)

pub returns-clause-fault : goal.returns-clause-fault
returns-clause-fault g c =
    let err = rw (c.in-Err.is, c.new-input.ensures) at c.look_up-found.ensures.err in
    inl (for_memory c.in-Err.fault _ err (λ write. never_stops (g.met.V.Track.alike c.self.inside.at.now) (λ output writes d. c.requires.alone c.args.key (g.V.Track.answers c.self.inside.at.now) output writes d.0) (some_led (g.H.Hold.entries c.args.cache.now) (g.H.Hold.entries c.look_up-found.new.cache) _ write).2.1))

pub returns-in-Ok-Run-clause-needs : goal.returns-in-Ok-Run-clause-needs
returns-in-Ok-Run-clause-needs g c =
    let run = rw (c.in-Ok-Run.is, c.in-Ok-Run.field-0-is, c.new-input.ensures) at c.look_up-found.ensures.run in
    rw (← c.self.view_is) (inr (held_map (g.H.Hold.entries c.args.cache.now) _ _ (λ es has. has.none) run.0), mapped (λ reply ran hit. of_led (g.H.Hold.entries c.look_up-found.new.cache) (g.H.Hold.entries c.run_kept.new.cache) _ (λ es es' is. absurd (never_hit is.finished hit)) ran) c.run_kept.result c.run_kept.ensures.ran)
