use Rattle.std.proofs.Common.{Ok, refl, ◌∙◌}
use Rattle.comemo.proofs.Endings.{gives_itself}
use Rattle.comemo.proofs.Calls.{of_hit, of_run, on_fault, on_fault_is, broke_at_begin, never_stops, reply_by_hit}
use Rattle.comemo.proofs.Recorders.{broken_keeps, held_keeps}
use Rattle.comemo_cache.proofs.Holding.{some_held, some_led, led_from, held_map}
use Rattle.comemo.proofs.Recursions.{own_given, same_recorder}
use Rattle.comemo_cache.specs.Meaning.{IsRight}
use Rattle.comemo.proofs.function.Recorder.begin.Goals as goal

pub invariant_of-self-in-Err : goal.invariant_of-self-in-Err
invariant_of-self-in-Err g c =
    let i = c.self.inside in
    on_fault c.in-Err.fault (rw c.in-Err.is at c.look_up.ensures.err) (λ memory. broken_keeps i.recording c.look_up.new.sink c.self.invariant (broke_at_begin (some_held (g.H.Hold.entries c.args.cache.now) _ memory.2).1)) (λ write. absurd (never_stops (g.met.T.Track.alike c.fork.result) (λ output writes d. c.requires.alone c.args.key.now (g.T.Track.answers c.fork.result) output writes d.0) (some_led (g.H.Hold.entries c.args.cache.now) (g.H.Hold.entries c.look_up.new.cache) _ write).2.1))

pub returns-in-Err-clause-err : goal.returns-in-Err-clause-err
returns-in-Err-clause-err g c = on_fault_is c.in-Err.fault (rw c.in-Err.is at c.look_up.ensures.err) (λ e memory. (e, memory.0, rw (← c.self.view_is, ← c.fork.ensures) (broke_at_begin (some_held (g.H.Hold.entries c.args.cache.now) _ memory.2).1))) (λ e write. absurd (never_stops (g.met.T.Track.alike c.fork.result) (λ output writes d. c.requires.alone c.args.key.now (g.T.Track.answers c.fork.result) output writes d.0) (some_led (g.H.Hold.entries c.args.cache.now) (g.H.Hold.entries c.look_up.new.cache) _ write).2.1))

pub invariant_of-self : goal.invariant_of-self
invariant_of-self g c =
    let i = c.self.inside in
    let hit = rw c.fork.ensures at (of_hit c.look_up.result _ c.in-Ok-Hit.output _ _ c.in-Ok-Hit.is c.in-Ok-Hit.field-0-is c.look_up.ensures.hit) in
    held_keeps _ g.T.Call.Call.touches g.met.T.Call.Eq.laws g.met.T.Answer.Eq.laws (g.H.Hold.entries c.args.cache.now) (g.H.Hold.entries c.args.cache.now) (g.H.Hold.entries c.look_up.new.cache) _ (g.met.T.Track.alike i.view) i.recording c.look_up.new.sink c.self.invariant (λ output writes d. c.requires.alone c.args.key.now (g.T.Track.answers i.view) output writes d.0) {E = ⊥} ⊥ (Ok _) (led_from (g.H.Hold.entries c.args.cache.now) (g.H.Hold.entries c.look_up.new.cache) _ _ (λ es es' found. reply_by_hit g.met.T.Call.Eq.laws g.met.T.Answer.Eq.laws es es' found.0 found.1) hit) tt

pub returns-in-Ok-Hit-clause-tells : goal.returns-in-Ok-Hit-clause-tells
returns-in-Ok-Hit-clause-tells g c =
    let i = c.self.inside in
    let hit = (some_led (g.H.Hold.entries c.args.cache.now) (g.H.Hold.entries c.look_up.new.cache) _ (rw c.fork.ensures at (of_hit c.look_up.result _ c.in-Ok-Hit.output _ _ c.in-Ok-Hit.is c.in-Ok-Hit.field-0-is c.look_up.ensures.hit))).2.0 in
    rw (← c.self.view_is) (own_given (record { same_call = g.T.Call.PartialEq.eq; same_answer = g.T.Answer.PartialEq.eq; same_key = g.G.Key.PartialEq.eq; is_write = g.T.Call.Call.is_write; is_clone = g.G.Out.Clone.is_clone; right = IsRight g.G.Function.means g.G.Function.writes; naming = g.G.Function.naming }) g.met.T.Call.Eq.laws g.met.T.Answer.Eq.laws (g.T.Track.answers i.view) (g.met.T.Track.alike i.view) c.self.invariant.agrees hit.pairs hit.writes hit.agrees (gives_itself g.met.T.Call.Eq.laws g.met.T.Answer.Eq.laws hit.pairs hit.writes hit.are_sent) _ refl (λ n r a. (hit.stands n r a).1))

pub returns-in-Ok-Hit-clause-hit : goal.returns-in-Ok-Hit-clause-hit
returns-in-Ok-Hit-clause-hit g c =
    let hit = rw c.fork.ensures at (of_hit c.look_up.result _ c.in-Ok-Hit.output _ _ c.in-Ok-Hit.is c.in-Ok-Hit.field-0-is c.look_up.ensures.hit) in
    (_, refl, refl, rw (← c.self.view_is) (led_from (g.H.Hold.entries c.args.cache.now) (g.H.Hold.entries c.look_up.new.cache) _ _ (λ es es' found. reply_by_hit g.met.T.Call.Eq.laws g.met.T.Answer.Eq.laws es es' found.0 found.1) hit))

pub returns-clause-tells : goal.returns-clause-tells
returns-clause-tells g c = λ u r told.
    let run = rw c.fork.ensures at (of_run c.look_up.result _ c.in-Ok-Run.own _ _ c.in-Ok-Run.is c.in-Ok-Run.field-0-is c.look_up.ensures.run) in
    rw (same_recorder c.self.inside.view run.2 c.self.view_is) at told

pub returns-clause-run : goal.returns-clause-run
returns-clause-run g c =
    let run = rw c.fork.ensures at (of_run c.look_up.result _ c.in-Ok-Run.own _ _ c.in-Ok-Run.is c.in-Ok-Run.field-0-is c.look_up.ensures.run) in (
      rw (← c.self.view_is) (held_map (g.H.Hold.entries c.args.cache.now) _ _ (λ es is.
          record { has_key = is.has_key; same_value = c.new.ensures.value ∙ c.fork-2.ensures; pairs = c.new.ensures.pairs; complete = c.new.ensures.complete; early = c.new.ensures.early; none = is.none refl }) run.0),
      same_recorder c.self.inside.view run.2 c.self.view_is,
      run.3,
    )
