use Rattle.std.proofs.Common.{rules, ◌≡◌, true, false, refl, sym, [], Err, ◌∙◌}
use Rattle.comemo_track.specs.Writing.{Done}
use Rattle.comemo.specs.declared.pending.How.TheVariants as how
use Rattle.comemo_cache.proofs.Holding.{some_held, some_led, led_from, leads_map, held_map}
use Rattle.comemo.proofs.Calls.{of_hit, of_run, reply_by_done_hit, stopped_as, broke_at_begin, on_fault, fault_as}
use Rattle.comemo.proofs.RecordersMut.{tells_called, writes_failed, called_begun}
use Rattle.comemo_cache.specs.Meaning.{IsRight}
use Rattle.comemo.proofs.function_mut.RecorderMut.begin.Goals as goal

pub returns-in-Ok-Hit-clause-agrees : goal.returns-in-Ok-Hit-clause-agrees
returns-in-Ok-Hit-clause-agrees g c =
    let s = c.args.self.now in
    let hit = some_led (g.H.Hold.entries c.args.cache.now) (g.H.Hold.entries c.look_up.new.cache) _ (of_hit c.look_up.result _ c.in-Ok-Hit.output _ _ c.in-Ok-Hit.is c.in-Ok-Hit.field-0-is c.look_up.ensures.hit) in
    called_begun (record { same_call = g.T.Call.PartialEq.eq; same_answer = g.T.Answer.PartialEq.eq; same_key = g.G.Key.PartialEq.eq; is_write = g.T.Call.Call.is_write; is_clone = g.G.Out.Clone.is_clone; right = IsRight g.G.Function.means g.G.Function.writes; naming = g.G.Function.naming }) g.T.Track.wrote g.T.Call.Call.is_write g.T.Call.Call.touches g.T.Track.answers g.met.T.Call.Eq.laws g.met.T.Answer.Eq.laws g.met.T.Call.Call.laws.same_kind g.met.T.Track.alike _ _ refl refl c.requires.agrees c.reveal_reads_and_writes.ensures.reads (record { output = c.in-Ok-Hit.output; how = how.Hit }) (reply_by_done_hit g.met.T.Call.Eq.laws g.met.T.Answer.Eq.laws hit.0 hit.1 hit.2.0 hit.2.1 (Done g.T.Track.wrote g.T.Call.Call.is_write g.T.Call.Call.touches g.T.Answer.PartialEq.eq g.T.Track.answers) s.value.now c.look_up.new.input.value.now c.look_up.new.input.value.now refl hit.2.0.are_done.0)

pub returns-in-Ok-Hit-clause-tells : goal.returns-in-Ok-Hit-clause-tells
returns-in-Ok-Hit-clause-tells g c =
    let s = c.args.self.now in
    let hit = some_led (g.H.Hold.entries c.args.cache.now) (g.H.Hold.entries c.look_up.new.cache) _ (of_hit c.look_up.result _ c.in-Ok-Hit.output _ _ c.in-Ok-Hit.is c.in-Ok-Hit.field-0-is c.look_up.ensures.hit) in
    tells_called (record { same_call = g.T.Call.PartialEq.eq; same_answer = g.T.Answer.PartialEq.eq; same_key = g.G.Key.PartialEq.eq; is_write = g.T.Call.Call.is_write; is_clone = g.G.Out.Clone.is_clone; right = IsRight g.G.Function.means g.G.Function.writes; naming = g.G.Function.naming }) g.T.Track.wrote g.T.Call.Call.is_write g.T.Call.Call.touches g.T.Track.answers g.met.T.Call.Eq.laws g.met.T.Answer.Eq.laws g.met.T.Call.Call.laws.same_kind g.met.T.Track.alike _ _ refl refl c.requires.agrees c.reveal_reads_and_writes.ensures.reads (record { output = c.in-Ok-Hit.output; how = how.Hit }) (reply_by_done_hit g.met.T.Call.Eq.laws g.met.T.Answer.Eq.laws hit.0 hit.1 hit.2.0 hit.2.1 (Done g.T.Track.wrote g.T.Call.Call.is_write g.T.Call.Call.touches g.T.Answer.PartialEq.eq g.T.Track.answers) s.value.now c.look_up.new.input.value.now c.look_up.new.input.value.now refl hit.2.0.are_done.0)

pub returns-in-Ok-Hit-clause-hit : goal.returns-in-Ok-Hit-clause-hit
returns-in-Ok-Hit-clause-hit g c =
    let s = c.args.self.now in
    (_, refl, refl, led_from (g.H.Hold.entries c.args.cache.now) (g.H.Hold.entries c.look_up.new.cache) _ _ (λ es es' found. reply_by_done_hit g.met.T.Call.Eq.laws g.met.T.Answer.Eq.laws es es' found.0 found.1 (Done g.T.Track.wrote g.T.Call.Call.is_write g.T.Call.Call.touches g.T.Answer.PartialEq.eq g.T.Track.answers) s.value.now c.look_up.new.input.value.now c.look_up.new.input.value.now refl found.0.are_done.0) (of_hit c.look_up.result _ c.in-Ok-Hit.output _ _ c.in-Ok-Hit.is c.in-Ok-Hit.field-0-is c.look_up.ensures.hit))

pub returns-in-Err-clause-tells : goal.returns-in-Err-clause-tells
returns-in-Err-clause-tells g c =
    let err = rw c.in-Err.is at c.look_up.ensures.err in
    writes_failed g.T.Track.wrote g.T.Call.Call.is_write g.T.Call.Call.touches g.T.Answer.PartialEq.eq g.T.Track.answers refl refl (c.look_up.ensures.reached.0, c.look_up.ensures.reached.1.0) (on_fault c.in-Err.fault err (λ memory. (some_held (g.H.Hold.entries c.args.cache.now) _ memory.2).1.is_broken.spoiled.complete) (λ stop. (some_led (g.H.Hold.entries c.args.cache.now) (g.H.Hold.entries c.look_up.new.cache) _ stop).2.1.is_spoiled.spoiled.complete)) (Err c.in-Err.fault) refl

pub returns-in-Err-clause-err : goal.returns-in-Err-clause-err
returns-in-Err-clause-err g c = fault_as c.in-Err.fault _ _ _ _ (rw c.in-Err.is at c.look_up.ensures.err)
    (λ memory. (search (rules, memory.1.0), memory.0, broke_at_begin (some_held (g.H.Hold.entries c.args.cache.now) _ memory.2).1))
    (λ stop. leads_map (g.H.Hold.entries c.args.cache.now) (g.H.Hold.entries c.look_up.new.cache) _ _ (λ es es' s. (s.0, stopped_as s.1 s.1.are_done.0)) stop)

pub returns-clause-tells : goal.returns-clause-tells
returns-clause-tells g c =
    let run = of_run c.look_up.result _ c.in-Ok-Run.own _ _ c.in-Ok-Run.is c.in-Ok-Run.field-0-is c.look_up.ensures.run in
    record {
      kept = c.replace-around.ensures.value ∙ run.2;
      agreed = c.requires.agrees;
      same_value = refl;
      same_recording = refl;
      began = λ w. rw c.replace-around.ensures.after (record { done = rw c.new.ensures.writes run.1.0; agrees = λ l. rw c.new.ensures.pairs tt });
      late = λ w. record { touching = λ late. let no : true ≡ false = sym late ∙ rw c.replace-around.ensures.after c.new.ensures.late in cc };
      reached = ([], run.1.0);
    }

pub returns-clause-begins : goal.returns-clause-begins
returns-clause-begins g c =
    let run = of_run c.look_up.result _ c.in-Ok-Run.own _ _ c.in-Ok-Run.is c.in-Ok-Run.field-0-is c.look_up.ensures.run in
    rw c.replace-around.ensures.after (record { pairs = c.new.ensures.pairs; writes = c.new.ensures.writes; complete = c.new.ensures.complete; early = c.new.ensures.late })

pub returns-clause-run : goal.returns-clause-run
returns-clause-run g c =
    let run = of_run c.look_up.result _ c.in-Ok-Run.own _ _ c.in-Ok-Run.is c.in-Ok-Run.field-0-is c.look_up.ensures.run in (
      held_map (g.H.Hold.entries c.args.cache.now) _ _ (λ es is.
          record { has_key = is.has_key; none = is.none refl }) run.0,
      search (rules, run.1.0),
      run.3,
    )

pub returns-clause-agrees : goal.returns-clause-agrees
returns-clause-agrees g c =
    let run = of_run c.look_up.result _ c.in-Ok-Run.own _ _ c.in-Ok-Run.is c.in-Ok-Run.field-0-is c.look_up.ensures.run in
    rw c.replace-around.ensures.after (λ complete. (c.args.self.now.value.now, record { done = rw c.new.ensures.writes run.1.0; agrees = λ l. rw c.new.ensures.pairs tt }))
