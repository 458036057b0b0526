use Rattle.std.proofs.Common.{◌∙◌, [], sym, subst, ap}
use Rattle.comemo_base.specs.Answers.{Agrees}
use Rattle.comemo.specs.Function.{Recorded}
use Rattle.comemo_cache.proofs.Sendings.{breaks_at_once}
use Rattle.comemo.proofs.Calls.{broke_by_run, finished_itself, finished_early}
use Rattle.comemo.proofs.NamedRuns.{settled_end}
use Rattle.comemo_cache.proofs.Sendings.{mapped}
use Rattle.comemo.proofs.Closures.{fault_of_end}
use Rattle.comemo_cache.proofs.Holding.{leads_map}
use Rattle.comemo_cache.specs.Meaning.{IsRight}
use Rattle.comemo.proofs.function.run_kept.Goals as goal

pub end-requires-clause-settled : goal.end-requires-clause-settled
end-requires-clause-settled g c = λ output ok w l.
    settled_end g.M.Key.PartialEq.eq g.T.Call.PartialEq.eq g.T.Answer.PartialEq.eq g.M.Function.naming c.args.key c.recorder.inside.recording c.run-ran.result output (rw (← c.recorder.view_is) at (c.run-ran.ensures.settled c.new-recorder.ensures.pairs)) ok w l

pub end-requires-clause-stands : goal.end-requires-clause-stands
end-requires-clause-stands g c =
    λ output ok w l m r a.
    let right = (rw (ok, ← c.recorder.view_is) at c.run-ran.ensures.right) m (record { complete = w; early = l; respects = r; agrees = a }) in
    subst (λ ws. IsRight g.M.Function.means g.M.Function.writes c.args.key m output ws) (sym c.recorder.invariant.no_writes) (c.requires.none c.args.key m output, right)

pub returns-clause-ran : goal.returns-clause-ran
returns-clause-ran g c =
    let view = ap (λ (s : Recorded _ _ _). s.value) c.recorder.view_is ∙ c.run-ran.ensures.same ∙ c.new-recorder.ensures.value ∙ c.fork.ensures in
    mapped (λ reply done. leads_map (g.H.Hold.entries c.args.cache.now) (g.H.Hold.entries c.end.new.cache) _ _ (λ es es' fin. record {
      recording = c.recorder.inside.recording;
      no_writes = c.recorder.invariant.no_writes;
      early = c.recorder.invariant.early;
      agrees = subst (λ v. Agrees g.T.Answer.PartialEq.eq (g.T.Track.answers v) c.recorder.inside.recording.pairs) view (c.recorder.invariant.agrees fin.complete);
      stands = λ m r a. (c.requires.none c.args.key m reply.output, subst (λ o. g.M.Function.means c.args.key m o) (sym fin.same) ((rw (done.1, ← c.recorder.view_is) at c.run-ran.ensures.right) m (record { complete = fin.complete; early = c.recorder.invariant.early; respects = r; agrees = a })));
      finished = finished_early g.S.Sink.took g.S.Sink.lates c.recorder.invariant.early (finished_itself fin);
    }) done.2) c.end.result c.end.ensures.finished

pub returns-clause-err : goal.returns-clause-err
returns-clause-err g c =
    let view = ap (λ (s : Recorded _ _ _). s.value) c.recorder.view_is ∙ c.run-ran.ensures.same ∙ c.new-recorder.ensures.value ∙ c.fork.ensures in
    broke_by_run (record { same_call = g.T.Call.PartialEq.eq; same_answer = g.T.Answer.PartialEq.eq; same_key = g.M.Key.PartialEq.eq; is_write = g.T.Call.Call.is_write; is_clone = g.M.Out.Clone.is_clone; right = IsRight g.M.Function.means g.M.Function.writes; naming = g.M.Function.naming }) (g.T.Track.answers c.args.of.now) g.met.T.Call.Eq.laws g.met.T.Answer.Eq.laws (g.met.T.Track.alike c.args.of.now) _ c.recorder.inside.recording.pairs c.recorder.inside.recording.complete
    (λ w. subst (λ v. Agrees g.T.Answer.PartialEq.eq (g.T.Track.answers v) c.recorder.inside.recording.pairs) view (c.recorder.invariant.agrees w))
    (λ w. breaks_at_once g.met.S.Sink.starts _ _ [] (c.end.ensures.spoils w))
    _ c.end.result c.end.ensures.err

pub returns-clause-fault : goal.returns-clause-fault
returns-clause-fault g c = fault_of_end _ _ c.run-ran.result c.end.result c.end.ensures.incomplete c.end.ensures.write c.end.ensures.fault c.end.ensures.spoils
