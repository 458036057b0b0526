use Rattle.std.proofs.Common.{refl, Err, Ok, sym, ap, subst, ◌∙◌}
use Rattle.comemo.specs.FunctionMut.{lent}
use Rattle.comemo_cache.proofs.Named.{named_moved}
use Rattle.comemo_cache.proofs.Holding.{some_led, leads_map}
use Rattle.comemo.proofs.RecordersMut.{writes_failed}
use Rattle.comemo.proofs.RecursionsMut.{within_tells, within_agrees, of_reply, finished_with, incomplete_as, fault_on}
use Rattle.comemo_cache.specs.Meaning.{IsRight}
use Rattle.comemo.proofs.function_mut.RecorderMut.finish_reply.Goals as goal

pub end-requires-clause-settled : goal.end-requires-clause-settled
end-requires-clause-settled g c =
    let is = c.replace-recording.ensures.value in
    λ output ok w l. rw is (named_moved g.met.T.Call.Eq.laws g.met.T.Answer.Eq.laws g.met.G.Key.Eq.laws g.G.Function.naming c.args.key.now c.args.inner.own c.args.self.now.recording.now.pairs c.requires.own ((rw ok at c.requires.settled) (rw is at w) (rw is at l)))

pub end-requires-clause-stands : goal.end-requires-clause-stands
end-requires-clause-stands g c =
    let is = c.replace-recording.ensures.value in
    λ output ok w l m r a. rw is (g.met.G.Function.laws.keys c.args.key.now c.args.inner.own m output c.args.self.now.recording.now.writes r c.requires.own ((rw ok at c.requires.right) m (record { complete = rw is at w; early = rw is at l; respects = r; agrees = rw is at a })))

pub returns-in-Ok-clause-agrees : goal.returns-in-Ok-clause-agrees
returns-in-Ok-clause-agrees g c =
    let done = (some_led (g.H.Hold.entries c.args.cache.now) (g.H.Hold.entries c.end.new.cache) _ (rw (c.replace-recording.ensures.value, c.replace-recording.ensures.after) at c.in-Ok.ensures.finished).2).2 in
    λ s within. within_agrees (record { same_call = g.T.Call.PartialEq.eq; same_answer = g.T.Answer.PartialEq.eq; same_key = g.G.Key.PartialEq.eq; is_write = g.T.Call.Call.is_write; is_clone = g.G.Out.Clone.is_clone; right = IsRight g.G.Function.means g.G.Function.writes; naming = g.G.Function.naming }) g.met.T.Call.Eq.laws g.met.T.Answer.Eq.laws g.T.Track.wrote g.T.Call.Call.is_write g.T.Call.Call.touches g.T.Track.answers g.met.T.Call.Call.laws.same_kind g.met.T.Track.alike s (lent c.args.self.now.value c.args.self.now.recording) (lent c.args.self.now.value (record c.args.self.now.recording { now = c.end.new.sink })) within refl within.same_recording done.complete c.reveal_reads_and_writes-in-Ok.ensures.reads done.gives

pub returns-in-Ok-clause-tells : goal.returns-in-Ok-clause-tells
returns-in-Ok-clause-tells g c =
    let ended = rw (c.replace-recording.ensures.value, c.replace-recording.ensures.after) at c.in-Ok.ensures.finished in
    let done = (some_led (g.H.Hold.entries c.args.cache.now) (g.H.Hold.entries c.end.new.cache) _ ended.2).2 in
    let right = rw ended.1 at c.requires.right in
    λ s within. of_reply c.in-Ok.reply (λ o m W. (IsRight g.G.Function.means g.G.Function.writes) c.args.key.now m o W) (within_tells (record { same_call = g.T.Call.PartialEq.eq; same_answer = g.T.Answer.PartialEq.eq; same_key = g.G.Key.PartialEq.eq; is_write = g.T.Call.Call.is_write; is_clone = g.G.Out.Clone.is_clone; right = IsRight g.G.Function.means g.G.Function.writes; naming = g.G.Function.naming }) g.met.T.Call.Eq.laws g.met.T.Answer.Eq.laws g.T.Track.wrote g.T.Call.Call.is_write g.T.Call.Call.touches g.T.Track.answers g.met.T.Call.Call.laws.same_kind g.met.T.Track.alike s (lent c.args.self.now.value c.args.self.now.recording) (lent c.args.self.now.value (record c.args.self.now.recording { now = c.end.new.sink })) within refl within.same_recording done.complete c.reveal_reads_and_writes-in-Ok.ensures.reads done.gives c.args.key.now c.in-Ok.reply.output (λ n f. subst (λ o. (IsRight g.G.Function.means g.G.Function.writes) c.args.key.now n o c.args.self.now.recording.now.writes) (sym done.same) (right n f)))

pub returns-in-Ok-clause-finished : goal.returns-in-Ok-clause-finished
returns-in-Ok-clause-finished g c =
    let ended = rw (c.replace-recording.ensures.value, c.replace-recording.ensures.after) at c.in-Ok.ensures.finished in
    let done = (some_led (g.H.Hold.entries c.args.cache.now) (g.H.Hold.entries c.end.new.cache) _ ended.2).2 in
    (ended.1 ∙ ap (λ o. Ok o) (sym done.same), leads_map (g.H.Hold.entries c.args.cache.now) (g.H.Hold.entries c.end.new.cache) _ _ (λ es es' is. finished_with _ es es' _ ended.0 c.in-Ok.reply refl is) ended.2)

pub returns-in-Err-clause-tells : goal.returns-in-Err-clause-tells
returns-in-Err-clause-tells g c =
    λ s within. writes_failed g.T.Track.wrote g.T.Call.Call.is_write g.T.Call.Call.touches g.T.Answer.PartialEq.eq g.T.Track.answers within.same_value within.same_recording within.reached c.in-Err.ensures.err.1.is_broken.spoiled.complete (Err c.in-Err.fault) refl

pub returns-in-Err-clause-incomplete : goal.returns-in-Err-clause-incomplete
returns-in-Err-clause-incomplete g c = incomplete_as _ _ _ c.args.ran c.in-Err.fault (rw c.replace-recording.ensures.value at c.in-Err.ensures.incomplete)

pub returns-in-Err-clause-fault : goal.returns-in-Err-clause-fault
returns-in-Err-clause-fault g c = fault_on _ _ _ c.args.ran c.in-Err.fault c.in-Err.ensures.fault
