use Rattle.std.proofs.Common.{refl}
use Rattle.comemo_track.specs.Recording.{Took, Spoiled}
use Rattle.comemo.proofs.Calls.{resent}
use Rattle.comemo_cache.proofs.Sendings.{on_err}
use Rattle.comemo.proofs.Recorders.{broken_keeps}
use Rattle.comemo.proofs.ThroughMaps.{keeps_through, tells_through, broke_through}
use Rattle.comemo_cache.proofs.Holding.{some_by, by_map}
use Rattle.comemo_cache.specs.Meaning.{IsRight}
use Rattle.comemo.proofs.Recursions.{handed}
use Rattle.comemo.proofs.Faults.{without_sink}
use Rattle.comemo.proofs.function.Recorder.call_part.Goals as goal

pub invariant_of-self-2 : goal.invariant_of-self-2
invariant_of-self-2 g c =
    let i = c.self.inside in
    keeps_through g.A.Call.PartialEq.eq g.A.Answer.PartialEq.eq g.T.Call.PartialEq.eq g.T.Answer.PartialEq.eq (g.P.CallMap.maps c.args.part) (g.P.CallMap.maps_answer c.args.part) (g.met.P.CallMap.apart c.args.part) (g.met.P.CallMap.answers_apart c.args.part) g.G.Key.PartialEq.eq g.A.Call.Call.is_write g.G.Out.Clone.is_clone (IsRight g.G.Function.means g.G.Function.writes) g.G.Function.naming g.met.T.Call.Eq.laws g.met.T.Answer.Eq.laws (g.T.Track.answers i.view) (g.met.T.Track.alike i.view) (g.A.Track.answers (g.P.Part.part c.args.part i.view)) (g.met.P.Part.agrees c.args.part i.view) c.args.key _ _ _ c.in_ok-reply.reply {touches = g.T.Call.Call.touches} i.recording _ c.self.invariant (resent (λ P W took. rw c.drop-sink-2.ensures (rw c.new-sink.ensures.value at (rw c.new-sink.ensures.map at took.sent))) (some_by (g.H.Hold.entries c.args.cache.now) (g.H.Hold.entries c.args.cache.now) (g.H.Hold.entries c.memoized_view.new.cache) _ (rw c.part-view.ensures at c.in_ok-reply.ensures.reply)).3) (λ m writes d. c.requires.alone c.args.key m c.in_ok-reply.reply.output writes d.0)

pub returns-clause-tells : goal.returns-clause-tells
returns-clause-tells g c =
    let i = c.self.inside in
    rw (← c.self.view_is) (tells_through g.A.Call.PartialEq.eq g.A.Answer.PartialEq.eq g.T.Call.PartialEq.eq g.T.Answer.PartialEq.eq (g.P.CallMap.maps c.args.part) (g.P.CallMap.maps_answer c.args.part) (g.met.P.CallMap.apart c.args.part) (g.met.P.CallMap.answers_apart c.args.part) g.G.Key.PartialEq.eq g.A.Call.Call.is_write g.G.Out.Clone.is_clone (IsRight g.G.Function.means g.G.Function.writes) g.G.Function.naming g.met.T.Call.Eq.laws g.met.T.Answer.Eq.laws (g.T.Track.answers i.view) (g.met.T.Track.alike i.view) (g.A.Track.answers (g.P.Part.part c.args.part i.view)) (g.met.P.Part.agrees c.args.part i.view) c.args.key _ _ _ c.in_ok-reply.reply {touches = g.T.Call.Call.touches} refl c.self.invariant.agrees (resent (λ P W took. rw c.drop-sink-2.ensures (rw c.new-sink.ensures.value at (rw c.new-sink.ensures.map at took.sent))) (some_by (g.H.Hold.entries c.args.cache.now) (g.H.Hold.entries c.args.cache.now) (g.H.Hold.entries c.memoized_view.new.cache) _ (rw c.part-view.ensures at c.in_ok-reply.ensures.reply)).3) {P = λ output m. g.G.Function.means c.args.key m output} (λ m writes d. d.1))

pub returns-clause-reply : goal.returns-clause-reply
returns-clause-reply g c = (c.in_ok-reply.reply, refl, rw (← c.self.view_is) (by_map (g.H.Hold.entries c.args.cache.now) (g.H.Hold.entries c.args.cache.now) (g.H.Hold.entries c.memoized_view.new.cache) _ _ (λ es mid es' k. resent (λ P W took. rw c.drop-sink-2.ensures (rw c.new-sink.ensures.value at (rw c.new-sink.ensures.map at took.sent))) k) (rw c.part-view.ensures at c.in_ok-reply.ensures.reply)))

pub returns-in_err-reply-clause-err : goal.returns-in_err-reply-clause-err
returns-in_err-reply-clause-err g c =
    let i = c.self.inside in
    let err = rw c.part-view.ensures at c.in_err-reply.ensures.err in
    let broke = broke_through g.A.Call.PartialEq.eq g.A.Answer.PartialEq.eq g.T.Call.PartialEq.eq g.T.Answer.PartialEq.eq (g.P.CallMap.maps c.args.part) (g.P.CallMap.maps_answer c.args.part) (g.met.P.CallMap.apart c.args.part) (g.met.P.CallMap.answers_apart c.args.part) {takes = Took g.T.Call.PartialEq.eq g.T.Call.Call.touches} {breaks = Spoiled} (λ s. s.sink.now) c.new-sink.result (λ t P took. rw c.new-sink.ensures.map at took.sent) (λ t u spoils. spoils.spoiled) (g.T.Track.answers i.view) (g.A.Track.answers (g.P.Part.part c.args.part i.view)) (g.met.P.Part.agrees c.args.part i.view) c.memoized_view.new.sink err.1 in
    on_err c.from_residual.result (err.0, rw (← c.self.view_is, c.drop-sink.ensures) (rw c.new-sink.ensures.value at broke))

pub invariant_of-self : goal.invariant_of-self
invariant_of-self g c =
    let i = c.self.inside in
    let err = rw c.part-view.ensures at c.in_err-reply.ensures.err in
    let broke = broke_through g.A.Call.PartialEq.eq g.A.Answer.PartialEq.eq g.T.Call.PartialEq.eq g.T.Answer.PartialEq.eq (g.P.CallMap.maps c.args.part) (g.P.CallMap.maps_answer c.args.part) (g.met.P.CallMap.apart c.args.part) (g.met.P.CallMap.answers_apart c.args.part) {takes = Took g.T.Call.PartialEq.eq g.T.Call.Call.touches} {breaks = Spoiled} (λ s. s.sink.now) c.new-sink.result (λ t P took. rw c.new-sink.ensures.map at took.sent) (λ t u spoils. spoils.spoiled) (g.T.Track.answers i.view) (g.A.Track.answers (g.P.Part.part c.args.part i.view)) (g.met.P.Part.agrees c.args.part i.view) c.memoized_view.new.sink err.1 in
    rw c.drop-sink.ensures (broken_keeps i.recording _ c.self.invariant (rw c.new-sink.ensures.value at broke))

pub returns-in_err-reply-clause-fault : goal.returns-in_err-reply-clause-fault
returns-in_err-reply-clause-fault g c = rw (← c.self.view_is) (handed c.from_residual.result c.in_err-reply.field-0.0 c.from_residual.ensures.1 _ (without_sink (g.H.Hold.entries c.args.cache.now) _ _ c.in_err-reply.field-0.0 (rw c.part-view.ensures at c.in_err-reply.ensures.fault)))

pub returns-clause-needs : goal.returns-clause-needs
returns-clause-needs g c = rw (← c.self.view_is) (rw c.part-view.ensures at c.memoized_view.ensures.needs.0)

pub returns-in_err-reply-clause-needs : goal.returns-in_err-reply-clause-needs
returns-in_err-reply-clause-needs g c = rw (← c.self.view_is) (rw c.part-view.ensures at c.memoized_view.ensures.needs.0)
