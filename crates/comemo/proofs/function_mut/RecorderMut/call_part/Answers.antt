use Rattle.std.proofs.Common.{[], refl}
use Rattle.comemo_cache.proofs.Holding.{some_by, by_map}
use Rattle.comemo_cache.proofs.Sendings.{on_err}
use Rattle.comemo_cache.specs.Meaning.{IsRight}
use Rattle.comemo_track.specs.Recording.{Took, Spoiled}
use Rattle.comemo.proofs.Calls.{resent}
use Rattle.comemo.proofs.Faults.{without_sink}
use Rattle.comemo.proofs.PartsMut.{part_read_begun, tells_read_part, part_writes}
use Rattle.comemo.proofs.RecordersMut.{spoiled_any, tells_failed}
use Rattle.comemo.proofs.Recursions.{handed}
use Rattle.comemo.proofs.ThroughMaps.{broke_through}
use Rattle.comemo.proofs.function_mut.RecorderMut.call_part.Goals as goal

pub returns-clause-agrees : goal.returns-clause-agrees
returns-clause-agrees g c = part_read_begun g.A.Call.PartialEq.eq g.A.Answer.PartialEq.eq g.T.Call.PartialEq.eq g.T.Answer.PartialEq.eq (g.P.CallMap.maps c.args.part) (g.P.CallMap.maps_answer c.args.part) (g.met.P.CallMap.apart c.args.part) (g.met.P.CallMap.answers_apart c.args.part) g.T.Track.wrote g.T.Call.Call.is_write g.T.Call.Call.touches g.T.Track.answers g.met.T.Call.Eq.laws g.met.T.Answer.Eq.laws g.met.T.Track.alike _ _ refl refl c.requires.agrees (g.A.Track.answers (g.P.Part.part c.args.part c.args.self.now.value.now)) (g.met.P.Part.agrees c.args.part c.args.self.now.value.now) g.G.Key.PartialEq.eq g.A.Call.Call.is_write g.G.Out.Clone.is_clone (IsRight g.G.Function.means g.G.Function.writes) g.G.Function.naming g.met.T.Call.Call.laws.same_kind c.reveal_reads_and_writes.ensures.reads c.args.key c.in_ok-reply.reply refl (λ m writes d. c.requires.reads.alone c.args.key m c.in_ok-reply.reply.output writes d.0) (resent (λ P W took. rw c.drop.ensures (rw c.new-sink.ensures.value at (rw c.new-sink.ensures.map at took.sent))) (some_by (g.H.Hold.entries c.args.cache.now) (g.H.Hold.entries c.args.cache.now) (g.H.Hold.entries c.memoized_view.new.cache) _ (rw c.view-view.ensures at c.in_ok-reply.ensures.reply)).3)

pub returns-clause-tells : goal.returns-clause-tells
returns-clause-tells g c = tells_read_part g.A.Call.PartialEq.eq g.A.Answer.PartialEq.eq g.T.Call.PartialEq.eq g.T.Answer.PartialEq.eq (g.P.CallMap.maps c.args.part) (g.P.CallMap.maps_answer c.args.part) (g.met.P.CallMap.apart c.args.part) (g.met.P.CallMap.answers_apart c.args.part) g.T.Track.wrote g.T.Call.Call.is_write g.T.Call.Call.touches g.T.Track.answers g.met.T.Call.Eq.laws g.met.T.Answer.Eq.laws g.met.T.Track.alike _ _ refl refl c.requires.agrees (g.A.Track.answers (g.P.Part.part c.args.part c.args.self.now.value.now)) (g.met.P.Part.agrees c.args.part c.args.self.now.value.now) g.G.Key.PartialEq.eq g.A.Call.Call.is_write g.G.Out.Clone.is_clone (IsRight g.G.Function.means g.G.Function.writes) g.G.Function.naming g.met.T.Call.Call.laws.same_kind c.reveal_reads_and_writes.ensures.reads c.args.key c.in_ok-reply.reply refl (λ m writes d. c.requires.reads.alone c.args.key m c.in_ok-reply.reply.output writes d.0) (resent (λ P W took. rw c.drop.ensures (rw c.new-sink.ensures.value at (rw c.new-sink.ensures.map at took.sent))) (some_by (g.H.Hold.entries c.args.cache.now) (g.H.Hold.entries c.args.cache.now) (g.H.Hold.entries c.memoized_view.new.cache) _ (rw c.view-view.ensures at c.in_ok-reply.ensures.reply)).3) (λ part d. d.1)

pub returns-clause-writes : goal.returns-clause-writes
returns-clause-writes g c =
    let s = c.args.self.now in
    let m = g.A.Track.answers (g.P.Part.part c.args.part s.value.now) in
    part_writes (g.P.CallMap.maps c.args.part) (g.P.CallMap.maps_answer c.args.part) {eqd = g.T.Call.PartialEq.eq} {touches = g.T.Call.Call.touches} m (g.met.A.Track.alike (g.P.Part.part c.args.part s.value.now)) s.recording.now c.drop.new.self.0 c.in_ok-reply.reply (resent (λ P W took. rw c.drop.ensures (rw c.new-sink.ensures.value at (rw c.new-sink.ensures.map at took.sent))) (some_by (g.H.Hold.entries c.args.cache.now) (g.H.Hold.entries c.args.cache.now) (g.H.Hold.entries c.memoized_view.new.cache) _ (rw c.view-view.ensures at c.in_ok-reply.ensures.reply)).3) (λ m writes d. c.requires.reads.alone c.args.key m c.in_ok-reply.reply.output writes d.0)

pub returns-clause-reply : goal.returns-clause-reply
returns-clause-reply g c = (c.in_ok-reply.reply, refl, (by_map (g.H.Hold.entries c.args.cache.now) (g.H.Hold.entries c.args.cache.now) (g.H.Hold.entries c.memoized_view.new.cache) _ _ (λ es mid es' k. resent (λ P W took. rw c.drop.ensures (rw c.new-sink.ensures.value at (rw c.new-sink.ensures.map at took.sent))) k) (rw c.view-view.ensures at c.in_ok-reply.ensures.reply)))

pub returns-in_err-reply-clause-err : goal.returns-in_err-reply-clause-err
returns-in_err-reply-clause-err g c =
    let s = c.args.self.now.value.now in
    let err = c.in_err-reply.ensures.err in
    let broke = broke_through g.A.Call.PartialEq.eq g.A.Answer.PartialEq.eq g.T.Call.PartialEq.eq g.T.Answer.PartialEq.eq (g.P.CallMap.maps c.args.part) (g.P.CallMap.maps_answer c.args.part) (g.met.P.CallMap.apart c.args.part) (g.met.P.CallMap.answers_apart c.args.part) {takes = Took g.T.Call.PartialEq.eq g.T.Call.Call.touches} {breaks = Spoiled} (λ s. s.sink.now) c.new-sink.result (λ t P took. rw c.new-sink.ensures.map at took.sent) (λ t u spoils. spoils.spoiled) (g.T.Track.answers s) (g.A.Track.answers (g.P.Part.part c.args.part s)) (g.met.P.Part.agrees c.args.part s) c.memoized_view.new.sink (rw c.view-view.ensures at err.1) in
    on_err c.from_residual.result (err.0, rw c.drop-sink.ensures (rw c.new-sink.ensures.value at broke))

pub returns-in_err-reply-clause-tells : goal.returns-in_err-reply-clause-tells
returns-in_err-reply-clause-tells g c = tells_failed g.T.Track.wrote g.T.Call.Call.is_write g.T.Call.Call.touches g.T.Answer.PartialEq.eq g.T.Track.answers refl refl ([], refl) (rw c.drop-sink.ensures c.in_err-reply.ensures.err.1.is_broken.spoiled.spoiled.complete) c.from_residual.result c.from_residual.ensures.0

pub returns-in_err-reply-clause-agrees : goal.returns-in_err-reply-clause-agrees
returns-in_err-reply-clause-agrees g c = spoiled_any _ (rw c.drop-sink.ensures c.in_err-reply.ensures.err.1.is_broken.spoiled.spoiled.complete)

pub returns-in_err-reply-clause-fault : goal.returns-in_err-reply-clause-fault
returns-in_err-reply-clause-fault g c = handed c.from_residual.result c.in_err-reply.field-0.0 c.from_residual.ensures.1 _ (without_sink (g.H.Hold.entries c.args.cache.now) _ _ c.in_err-reply.field-0.0 (rw c.view-view.ensures at c.in_err-reply.ensures.fault))

pub returns-clause-needs : goal.returns-clause-needs
returns-clause-needs g c = (rw c.view-view.ensures at c.memoized_view.ensures.needs).0

pub returns-in_err-reply-clause-needs : goal.returns-in_err-reply-clause-needs
returns-in_err-reply-clause-needs g c = (rw c.view-view.ensures at c.memoized_view.ensures.needs).0
