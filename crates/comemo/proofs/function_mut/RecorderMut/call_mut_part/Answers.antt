use Rattle.std.proofs.Common.{refl, sym, ◌∙◌, map}
use Rattle.comemo_cache.proofs.Holding.{some_by, some_led, by_map, leads_map}
use Rattle.comemo_cache.proofs.Sendings.{on_err}
use Rattle.comemo_cache.specs.Meaning.{IsRight}
use Rattle.comemo_track.specs.Recording.{Took, MarkedLate}
use Rattle.comemo_track.specs.Writing.{Done}
use Rattle.comemo.proofs.PartsMut.{reply_loan, broken_as, spoiled_as, failed_as, fails_as, mapped_spoils, lent_done, part_reply, part_any_begun, tells_any_part}
use Rattle.comemo.proofs.RecordersMut.{spoiled_any, writes_failed}
use Rattle.comemo.proofs.Recursions.{handed}
use Rattle.comemo.proofs.function_mut.RecorderMut.call_mut_part.Goals as goal

pub shape_of-self : goal.shape_of-self
shape_of-self g c = sym (reply_loan g.P.CallMap.maps g.P.CallMap.maps_answer (Took g.T.Call.PartialEq.eq g.T.Call.Call.touches) MarkedLate c.new-sink.result c.memoized_mut_with.new.sink (some_by (g.H.Hold.entries c.args.cache.now) (g.H.Hold.entries c.args.cache.now) (g.H.Hold.entries c.memoized_mut_with.new.cache) _ c.in_ok-reply.ensures.reply).3 ∙ c.new-sink.ensures.same_reference)

pub returns-clause-agrees : goal.returns-clause-agrees
returns-clause-agrees g c = part_any_begun g.A.Call.PartialEq.eq g.A.Answer.PartialEq.eq g.T.Call.PartialEq.eq g.T.Answer.PartialEq.eq (g.P.CallMap.maps c.args.part) (g.P.CallMap.maps_answer c.args.part) (g.met.P.CallMap.apart c.args.part) (g.met.P.CallMap.answers_apart c.args.part) g.T.Track.wrote g.T.Call.Call.is_write g.T.Call.Call.touches g.T.Track.answers g.met.T.Call.Eq.laws g.met.T.Answer.Eq.laws g.met.T.Track.alike _ _ refl refl c.requires.agrees (g.A.Track.answers (g.P.Part.part c.args.part c.args.self.now.value.now)) (g.met.P.Part.agrees c.args.part c.args.self.now.value.now) g.G.Key.PartialEq.eq g.A.Call.Call.is_write g.G.Out.Clone.is_clone (IsRight g.G.Function.means g.G.Function.writes) g.G.Function.naming g.met.T.Call.Call.laws.same_kind c.reveal_reads_and_writes.ensures.reads c.args.key c.in_ok-reply.reply g.A.Call.Call.touches (g.met.P.CallMap.same_touch c.args.part) (part_reply g.P.CallMap.maps g.P.CallMap.maps_answer g.T.Call.PartialEq.eq g.T.Call.Call.touches _ (Done g.T.Track.wrote g.T.Call.Call.is_write g.T.Call.Call.touches g.T.Answer.PartialEq.eq g.T.Track.answers c.args.self.now.value.now (g.T.LendPart.put c.args.part c.args.self.now.value.now c.memoized_mut_with.new.of)) c.args.part (λ W d. lent_done (g.T.LendPart.put c.args.part c.args.self.now.value.now) (g.P.CallMap.maps c.args.part) (g.met.T.LendPart.written c.args.part c.args.self.now.value.now) c.args.self.now.value.now (g.P.Part.part c.args.part c.args.self.now.value.now) c.memoized_mut_with.new.of W (g.met.T.LendPart.same c.args.part c.args.self.now.value.now) d) c.new-sink.result c.memoized_mut_with.new.sink c.new-sink.ensures.map c.new-sink.ensures.value c.drop.ensures (some_by (g.H.Hold.entries c.args.cache.now) (g.H.Hold.entries c.args.cache.now) (g.H.Hold.entries c.memoized_mut_with.new.cache) _ (rw c.lend-of.ensures.part at c.in_ok-reply.ensures.reply)).3)

pub returns-clause-tells : goal.returns-clause-tells
returns-clause-tells g c = tells_any_part g.A.Call.PartialEq.eq g.A.Answer.PartialEq.eq g.T.Call.PartialEq.eq g.T.Answer.PartialEq.eq (g.P.CallMap.maps c.args.part) (g.P.CallMap.maps_answer c.args.part) (g.met.P.CallMap.apart c.args.part) (g.met.P.CallMap.answers_apart c.args.part) g.T.Track.wrote g.T.Call.Call.is_write g.T.Call.Call.touches g.T.Track.answers g.met.T.Call.Eq.laws g.met.T.Answer.Eq.laws g.met.T.Track.alike _ _ refl refl c.requires.agrees (g.A.Track.answers (g.P.Part.part c.args.part c.args.self.now.value.now)) (g.met.P.Part.agrees c.args.part c.args.self.now.value.now) g.G.Key.PartialEq.eq g.A.Call.Call.is_write g.G.Out.Clone.is_clone (IsRight g.G.Function.means g.G.Function.writes) g.G.Function.naming g.met.T.Call.Call.laws.same_kind c.reveal_reads_and_writes.ensures.reads c.args.key c.in_ok-reply.reply g.A.Call.Call.touches (g.met.P.CallMap.same_touch c.args.part) (part_reply g.P.CallMap.maps g.P.CallMap.maps_answer g.T.Call.PartialEq.eq g.T.Call.Call.touches _ (Done g.T.Track.wrote g.T.Call.Call.is_write g.T.Call.Call.touches g.T.Answer.PartialEq.eq g.T.Track.answers c.args.self.now.value.now (g.T.LendPart.put c.args.part c.args.self.now.value.now c.memoized_mut_with.new.of)) c.args.part (λ W d. lent_done (g.T.LendPart.put c.args.part c.args.self.now.value.now) (g.P.CallMap.maps c.args.part) (g.met.T.LendPart.written c.args.part c.args.self.now.value.now) c.args.self.now.value.now (g.P.Part.part c.args.part c.args.self.now.value.now) c.memoized_mut_with.new.of W (g.met.T.LendPart.same c.args.part c.args.self.now.value.now) d) c.new-sink.result c.memoized_mut_with.new.sink c.new-sink.ensures.map c.new-sink.ensures.value c.drop.ensures (some_by (g.H.Hold.entries c.args.cache.now) (g.H.Hold.entries c.args.cache.now) (g.H.Hold.entries c.memoized_mut_with.new.cache) _ (rw c.lend-of.ensures.part at c.in_ok-reply.ensures.reply)).3)

pub returns-clause-reply : goal.returns-clause-reply
returns-clause-reply g c = (c.in_ok-reply.reply, refl, λ late. (c.in_ok-reply.ensures.early late).0, by_map (g.H.Hold.entries c.args.cache.now) (g.H.Hold.entries c.args.cache.now) (g.H.Hold.entries c.memoized_mut_with.new.cache) _ _ (λ es mid es' k. part_reply g.P.CallMap.maps g.P.CallMap.maps_answer g.T.Call.PartialEq.eq g.T.Call.Call.touches _ (Done g.T.Track.wrote g.T.Call.Call.is_write g.T.Call.Call.touches g.T.Answer.PartialEq.eq g.T.Track.answers c.args.self.now.value.now (g.T.LendPart.put c.args.part c.args.self.now.value.now c.memoized_mut_with.new.of)) c.args.part (λ W d. lent_done (g.T.LendPart.put c.args.part c.args.self.now.value.now) (g.P.CallMap.maps c.args.part) (g.met.T.LendPart.written c.args.part c.args.self.now.value.now) c.args.self.now.value.now (g.P.Part.part c.args.part c.args.self.now.value.now) c.memoized_mut_with.new.of W (g.met.T.LendPart.same c.args.part c.args.self.now.value.now) d) c.new-sink.result c.memoized_mut_with.new.sink c.new-sink.ensures.map c.new-sink.ensures.value c.drop.ensures k) (rw c.lend-of.ensures.part at c.in_ok-reply.ensures.reply))

pub returns-clause-needs : goal.returns-clause-needs
returns-clause-needs g c = (rw c.lend-of.ensures.part at c.memoized_mut_with.ensures.needs).0

pub returns-in_err-reply-clause-fault : goal.returns-in_err-reply-clause-fault
returns-in_err-reply-clause-fault g c = handed c.from_residual.result c.in_err-reply.field-0.0 c.from_residual.ensures.1 _ (leads_map (g.H.Hold.entries c.args.cache.now) (g.H.Hold.entries c.memoized_mut_with.new.cache) _ _ (λ es es' k. fails_as (λ W d. lent_done (g.T.LendPart.put c.args.part c.args.self.now.value.now) (g.P.CallMap.maps c.args.part) (g.met.T.LendPart.written c.args.part c.args.self.now.value.now) c.args.self.now.value.now (g.P.Part.part c.args.part c.args.self.now.value.now) c.memoized_mut_with.new.of W (g.met.T.LendPart.same c.args.part c.args.self.now.value.now) d) (λ is. rw c.drop-sink.ensures (rw c.new-sink.ensures.value at is.spoiled)) (λ P W b. rw c.drop-sink.ensures (rw (c.new-sink.ensures.value, c.new-sink.ensures.map) at (spoiled_as g.P.CallMap.maps g.P.CallMap.maps_answer c.new-sink.result c.memoized_mut_with.new.sink P W b))) k) (rw c.lend-of.ensures.part at c.in_err-reply.ensures.fault))

pub returns-in_err-reply-clause-err : goal.returns-in_err-reply-clause-err
returns-in_err-reply-clause-err g c = on_err c.from_residual.result (leads_map (g.H.Hold.entries c.args.cache.now) (g.H.Hold.entries c.memoized_mut_with.new.cache) _ _ (λ es es' k. failed_as (λ W d. lent_done (g.T.LendPart.put c.args.part c.args.self.now.value.now) (g.P.CallMap.maps c.args.part) (g.met.T.LendPart.written c.args.part c.args.self.now.value.now) c.args.self.now.value.now (g.P.Part.part c.args.part c.args.self.now.value.now) c.memoized_mut_with.new.of W (g.met.T.LendPart.same c.args.part c.args.self.now.value.now) d) (λ P b. rw c.drop-sink.ensures (rw (c.new-sink.ensures.value, c.new-sink.ensures.map) at (broken_as g.P.CallMap.maps g.P.CallMap.maps_answer c.new-sink.result c.memoized_mut_with.new.sink P b))) (λ P W b. rw c.drop-sink.ensures (rw (c.new-sink.ensures.value, c.new-sink.ensures.map) at (spoiled_as g.P.CallMap.maps g.P.CallMap.maps_answer c.new-sink.result c.memoized_mut_with.new.sink P W b))) k) (rw c.lend-of.ensures.part at c.in_err-reply.ensures.err))

pub returns-in_err-reply-clause-tells : goal.returns-in_err-reply-clause-tells
returns-in_err-reply-clause-tells g c =
    let reached = rw c.lend-of.ensures.part at c.memoized_mut_with.ensures.reached in
    writes_failed g.T.Track.wrote g.T.Call.Call.is_write g.T.Call.Call.touches g.T.Answer.PartialEq.eq g.T.Track.answers refl refl (map (g.P.CallMap.maps c.args.part) reached.0, lent_done (g.T.LendPart.put c.args.part c.args.self.now.value.now) (g.P.CallMap.maps c.args.part) (g.met.T.LendPart.written c.args.part c.args.self.now.value.now) c.args.self.now.value.now (g.P.Part.part c.args.part c.args.self.now.value.now) c.memoized_mut_with.new.of reached.0 (g.met.T.LendPart.same c.args.part c.args.self.now.value.now) reached.1) (rw c.drop-sink.ensures (mapped_spoils c.new-sink.result c.memoized_mut_with.new.sink (some_led (g.H.Hold.entries c.args.cache.now) (g.H.Hold.entries c.memoized_mut_with.new.cache) _ c.in_err-reply.ensures.err).2)) c.from_residual.result c.from_residual.ensures.0

pub returns-in_err-reply-clause-agrees : goal.returns-in_err-reply-clause-agrees
returns-in_err-reply-clause-agrees g c = spoiled_any _ (rw c.drop-sink.ensures (mapped_spoils c.new-sink.result c.memoized_mut_with.new.sink (some_led (g.H.Hold.entries c.args.cache.now) (g.H.Hold.entries c.memoized_mut_with.new.cache) _ c.in_err-reply.ensures.err).2))

pub returns-in_err-reply-clause-needs : goal.returns-in_err-reply-clause-needs
returns-in_err-reply-clause-needs g c = (rw c.lend-of.ensures.part at c.memoized_mut_with.ensures.needs).0
