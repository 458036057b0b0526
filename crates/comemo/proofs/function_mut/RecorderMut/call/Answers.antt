use Rattle.std.proofs.Common.{[], refl}
use Rattle.comemo_cache.proofs.Sendings.{on_err}
use Rattle.comemo.proofs.Recorders.{not_complete}
use Rattle.comemo.proofs.RecordersMut.{tells_read, read_writes, tells_failed, read_begun, spoiled_any}
use Rattle.comemo_cache.proofs.Holding.{some_by}
use Rattle.comemo_cache.specs.Meaning.{IsRight}
use Rattle.comemo.proofs.Recursions.{handed}
use Rattle.comemo.proofs.Faults.{without_sink}
use Rattle.comemo.proofs.function_mut.RecorderMut.call.Goals as goal

pub returns-clause-tells : goal.returns-clause-tells
returns-clause-tells g c =
    let s = c.args.self.now in
    let k = (some_by (g.H.Hold.entries c.args.cache.now) (g.H.Hold.entries c.args.cache.now) (g.H.Hold.entries c.memoized_view.new.cache) _ (rw c.view-view.ensures at c.in_ok-reply.ensures.reply)).3 in
    tells_read (record { same_call = g.T.Call.PartialEq.eq; same_answer = g.T.Answer.PartialEq.eq; same_key = g.G.Key.PartialEq.eq; is_write = g.T.Call.Call.is_write; is_clone = g.G.Out.Clone.is_clone; right = IsRight g.G.Function.means g.G.Function.writes; naming = g.G.Function.naming }) g.T.Track.wrote g.T.Call.Call.is_write g.T.Call.Call.touches g.T.Track.answers g.met.T.Call.Eq.laws g.met.T.Answer.Eq.laws g.met.T.Call.Call.laws.same_kind g.met.T.Track.alike _ _ refl refl c.requires.agrees c.reveal_reads_and_writes.ensures.reads c.in_ok-reply.reply refl k (c.requires.reads.alone c.args.key (g.T.Track.answers s.value.now) c.in_ok-reply.reply.output k.writes (k.stands (g.T.Track.answers s.value.now) (g.met.T.Track.alike s.value.now) k.agrees).0) (λ n d. d.1)

pub returns-clause-agrees : goal.returns-clause-agrees
returns-clause-agrees g c =
    let s = c.args.self.now in
    let k = (some_by (g.H.Hold.entries c.args.cache.now) (g.H.Hold.entries c.args.cache.now) (g.H.Hold.entries c.memoized_view.new.cache) _ (rw c.view-view.ensures at c.in_ok-reply.ensures.reply)).3 in
    read_begun (record { same_call = g.T.Call.PartialEq.eq; same_answer = g.T.Answer.PartialEq.eq; same_key = g.G.Key.PartialEq.eq; is_write = g.T.Call.Call.is_write; is_clone = g.G.Out.Clone.is_clone; right = IsRight g.G.Function.means g.G.Function.writes; naming = g.G.Function.naming }) g.T.Track.wrote g.T.Call.Call.is_write g.T.Call.Call.touches g.T.Track.answers g.met.T.Call.Eq.laws g.met.T.Answer.Eq.laws g.met.T.Call.Call.laws.same_kind g.met.T.Track.alike _ _ refl refl c.requires.agrees c.reveal_reads_and_writes.ensures.reads c.in_ok-reply.reply refl k (c.requires.reads.alone c.args.key (g.T.Track.answers s.value.now) c.in_ok-reply.reply.output k.writes (k.stands (g.T.Track.answers s.value.now) (g.met.T.Track.alike s.value.now) k.agrees).0)

pub returns-clause-writes : goal.returns-clause-writes
returns-clause-writes g c =
    let s = c.args.self.now in
    let k = (some_by (g.H.Hold.entries c.args.cache.now) (g.H.Hold.entries c.args.cache.now) (g.H.Hold.entries c.memoized_view.new.cache) _ (rw c.view-view.ensures at c.in_ok-reply.ensures.reply)).3 in
    read_writes s.recording.now c.memoized_view.new.sink c.in_ok-reply.reply k (c.requires.reads.alone c.args.key (g.T.Track.answers s.value.now) c.in_ok-reply.reply.output k.writes (k.stands (g.T.Track.answers s.value.now) (g.met.T.Track.alike s.value.now) k.agrees).0)

pub returns-in_err-reply-clause-tells : goal.returns-in_err-reply-clause-tells
returns-in_err-reply-clause-tells g c = tells_failed g.T.Track.wrote g.T.Call.Call.is_write g.T.Call.Call.touches g.T.Answer.PartialEq.eq g.T.Track.answers refl refl ([], refl) (not_complete c.in_err-reply.ensures.err.1) c.from_residual.result c.from_residual.ensures.0

pub returns-in_err-reply-clause-agrees : goal.returns-in_err-reply-clause-agrees
returns-in_err-reply-clause-agrees g c = spoiled_any _ (not_complete c.in_err-reply.ensures.err.1)

pub returns-in_err-reply-clause-err : goal.returns-in_err-reply-clause-err
returns-in_err-reply-clause-err g c = on_err c.from_residual.result (rw c.view-view.ensures at c.in_err-reply.ensures.err)

pub returns-clause-reply : goal.returns-clause-reply
returns-clause-reply g c = (c.in_ok-reply.reply, refl, rw c.view-view.ensures at c.in_ok-reply.ensures.reply)

pub returns-in_err-reply-clause-fault : goal.returns-in_err-reply-clause-fault
returns-in_err-reply-clause-fault g c = handed c.from_residual.result c.in_err-reply.field-0.0 c.from_residual.ensures.1 _ (without_sink (g.H.Hold.entries c.args.cache.now) _ _ c.in_err-reply.field-0.0 (rw c.view-view.ensures at c.in_err-reply.ensures.fault))

pub returns-clause-needs : goal.returns-clause-needs
returns-clause-needs g c = (rw c.view-view.ensures at c.memoized_view.ensures.needs).0

pub returns-in_err-reply-clause-needs : goal.returns-in_err-reply-clause-needs
returns-in_err-reply-clause-needs g c = (rw c.view-view.ensures at c.memoized_view.ensures.needs).0
