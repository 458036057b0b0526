use Rattle.std.proofs.Common.{refl}
use Rattle.comemo_cache.proofs.Sendings.{on_err}
use Rattle.comemo.proofs.RecordersMut.{tells_any, any_begun, writes_failed, failed_spoils, spoiled_any}
use Rattle.comemo_cache.proofs.Holding.{some_by, some_led}
use Rattle.comemo_cache.specs.Meaning.{IsRight}
use Rattle.comemo.proofs.function_mut.RecorderMut.call_mut.Goals as goal

pub returns-clause-tells : goal.returns-clause-tells
returns-clause-tells g c = tells_any (record { same_call = g.T.Call.PartialEq.eq; same_answer = g.T.Answer.PartialEq.eq; same_key = g.G.Key.PartialEq.eq; is_write = g.T.Call.Call.is_write; is_clone = g.G.Out.Clone.is_clone; right = IsRight g.G.Function.means g.G.Function.writes; naming = g.G.Function.naming }) g.T.Track.wrote g.T.Call.Call.is_write g.T.Call.Call.touches g.T.Track.answers g.met.T.Call.Eq.laws g.met.T.Answer.Eq.laws g.met.T.Call.Call.laws.same_kind g.met.T.Track.alike _ _ refl refl c.requires.agrees c.reveal_reads_and_writes.ensures.reads c.in_ok-reply.reply (some_by (g.H.Hold.entries c.args.cache.now) (g.H.Hold.entries c.args.cache.now) (g.H.Hold.entries c.memoized_mut_with.new.cache) _ c.in_ok-reply.ensures.reply).3

pub returns-clause-agrees : goal.returns-clause-agrees
returns-clause-agrees g c = any_begun (record { same_call = g.T.Call.PartialEq.eq; same_answer = g.T.Answer.PartialEq.eq; same_key = g.G.Key.PartialEq.eq; is_write = g.T.Call.Call.is_write; is_clone = g.G.Out.Clone.is_clone; right = IsRight g.G.Function.means g.G.Function.writes; naming = g.G.Function.naming }) g.T.Track.wrote g.T.Call.Call.is_write g.T.Call.Call.touches g.T.Track.answers g.met.T.Call.Eq.laws g.met.T.Answer.Eq.laws g.met.T.Call.Call.laws.same_kind g.met.T.Track.alike _ _ refl refl c.requires.agrees c.reveal_reads_and_writes.ensures.reads c.in_ok-reply.reply (some_by (g.H.Hold.entries c.args.cache.now) (g.H.Hold.entries c.args.cache.now) (g.H.Hold.entries c.memoized_mut_with.new.cache) _ c.in_ok-reply.ensures.reply).3

pub returns-in_err-reply-clause-tells : goal.returns-in_err-reply-clause-tells
returns-in_err-reply-clause-tells g c = writes_failed g.T.Track.wrote g.T.Call.Call.is_write g.T.Call.Call.touches g.T.Answer.PartialEq.eq g.T.Track.answers refl refl c.memoized_mut_with.ensures.reached (failed_spoils (some_led (g.H.Hold.entries c.args.cache.now) (g.H.Hold.entries c.memoized_mut_with.new.cache) _ c.in_err-reply.ensures.err).2) c.from_residual.result c.from_residual.ensures.0

pub returns-in_err-reply-clause-agrees : goal.returns-in_err-reply-clause-agrees
returns-in_err-reply-clause-agrees g c = spoiled_any _ (failed_spoils (some_led (g.H.Hold.entries c.args.cache.now) (g.H.Hold.entries c.memoized_mut_with.new.cache) _ c.in_err-reply.ensures.err).2)

pub returns-in_err-reply-clause-err : goal.returns-in_err-reply-clause-err
returns-in_err-reply-clause-err g c = on_err c.from_residual.result c.in_err-reply.ensures.err

pub returns-clause-reply : goal.returns-clause-reply
returns-clause-reply g c = (c.in_ok-reply.reply, refl, λ late. (c.in_ok-reply.ensures.early late).0, c.in_ok-reply.ensures.reply)

pub returns-clause-needs : goal.returns-clause-needs
returns-clause-needs g c = c.memoized_mut_with.ensures.needs.0

pub returns-in_err-reply-clause-needs : goal.returns-in_err-reply-clause-needs
returns-in_err-reply-clause-needs g c = c.memoized_mut_with.ensures.needs.0
