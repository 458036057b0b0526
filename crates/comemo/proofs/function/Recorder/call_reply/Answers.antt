use Rattle.std.proofs.Common.{refl}
use Rattle.comemo.proofs.Recorders.{held_keeps, tells_output, tells_broken, not_complete}
use Rattle.comemo_cache.proofs.Holding.{some_by}
use Rattle.comemo.proofs.Recursions.{handed}
use Rattle.comemo.proofs.Faults.{without_sink, spared}
use Rattle.comemo.proofs.function.Recorder.call_reply.Goals as goal

pub invariant_of-self : goal.invariant_of-self
invariant_of-self g c =
    let i = c.self.inside in
    held_keeps _ g.T.Call.Call.touches g.met.T.Call.Eq.laws g.met.T.Answer.Eq.laws _ _ _ _ (g.met.T.Track.alike i.view) i.recording c.memoized_view.new.sink c.self.invariant (λ output writes d. c.requires.alone c.args.key (g.T.Track.answers i.view) output writes d.0) _ c.memoized_view.result c.memoized_view.ensures.reply c.memoized_view.ensures.err

pub invariant_of-self-2 : goal.invariant_of-self-2
invariant_of-self-2 g c =
    let i = c.self.inside in
    held_keeps _ g.T.Call.Call.touches g.met.T.Call.Eq.laws g.met.T.Answer.Eq.laws _ _ _ _ (g.met.T.Track.alike i.view) i.recording c.memoized_view.new.sink c.self.invariant (λ output writes d. c.requires.alone c.args.key (g.T.Track.answers i.view) output writes d.0) _ c.memoized_view.result c.memoized_view.ensures.reply c.memoized_view.ensures.err

pub returns-clause-tells : goal.returns-clause-tells
returns-clause-tells g c =
    let i = c.self.inside in
    let k = (some_by (g.H.Hold.entries c.args.cache.now) (g.H.Hold.entries c.args.cache.now) (g.H.Hold.entries c.memoized_view.new.cache) _ c.in_ok-reply.ensures.reply).3 in
    let t = tells_output _ g.met.T.Call.Eq.laws g.met.T.Answer.Eq.laws _ _ _ _ (g.met.T.Track.alike i.view) refl c.self.invariant.agrees {P = λ output m. g.G.Function.means c.args.key m output} c.in_ok-reply.reply k (λ n d. d.1) in
    rw (← c.self.view_is) (record { same_value = t.same_value; before = t.before; told = t.told; complete = t.complete; fault = tt })

pub returns-in_err-reply-clause-tells : goal.returns-in_err-reply-clause-tells
returns-in_err-reply-clause-tells g c = rw (← c.self.view_is) (tells_broken refl c.from_residual.result c.from_residual.ensures.0 (not_complete c.in_err-reply.ensures.err.1))

pub returns-clause-reply : goal.returns-clause-reply
returns-clause-reply g c = rw (← c.self.view_is) c.in_ok-reply.ensures.reply

pub returns-in_err-reply-clause-fault : goal.returns-in_err-reply-clause-fault
returns-in_err-reply-clause-fault g c = handed c.from_residual.result c.in_err-reply.field-0.0 c.from_residual.ensures.1 _ (rw (← c.self.view_is) (without_sink (g.H.Hold.entries c.args.cache.now) _ _ c.in_err-reply.field-0.0 c.in_err-reply.ensures.fault))

pub returns-clause-needs : goal.returns-clause-needs
returns-clause-needs g c = rw (← c.self.view_is) c.in_ok-reply.ensures.needs

pub returns-in_err-reply-clause-needs : goal.returns-in_err-reply-clause-needs
returns-in_err-reply-clause-needs g c = rw (← c.self.view_is) (spared _ c.from_residual.result c.from_residual.ensures.0 c.in_err-reply.ensures.needs.0)
