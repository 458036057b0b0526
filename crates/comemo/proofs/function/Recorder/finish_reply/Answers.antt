use Rattle.std.proofs.Common.{refl, sym, subst, ap, ◌∙◌}
use Rattle.comemo_base.specs.Answers.{Agrees}
use Rattle.comemo.specs.Function.{Recorded}
use Rattle.comemo.proofs.Calls.{broke_at_end}
use Rattle.comemo_cache.proofs.Named.{named_moved}
use Rattle.comemo.proofs.Endings.{gives_early}
use Rattle.comemo_track.specs.Recording.{Took, MarkedLate}
use Rattle.comemo_cache.proofs.Holding.{some_led, leads_map}
use Rattle.comemo.proofs.Recorders.{broke_keeps}
use Rattle.comemo.proofs.Recursions.{own_given, given_keeps, is_memory, handed, finished_as}
use Rattle.comemo_cache.specs.Meaning.{IsRight}
use Rattle.comemo.proofs.function.Recorder.finish_reply.Goals as goal

pub finish-requires-clause-settled : goal.finish-requires-clause-settled
finish-requires-clause-settled g c =
    let settled = rw (← c.recorder.view_is) at c.requires.settled in
    λ w _. named_moved g.met.T.Call.Eq.laws g.met.T.Answer.Eq.laws g.met.G.Key.Eq.laws g.G.Function.naming c.args.key.now c.args.inner.own _ c.requires.own settled

pub finish-requires-clause-stands : goal.finish-requires-clause-stands
finish-requires-clause-stands g c =
    let right = rw (← c.recorder.view_is) at c.requires.right in
    λ w l m r a. g.met.G.Function.laws.keys c.args.key.now c.args.inner.own m c.args.output c.recorder.inside.recording.writes r c.requires.own (subst (λ ws. g.G.Function.writes c.args.key.now m c.args.output ws) (sym c.recorder.invariant.no_writes) (c.requires.reads.none c.args.key.now m c.args.output), right m (record { complete = w; early = l; respects = r; agrees = a }))

pub returns-in_err-reply-clause-err : goal.returns-in_err-reply-clause-err
returns-in_err-reply-clause-err g c =
    let m = g.T.Track.answers c.self.inside.view in
    let view = ap (λ (s : Recorded _ _ _). s.value) c.recorder.view_is ∙ c.requires.value ∙ sym (ap (λ (s : Recorded _ _ _). s.value) c.self.view_is) in
    let complete = ap (λ (s : Recorded _ _ _). s.recording.complete) c.recorder.view_is ∙ c.requires.complete in
    let agrees = subst (λ v. Agrees g.T.Answer.PartialEq.eq (g.T.Track.answers v) c.recorder.inside.recording.pairs) view (c.recorder.invariant.agrees complete) in
    let err = c.in_err-reply.ensures.err in
    handed c.from_residual.result c.in_err-reply.field-0.0 c.from_residual.ensures.1 _ (is_memory c.in_err-reply.field-0.0 complete c.in_err-reply.ensures.fault c.in_err-reply.ensures.incomplete, err.0, rw (← c.self.view_is) (broke_at_end (record { same_call = g.T.Call.PartialEq.eq; same_answer = g.T.Answer.PartialEq.eq; same_key = g.G.Key.PartialEq.eq; is_write = g.T.Call.Call.is_write; is_clone = g.G.Out.Clone.is_clone; right = IsRight g.G.Function.means g.G.Function.writes; naming = g.G.Function.naming }) m g.met.T.Call.Eq.laws g.met.T.Answer.Eq.laws (g.met.T.Track.alike c.self.inside.view) agrees err.1))

pub invariant_of-self-2 : goal.invariant_of-self-2
invariant_of-self-2 g c =
    let i = c.self.inside in
    let view = ap (λ (s : Recorded _ _ _). s.value) c.recorder.view_is ∙ c.requires.value ∙ sym (ap (λ (s : Recorded _ _ _). s.value) c.self.view_is) in
    let complete = ap (λ (s : Recorded _ _ _). s.recording.complete) c.recorder.view_is ∙ c.requires.complete in
    let agrees = subst (λ v. Agrees g.T.Answer.PartialEq.eq (g.T.Track.answers v) c.recorder.inside.recording.pairs) view (c.recorder.invariant.agrees complete) in
    given_keeps (record { same_call = g.T.Call.PartialEq.eq; same_answer = g.T.Answer.PartialEq.eq; same_key = g.G.Key.PartialEq.eq; is_write = g.T.Call.Call.is_write; is_clone = g.G.Out.Clone.is_clone; right = IsRight g.G.Function.means g.G.Function.writes; naming = g.G.Function.naming }) g.met.T.Call.Eq.laws g.met.T.Answer.Eq.laws (g.T.Track.answers i.view) (g.met.T.Track.alike i.view) i.recording c.finish.new.sink c.self.invariant c.recorder.inside.recording.pairs c.recorder.inside.recording.writes agrees c.recorder.invariant.no_writes (gives_early (Took g.T.Call.PartialEq.eq g.T.Call.Call.touches) MarkedLate c.recorder.inside.recording.late c.recorder.invariant.early (some_led (g.H.Hold.entries c.args.cache.now) (g.H.Hold.entries c.finish.new.cache) _ c.in_ok-reply.ensures.finished).2.gives)

pub returns-clause-tells : goal.returns-clause-tells
returns-clause-tells g c =
    let i = c.self.inside in
    let view = ap (λ (s : Recorded _ _ _). s.value) c.recorder.view_is ∙ c.requires.value ∙ sym (ap (λ (s : Recorded _ _ _). s.value) c.self.view_is) in
    let complete = ap (λ (s : Recorded _ _ _). s.recording.complete) c.recorder.view_is ∙ c.requires.complete in
    let agrees = subst (λ v. Agrees g.T.Answer.PartialEq.eq (g.T.Track.answers v) c.recorder.inside.recording.pairs) view (c.recorder.invariant.agrees complete) in
    let right = rw (← c.recorder.view_is) at c.requires.right in
    let done = (some_led (g.H.Hold.entries c.args.cache.now) (g.H.Hold.entries c.finish.new.cache) _ c.in_ok-reply.ensures.finished).2 in
    rw (← c.self.view_is) (own_given (record { same_call = g.T.Call.PartialEq.eq; same_answer = g.T.Answer.PartialEq.eq; same_key = g.G.Key.PartialEq.eq; is_write = g.T.Call.Call.is_write; is_clone = g.G.Out.Clone.is_clone; right = IsRight g.G.Function.means g.G.Function.writes; naming = g.G.Function.naming }) g.met.T.Call.Eq.laws g.met.T.Answer.Eq.laws (g.T.Track.answers i.view) (g.met.T.Track.alike i.view) c.self.invariant.agrees c.recorder.inside.recording.pairs c.recorder.inside.recording.writes agrees (gives_early (Took g.T.Call.PartialEq.eq g.T.Call.Call.touches) MarkedLate c.recorder.inside.recording.late c.recorder.invariant.early done.gives) c.in_ok-reply.reply {P = λ reply m. g.G.Function.means c.args.key.now m reply.output} refl (λ n r a. subst (λ o. g.G.Function.means c.args.key.now n o) (sym done.same) (right n (record { complete = complete; early = c.recorder.invariant.early; respects = r; agrees = a }))))

pub returns-clause-finished : goal.returns-clause-finished
returns-clause-finished g c =
    let done = c.in_ok-reply.ensures.finished in
    ((some_led (g.H.Hold.entries c.args.cache.now) (g.H.Hold.entries c.finish.new.cache) _ done).2.same, rw (← c.recorder.view_is, ← c.self.view_is) (leads_map (g.H.Hold.entries c.args.cache.now) (g.H.Hold.entries c.finish.new.cache) _ _ (λ es es' is. finished_as _ es es' _ (Took g.T.Call.PartialEq.eq g.T.Call.Call.touches) MarkedLate c.args.output c.in_ok-reply.reply refl c.recorder.invariant.no_writes c.recorder.invariant.early is) done))

pub invariant_of-self : goal.invariant_of-self
invariant_of-self g c = broke_keeps c.self.inside.recording c.finish.new.sink c.self.invariant c.in_err-reply.ensures.err.1.is_broken
