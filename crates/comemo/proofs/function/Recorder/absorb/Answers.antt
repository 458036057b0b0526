use Rattle.std.proofs.Common.{sym, subst, ap, ◌∙◌}
use Rattle.comemo_base.specs.Answers.{Agrees}
use Rattle.comemo.specs.Function.{Recorded}
use Rattle.comemo.proofs.Branching.{took_branch, branch_keeps, branch_told}
use Rattle.comemo.proofs.function.Recorder.absorb.Goals as goal

pub invariant_of-self-2 : goal.invariant_of-self-2
invariant_of-self-2 g c =
    let i = c.self.inside in
    let b = c.branch.inside.recording in
    let view = ap (λ (s : Recorded _ _ _). s.value) c.branch.view_is ∙ c.requires.value ∙ sym (ap (λ (s : Recorded _ _ _). s.value) c.self.view_is) in
    let complete = ap (λ (s : Recorded _ _ _). s.recording.complete) c.branch.view_is ∙ c.requires.complete in
    let agrees = subst (λ v. Agrees g.T.Answer.PartialEq.eq (g.T.Track.answers v) b.pairs) view (c.branch.invariant.agrees complete) in
    let done = c.in_ok-absorb.ensures in
    branch_keeps {touches = g.T.Call.Call.touches} g.met.T.Call.Eq.laws g.met.T.Answer.Eq.laws (g.T.Track.answers i.view) (g.met.T.Track.alike i.view) c.self.invariant b.pairs agrees (took_branch b done.pairs done.writes done.complete done.late complete c.branch.invariant.early c.branch.invariant.no_writes)

pub returns-clause-tells : goal.returns-clause-tells
returns-clause-tells g c =
    let i = c.self.inside in
    let b = c.branch.inside.recording in
    let view = ap (λ (s : Recorded _ _ _). s.value) c.branch.view_is ∙ c.requires.value ∙ sym (ap (λ (s : Recorded _ _ _). s.value) c.self.view_is) in
    let complete = ap (λ (s : Recorded _ _ _). s.recording.complete) c.branch.view_is ∙ c.requires.complete in
    let agrees = subst (λ v. Agrees g.T.Answer.PartialEq.eq (g.T.Track.answers v) b.pairs) view (c.branch.invariant.agrees complete) in
    let done = c.in_ok-absorb.ensures in
    rw (← c.self.view_is, ← c.branch.view_is) (branch_told {touches = g.T.Call.Call.touches} g.met.T.Call.Eq.laws g.met.T.Answer.Eq.laws (g.T.Track.answers i.view) (g.met.T.Track.alike i.view) c.self.invariant complete c.branch.invariant.early agrees (took_branch b done.pairs done.writes done.complete done.late complete c.branch.invariant.early c.branch.invariant.no_writes))
