use Rattle.std.proofs.Common.{◌∙◌, refl, ap, rules}
use Rattle.comemo.proofs.Rounds.{learnt_stays, passed_on}
use Rattle.comemo.proofs.round.Round.output.Goals as goal
use Rattle.comemo.proofs.round.Round.output.Goals.{in-Output+in_ok-learn-in-Output, in-Needs+in_ok-again-in-Needs+in_ok-add-in-Needs}

pub loop-i-preserved : goal.loop-i-preserved
loop-i-preserved g c = elim c.match-branch-5.branch [
  | in-Output+in_ok-learn-in-Output w ↦ (ap (λ s. s.value) w.self-is ∙ w.learn.ensures.value ∙ c.loop-i.invariant.0, refl, w.trail-is ∙ w.truncate.ensures ∙ c.take_turn.ensures.same ∙ c.loop-i.invariant.2, λ at is. rw w.self-is (learnt_stays g.Q.At.PartialEq.eq c.loop-i.self.known w.learn.new.self.known c.in-Some-pop.waiting.key w.in-Output.output w.in_ok-learn-in-Output.ensures.learns at (c.loop-i.invariant.3 at is)))
  | in-Needs+in_ok-again-in-Needs+in_ok-add-in-Needs w ↦ (ap (λ s. s.value) w.self-is ∙ c.loop-i.invariant.0, refl, w.trail-is ∙ c.take_turn.ensures.same ∙ c.loop-i.invariant.2, rw w.self-is c.loop-i.invariant.3)
]

pub returns-in-Some-get-clause-gives : goal.returns-in-Some-get-clause-gives
returns-in-Some-get-clause-gives g c =
    let is = rw (c.in-Some-get.is, c.loop-i.invariant.0) at c.get-2.ensures.right in
    g.met.Q.Output.Eq.laws.congr _ _ _ is ∙ g.met.Q.Output.Answer.clones _ _ c.in_ok-clone-in-Some-get.ensures.cases

pub returns-in_err-add-clause-err : goal.returns-in_err-add-clause-err
returns-in_err-add-clause-err g c = passed_on g.P.Provider.fails c.from_residual-in_err-add.result c.in_err-add.field-0.0 (search (rules, c.from_residual-in_err-add.ensures)) c.in_err-add.ensures

pub returns-in_err-add-in-Needs-clause-err : goal.returns-in_err-add-in-Needs-clause-err
returns-in_err-add-in-Needs-clause-err g c = passed_on g.P.Provider.fails c.from_residual-in_err-add-in-Needs.result c.in_err-add-in-Needs.field-0.0 (search (rules, c.from_residual-in_err-add-in-Needs.ensures)) c.in_err-add-in-Needs.ensures
