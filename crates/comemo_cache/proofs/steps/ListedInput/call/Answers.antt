use Rattle.std.proofs.Common.{◌∙◌, sym}
use Rattle.comemo_cache.proofs.Sendings.{mapped}
use Rattle.comemo_cache.proofs.Stepping.{found_listed, passed_listed, none_listed, on_ok}
use Rattle.comemo_cache.proofs.steps.ListedInput.call.Goals as goal

pub loop-of-preserved : goal.loop-of-preserved
loop-of-preserved g c = passed_listed g.M.Call.PartialEq.eq c.args.self.now.answers.now c.loop-of.of-index c.args.call.now c.loop-of.invariant c.loop-of-item.result c.loop-of-test.true c.loop-of-item.is (sym c.eq.ensures ∙ c.if-eq.false)

pub returns-then-eq-clause-answer : goal.returns-then-eq-clause-answer
returns-then-eq-clause-answer g c =
    let found = found_listed g.M.Call.PartialEq.eq c.args.self.now.answers.now c.loop-of.of-index c.args.call.now c.loop-of.invariant c.args.self.now.other.now c.loop-of-item.result c.loop-of-test.true c.loop-of-item.is (sym c.eq.ensures ∙ c.if-eq.true) in
    mapped (λ answer is. rw found (g.met.M.Answer.Answer.clones _ _ is)) c.clone.result (on_ok _ _ c.clone.result c.clone.ensures.cases)

pub returns-clause-answer : goal.returns-clause-answer
returns-clause-answer g c =
    let none = none_listed g.M.Call.PartialEq.eq c.args.self.now.answers.now c.loop-of.of-index c.args.call.now c.loop-of.invariant c.args.self.now.other.now c.loop-of-test.false in
    mapped (λ answer is. rw none (g.met.M.Answer.Answer.clones _ _ is)) c.clone-2.result (on_ok _ _ c.clone-2.result c.clone-2.ensures.cases)
