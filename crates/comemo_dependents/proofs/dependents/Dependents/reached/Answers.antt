use Rattle.std.proofs.Common.{sym, ◌∙◌}
use Rattle.comemo_dependents.specs.Lists.{index_of}
use Rattle.comemo_dependents.proofs.Reaching.{Reached-end, Reached-skip, Reached-step, unreached}
use Rattle.comemo_dependents.proofs.dependents.Dependents.reached.Goals as goal

pub loop-call-preserved-in_default : goal.loop-call-preserved-in_default
loop-call-preserved-in_default g c =
    Reached-skip c.self.inside.lists c.args.calls.now c.loop-call.call-index c.call-item.result c.loop-call-test.true c.call-item.is c.loop-call.reached c.loop-call.invariant (sym c.in_default.ensures.value)

pub loop-call-preserved : goal.loop-call-preserved
loop-call-preserved g c =
    Reached-step c.self.inside.lists c.args.calls.now c.loop-call.call-index c.call-item.result c.loop-call-test.true c.call-item.is c.loop-call.reached c.loop-call.invariant c.take_in.new.reached c.in-Some.keys.now (sym c.in-Some.ensures.value) c.in_ok-take_in.ensures

pub returns-clause-exact : goal.returns-clause-exact
returns-clause-exact g c = rw (← c.self.view_is) (Reached-end (index_of c.self.inside.lists) c.loop-call.reached c.args.calls.now c.loop-call.call-index c.loop-call-test.false c.loop-call.invariant)

pub returns-clause-stays : goal.returns-clause-stays
returns-clause-stays g c = rw (← c.self.view_is) (λ key none. unreached g.K.PartialEq.eq g.met.C.Eq.laws (index_of c.self.inside.lists) key c.args.calls.now (sym (Reached-end (index_of c.self.inside.lists) c.loop-call.reached c.args.calls.now c.loop-call.call-index c.loop-call-test.false c.loop-call.invariant key) ∙ none))
