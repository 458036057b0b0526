use Rattle.comemo_tree.specs.Retain.{ReturnsAtMut}
use Rattle.comemo_tree.proofs.Left.{IsSettled-retain}
use Rattle.comemo_tree.proofs.settled.Settled.retain.Goals as goal

pub invariant_of-self : goal.invariant_of-self
invariant_of-self g c =
    IsSettled-retain g.A.Call.PartialEq.eq g.A.Answer.PartialEq.eq g.A.Asks.asks (ReturnsAtMut g.F.Fn c.args.f) c.self.inside.tree c.retain.new.self c.retain.ensures c.self.invariant

pub returns-clause-settled : goal.returns-clause-settled
returns-clause-settled g c =
    IsSettled-retain g.A.Call.PartialEq.eq g.A.Answer.PartialEq.eq g.A.Asks.asks (ReturnsAtMut g.F.Fn c.args.f) c.self.inside.tree c.retain.new.self c.retain.ensures c.self.invariant

pub returns-clause-kept : goal.returns-clause-kept
returns-clause-kept g c = rw c.self.view_is at c.retain.ensures
