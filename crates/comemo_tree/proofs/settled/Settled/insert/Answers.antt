use Rattle.comemo_base.proofs.Runs.{insert-set, insert-reason, insert-settled, insert-there}
use Rattle.comemo_tree.proofs.settled.Settled.insert.Goals as goal

pub invariant_of-self : goal.invariant_of-self
invariant_of-self g c =
    insert-settled g.met.A.Call.Eq.laws g.met.A.Answer.Eq.laws g.met.A.Key.Eq.laws g.A.Asks.asks g.met.A.Asks.laws.respect c.self.inside.tree c.self.invariant c.args.key c.args.sequence.pairs c.reveal_distinct_calls.ensures.distinct c.requires c.args.value c.insert.new.self c.insert.result c.insert.ensures.stored c.insert.ensures.err

pub returns-clause-settled : goal.returns-clause-settled
returns-clause-settled g c =
    insert-settled g.met.A.Call.Eq.laws g.met.A.Answer.Eq.laws g.met.A.Key.Eq.laws g.A.Asks.asks g.met.A.Asks.laws.respect c.self.inside.tree c.self.invariant c.args.key c.args.sequence.pairs c.reveal_distinct_calls.ensures.distinct c.requires c.args.value c.insert.new.self c.insert.result c.insert.ensures.stored c.insert.ensures.err

pub returns-clause-set : goal.returns-clause-set
returns-clause-set g c =
    rw c.self.view_is at (insert-set g.met.A.Call.Eq.laws g.met.A.Answer.Eq.laws g.met.A.Key.Eq.laws g.A.Asks.asks g.met.A.Asks.laws.respect c.self.inside.tree c.self.invariant c.args.key c.args.sequence.pairs c.reveal_distinct_calls.ensures.distinct c.requires c.args.value c.insert.new.self c.insert.result c.insert.ensures.ok c.insert.ensures.stored)

pub returns-clause-path : goal.returns-clause-path
returns-clause-path g c = rw c.self.view_is at c.insert.ensures.stored

pub returns-clause-there : goal.returns-clause-there
returns-clause-there g c =
    insert-there g.met.A.Call.Eq.laws g.met.A.Answer.Eq.laws g.met.A.Key.Eq.laws g.A.Asks.asks g.met.A.Asks.laws.respect c.self.inside.tree c.self.invariant c.args.key c.args.sequence.pairs c.reveal_distinct_calls.ensures.distinct c.requires c.args.value c.insert.new.self c.insert.result c.insert.ensures.stored

pub returns-clause-reason : goal.returns-clause-reason
returns-clause-reason g c =
    rw c.self.view_is at (insert-reason g.met.A.Call.Eq.laws g.met.A.Answer.Eq.laws g.met.A.Key.Eq.laws g.A.Asks.asks g.met.A.Asks.laws.respect c.self.inside.tree c.self.invariant c.args.key c.args.sequence.pairs c.reveal_distinct_calls.ensures.distinct c.requires c.insert.result c.insert.ensures.reason)
