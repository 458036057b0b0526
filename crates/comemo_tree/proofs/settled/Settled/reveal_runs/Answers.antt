use Rattle.comemo_base.proofs.Runs.{HasEachSetOnce-from_tree}
use Rattle.comemo_tree.proofs.settled.Settled.reveal_runs.Goals as goal

pub returns-clause-settled : goal.returns-clause-settled
returns-clause-settled g c = rw c.self.view_is at c.self.invariant

pub returns-clause-once : goal.returns-clause-once
returns-clause-once g c = rw c.self.view_is at (HasEachSetOnce-from_tree g.met.A.Call.Eq.laws g.met.A.Answer.Eq.laws g.met.A.Key.Eq.laws c.self.inside.tree c.reveal_tree.ensures)
