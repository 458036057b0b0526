use Rattle.std.proofs.Common.{rules}
use Rattle.comemo_tree.proofs.Left.{Leaves-weaker}
use Rattle.comemo_tree.proofs.settled.Settled.step.Goals as goal

pub returns-in-Retain-clause-step : goal.returns-in-Retain-clause-step
returns-in-Retain-clause-step g c =
    let h = c.retain.ensures.kept in
    rw c.in-Retain.is (h.0, Leaves-weaker _ _ (λ v b w r. search rules) _ _ h.1, h.2)
