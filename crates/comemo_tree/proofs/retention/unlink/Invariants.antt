use Rattle.comemo_tree.specs.Marks.{IsUnlinking}
use Rattle.comemo_tree.proofs.retention.unlink.Given as goal

abbrev pub invariant-nodes : goal.invariant-nodes
invariant-nodes g l = record { unlinking : IsUnlinking l.fn.inner l.inner l.leaves l.at }
