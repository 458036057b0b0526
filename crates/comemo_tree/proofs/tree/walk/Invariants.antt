use Rattle.std.proofs.Common.{◌≡◌, ◌-◌, ◌++◌, List, sum_by, length}
use Rattle.comemo_base.specs.Tree.{IsSamePath}
use Rattle.comemo_base.specs.Sequence.{HasDistinctCalls}
use Rattle.comemo_base.specs.Insertion.{AllAmong, outside}
use Rattle.comemo_tree.specs.Nodes.{LeadsFrom, contents}
use Rattle.comemo_tree.proofs.Forest.{depth_of}
use Rattle.comemo_tree.proofs.tree.walk.Given as goal

-- the pairs that lead to the node at hand were taken out of the sequence
abbrev pub invariant-walk : goal.invariant-walk
invariant-walk g l = record {
  led : (asked done : List (_ × _)) × IsSamePath g.C.PartialEq.eq g.R.PartialEq.eq asked done × LeadsFrom l.inner g.K.PartialEq.eq l.starts l.fn.key.value done l.at × AllAmong g.C.PartialEq.eq g.R.PartialEq.eq l.fn.sequence.pairs asked × (l.sequence.pairs ≡ outside g.C.PartialEq.eq asked l.fn.sequence.pairs) × HasDistinctCalls g.C.PartialEq.eq (asked ++ l.sequence.pairs);
}

abbrev pub decreases-walk : goal.decreases-walk
decreases-walk g l = sum_by (λ e. length e.path) (contents l.inner l.leaves) - depth_of l.inner l.leaves l.at
