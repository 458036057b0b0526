use Rattle.std.proofs.Common.{◌-◌, List, sum_by, length}
use Rattle.std.specs.List.{All}
use Rattle.comemo_base.specs.Tree.{IsSamePath}
use Rattle.comemo_base.specs.Lookup.{under, Answered, IsStoredCall}
use Rattle.comemo_tree.specs.Nodes.{LeadsFrom, contents}
use Rattle.comemo_tree.proofs.Forest.{depth_of}
use Rattle.comemo_tree.proofs.tree.CallTree.get.Given as goal

-- what was asked leads to the node at hand
abbrev pub invariant-down : goal.invariant-down
invariant-down g l = record {
  led : (asked done : List (_ × _)) × Answered g.O.FnMut l.fn.oracle asked l.oracle × IsSamePath g.C.PartialEq.eq g.R.PartialEq.eq asked done × LeadsFrom l.self-inside.inner g.K.PartialEq.eq l.self-inside.starts l.fn.key done l.at × All (λ p. IsStoredCall (under g.K.PartialEq.eq (contents l.self-inside.inner l.self-inside.leaves) l.fn.key) p.0) asked;
}

-- no path is longer than all of them together
abbrev pub decreases-down : goal.decreases-down
decreases-down g l = sum_by (λ e. length e.path) (contents l.self-inside.inner l.self-inside.leaves) - depth_of l.self-inside.inner l.self-inside.leaves l.at
