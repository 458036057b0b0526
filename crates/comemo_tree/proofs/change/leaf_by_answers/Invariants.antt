use Rattle.std.proofs.Common.{List, take}
use Rattle.comemo_tree.specs.Change.{HasAnswers}
use Rattle.comemo_tree.specs.Nodes.{LeadsFrom}
use Rattle.comemo_tree.proofs.change.leaf_by_answers.Given as goal

-- the answers so far lead to the node at hand
abbrev pub invariant-down : goal.invariant-down
invariant-down g l = record {
  led : (done : List (_ × _)) × LeadsFrom l.inner g.K.PartialEq.eq l.starts l.fn.key done l.at × HasAnswers g.R.PartialEq.eq done (take l.answer-index l.answers);
}
