use Rattle.comemo_tree.proofs.Empty.{IsForest-empty}
use Rattle.comemo_tree.proofs.tree.CallTree.new.Goals as goal

pub invariant_of-result : goal.invariant_of-result
invariant_of-result g c = IsForest-empty g.C.PartialEq.eq g.R.PartialEq.eq g.K.PartialEq.eq c.new.result c.new-2.result c.new-3.result c.new.ensures.empty c.new-2.ensures.empty c.new-3.ensures.empty
