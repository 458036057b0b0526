use Rattle.comemo_tree.proofs.Forest.{IsTree-from_forest}
use Rattle.comemo_tree.proofs.tree.CallTree.reveal_tree.Goals as goal

pub returns : goal.returns
returns g c = rw (← c.self.view_is) (IsTree-from_forest g.met.C.Eq.laws g.met.R.Eq.laws g.met.K.Eq.laws c.self.invariant)
