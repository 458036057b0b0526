use Rattle.comemo_tree_tests.proofs.AlikeAsked.{trees_alike}
use Rattle.comemo_tree_tests.proofs.laws.are_trees_alike.Goals as goal

pub returns : goal.returns
returns g c = trees_alike g.met.C.Eq.laws g.met.R.Eq.laws _ _ g.met.K.Eq.laws
