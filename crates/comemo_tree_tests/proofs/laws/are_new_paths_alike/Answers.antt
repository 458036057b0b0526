use Rattle.comemo_tree_tests.proofs.AlikeAsked.{new_paths_alike}
use Rattle.comemo_tree_tests.proofs.laws.are_new_paths_alike.Goals as goal

pub returns : goal.returns
returns g c = new_paths_alike g.met.C.Eq.laws g.met.R.Eq.laws _ _
