use Rattle.comemo_tree_tests.proofs.AlikeAsked.{finds_path_alike}
use Rattle.comemo_tree_tests.proofs.laws.find_paths_alike.Goals as goal

pub returns : goal.returns
returns g c = finds_path_alike g.met.C.Eq.laws g.met.R.Eq.laws _ _
