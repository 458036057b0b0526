use Rattle.comemo_tree_tests.proofs.Alike.{finds_alike}
use Rattle.comemo_tree_tests.proofs.laws.find_alike.Goals as goal

pub returns : goal.returns
returns g c = finds_alike g.met.C.Eq.laws g.met.R.Eq.laws _ _
