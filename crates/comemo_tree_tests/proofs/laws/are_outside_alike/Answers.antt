use Rattle.comemo_tree_tests.proofs.AlikePairs.{outside_alike}
use Rattle.comemo_tree_tests.proofs.laws.are_outside_alike.Goals as goal

pub returns : goal.returns
returns g c = outside_alike g.met.C.Eq.laws g.met.R.Eq.laws
