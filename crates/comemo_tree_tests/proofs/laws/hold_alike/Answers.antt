use Rattle.comemo_tree_tests.proofs.AlikePairs.{held_alike}
use Rattle.comemo_tree_tests.proofs.laws.hold_alike.Goals as goal

pub returns : goal.returns
returns g c = held_alike g.met.C.Eq.laws g.met.R.Eq.laws
