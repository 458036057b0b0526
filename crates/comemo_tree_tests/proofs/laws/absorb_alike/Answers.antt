use Rattle.comemo_tree_tests.proofs.AlikePairs.{absorbed_alike}
use Rattle.comemo_tree_tests.proofs.laws.absorb_alike.Goals as goal

pub returns : goal.returns
returns g c = absorbed_alike g.met.C.Eq.laws g.met.R.Eq.laws
