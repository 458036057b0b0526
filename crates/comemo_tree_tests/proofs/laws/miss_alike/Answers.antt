use Rattle.comemo_tree_tests.proofs.Alike.{misses_alike}
use Rattle.comemo_tree_tests.proofs.laws.miss_alike.Goals as goal

pub returns : goal.returns
returns g c = misses_alike g.met.C.Eq.laws g.met.R.Eq.laws _ _
