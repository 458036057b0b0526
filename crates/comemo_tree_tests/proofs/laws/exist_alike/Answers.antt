use Rattle.comemo_tree_tests.proofs.Alike.{exists_alike}
use Rattle.comemo_tree_tests.proofs.laws.exist_alike.Goals as goal

pub returns : goal.returns
returns g c = exists_alike g.met.C.Eq.laws g.met.R.Eq.laws _ _
