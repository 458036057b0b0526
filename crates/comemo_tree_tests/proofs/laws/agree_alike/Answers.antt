use Rattle.comemo_tree_tests.proofs.Alike.{agrees_alike}
use Rattle.comemo_tree_tests.proofs.laws.agree_alike.Goals as goal

pub returns : goal.returns
returns g c = agrees_alike g.met.C.Eq.laws g.met.R.Eq.laws
