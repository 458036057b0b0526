use Rattle.comemo_tree_tests.proofs.Alike.{parts_alike}
use Rattle.comemo_tree_tests.proofs.laws.part_alike.Goals as goal

pub returns : goal.returns
returns g c = parts_alike g.met.C.Eq.laws g.met.R.Eq.laws
