use Rattle.comemo_tree_tests.proofs.AlikePairs.{seen_alike}
use Rattle.comemo_tree_tests.proofs.laws.were_seen_alike.Goals as goal

pub returns : goal.returns
returns g c = seen_alike g.met.C.Eq.laws _
