use Rattle.comemo_tree_tests.proofs.AlikeAsked.{stems_alike}
use Rattle.comemo_tree_tests.proofs.laws.are_stems_alike.Goals as goal

pub returns : goal.returns
returns g c = stems_alike g.met.C.Eq.laws g.met.R.Eq.laws _ _
