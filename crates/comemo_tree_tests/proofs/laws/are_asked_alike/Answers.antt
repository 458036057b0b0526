use Rattle.comemo_tree_tests.proofs.AlikeAsked.{asked_alike}
use Rattle.comemo_tree_tests.proofs.laws.are_asked_alike.Goals as goal

pub returns : goal.returns
returns g c = asked_alike g.met.C.Eq.laws g.met.R.Eq.laws _ _
