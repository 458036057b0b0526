use Rattle.comemo_tree_tests.proofs.AlikeAsked.{next_alike}
use Rattle.comemo_tree_tests.proofs.laws.are_next_alike.Goals as goal

pub returns : goal.returns
returns g c = next_alike g.met.C.Eq.laws g.met.R.Eq.laws
