use Rattle.comemo_tree_tests.proofs.AlikeAsked.{refused_alike}
use Rattle.comemo_tree_tests.proofs.laws.are_refused_alike.Goals as goal

pub returns : goal.returns
returns g c = refused_alike g.met.C.Eq.laws g.met.R.Eq.laws _ _
