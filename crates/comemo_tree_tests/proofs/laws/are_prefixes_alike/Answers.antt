use Rattle.comemo_tree_tests.proofs.AlikeAsked.{prefixes_alike}
use Rattle.comemo_tree_tests.proofs.laws.are_prefixes_alike.Goals as goal

pub returns : goal.returns
returns g c = prefixes_alike g.met.C.Eq.laws g.met.R.Eq.laws
