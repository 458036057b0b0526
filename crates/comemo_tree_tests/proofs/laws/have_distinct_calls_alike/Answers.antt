use Rattle.comemo_tree_tests.proofs.Alike.{has_distinct_calls_alike}
use Rattle.comemo_tree_tests.proofs.laws.have_distinct_calls_alike.Goals as goal

pub returns : goal.returns
returns g c = has_distinct_calls_alike g.met.C.Eq.laws g.met.R.Eq.laws
