use Rattle.comemo_base.proofs.Under.{under-alike}
use Rattle.comemo_tree_tests.proofs.laws.are_under_alike.Goals as goal

pub returns : goal.returns
returns g c = λ es k k' e. under-alike g.K.PartialEq.eq es k g.met.K.Eq.laws k' e
