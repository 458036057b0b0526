use Rattle.std.proofs.Common.{Ok, rules}
use Rattle.comemo.proofs.Recursions.{own_as, tells_own}
use Rattle.comemo_layers_tests.proofs.kinds.is_odd.Goals as goal

pub returns : goal.returns
returns c = own_as (tells_own (Ok c.in_ok-number.number) c.in_ok-number.ensures.tells tt) (λ m f told. search rules)
