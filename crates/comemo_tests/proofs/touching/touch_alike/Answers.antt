use Rattle.comemo_tests.proofs.TouchedAlike.{alike_touched}
use Rattle.comemo_tests.proofs.touching.touch_alike.Goals as goal

pub returns : goal.returns
returns g c = λ alike. alike_touched g.C.PartialEq.eq g.C.Call.touches alike g.R.PartialEq.eq
