-- Equal writes to a log put the same text on a line, which a law requires. It is proved, and defines nothing.
use Rattle.std.specs.Prelude.{◌≡◌}
use Rattle.std.proofs.Common.{IsTrue}
use Rattle.comemo.proofs.Texts.{bytes_of_equal}
use Rattle.comemo_examples.specs.Writers.{logged}
use Rattle.comemo_examples.specs.declared.log.LogCall.{LogCall}
use Rattle.comemo_examples.specs.declared.log.LogCall.TheVariants.{Line}
use Rattle.comemo_examples.specs.contracts.log.LogCallPartialEq.TheImpl as call

pub logged_alike : (x y : LogCall) → IsTrue (call.ghosts.eq x y) → logged x ≡ logged y
logged_alike (Line a) (Line b) h = bytes_of_equal a b h
