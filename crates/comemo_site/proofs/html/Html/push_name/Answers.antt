use Rattle.comemo_site.specs.Addresses.{encode}
use Rattle.comemo_site.proofs.Pieces.{appended_more}
use Rattle.comemo_site.proofs.html.Html.push_name.Goals as goal

pub loop-byte-preserved : goal.loop-byte-preserved
loop-byte-preserved c = appended_more encode _ _ _ _ _ c.loop-byte-test.true c.loop-byte.invariant c.in_ok-push_name_byte.ensures
