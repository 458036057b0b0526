use Rattle.comemo_site.specs.Html.{upward}
use Rattle.comemo_site.proofs.Pieces.{appended_more}
use Rattle.comemo_site.proofs.html.Html.push_upwards.Goals as goal

pub loop-byte-preserved : goal.loop-byte-preserved
loop-byte-preserved c = appended_more upward _ _ _ _ _ c.loop-byte-test.true c.loop-byte.invariant c.in_ok-push_upward.ensures
