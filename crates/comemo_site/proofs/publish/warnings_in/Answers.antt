use Rattle.std.proofs.Common.{◌∙◌, ◌++◌, [], ◌∷◌, ap, sym}
use Rattle.comemo.specs.Multi.{seconds}
use Rattle.comemo_site.proofs.Recorded.{seconds_more}
use Rattle.comemo_site.proofs.publish.warnings_in.Goals as goal

pub loop-write-preserved : goal.loop-write-preserved
loop-write-preserved c = c.in_ok-push_warning.ensures ∙ ap (λ l. l ++ seconds (c.write-item.result ∷ [])) c.loop-write.invariant ∙ sym (seconds_more c.args.writes.now c.loop-write.write-index c.write-item.result c.loop-write-test.true (sym c.write-item.is))
