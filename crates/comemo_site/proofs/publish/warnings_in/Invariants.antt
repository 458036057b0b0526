use Rattle.std.proofs.Common.{◌≡◌, take}
use Rattle.comemo.specs.Multi.{seconds}
use Rattle.comemo_site.proofs.publish.warnings_in.Given as goal

abbrev pub invariant-loop-write : goal.invariant-loop-write
invariant-loop-write l = l.warnings.items ≡ seconds (take l.write-index l.writes)
