use Rattle.comemo_tree.proofs.Passes.{IsPruned-from_passes}
use Rattle.comemo_tree.proofs.retention.prune.Goals as goal

pub mark_above-requires : goal.mark_above-requires
mark_above-requires g c = c.requires

pub returns : goal.returns
returns g c = IsPruned-from_passes c.args.leaves.now c.args.inner.now c.mark_above.new.inner c.drop_unmarked.new.inner c.unlink.new.inner c.mark_above.ensures c.drop_unmarked.ensures c.unlink.ensures
