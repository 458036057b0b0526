use Rattle.std.proofs.Common.{length}
use Rattle.comemo_cache.proofs.shared.+evict_shards.Given as goal

abbrev pub decreases-evict_shards : goal.decreases-evict_shards
decreases-evict_shards g l = length l.shards.now
