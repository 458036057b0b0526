use Rattle.std.proofs.Common.{◌≡◌, ◌≤◌, ◌-◌, ◌^◌, length, min, sum}
use Rattle.comemo_cache.proofs.shared.Cache.contents.Given as goal

-- the numbers so far fit each other
abbrev pub invariant-loop-shard : goal.invariant-loop-shard
invariant-loop-shard g l =
    (length l.held.ages ≡ 8) × (l.held.entries ≡ min (sum l.held.ages) (2 ^ 64 - 1)) × (l.held.keys ≤ l.held.entries)
