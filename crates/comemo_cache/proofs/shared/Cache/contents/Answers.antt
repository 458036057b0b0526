use Rattle.std.proofs.Common.{◌≡◌, ◌-◌, ◌^◌, length, rules, arith}
use Rattle.comemo_cache.proofs.Sums.{sums_fit}
use Rattle.comemo_cache.proofs.shared.Cache.contents.Goals as goal
use Rattle.comemo_cache.proofs.shared.Cache.contents.Goals.{in-Some, in_default}

pub loop-shard-preserved : goal.loop-shard-preserved
loop-shard-preserved g c =
    elim c.match-deref.branch [
      | in-Some w ↦
          let before = c.loop-shard.invariant in
          let one = w.contents.ensures in
          let both = w.plus-held.ensures in
          let long : length w.plus-held.result.ages ≡ 8 = search rules in
          let own : length w.contents.result.ages ≡ 8 = search rules in
          let all = sums_fit (2 ^ 64 - 1) c.loop-shard.held.ages w.contents.result.ages w.plus-held.result.ages c.loop-shard.held.entries w.contents.result.entries w.plus-held.result.entries before.0 own long both.ages before.1 (search (rules, one.sum)) both.entries in
          rw w.held-is (long, all, omega (arith, both.keys, both.entries, before.2, one.few))
      | in_default w ↦ rw w.held-is c.loop-shard.invariant
    ]
