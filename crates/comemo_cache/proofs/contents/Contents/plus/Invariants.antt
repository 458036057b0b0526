use Rattle.std.proofs.Common.{◌≡◌, ◌+◌, ◌-◌, ◌^◌, ◌<◌, ◌≤◌, ℕ, length, min, slice_index}
use Rattle.comemo_cache.proofs.contents.Contents.plus.Given as goal

-- the places before this one are summed, and the others are as they were
abbrev pub invariant-loop-place : goal.invariant-loop-place
invariant-loop-place l =
    (length l.ages ≡ 8)
    × ((k : ℕ) → k < l.place → slice_index l.ages k ≡ min (slice_index l.self.ages k + slice_index l.other.ages k) (2 ^ 64 - 1))
    × ((k : ℕ) → l.place ≤ k → k < 8 → slice_index l.ages k ≡ slice_index l.self.ages k)
