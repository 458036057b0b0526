use Rattle.std.proofs.Common.{◌≡◌, ◌+◌, ◌<◌, ◌==◌, ℕ, length, min, count_by, slice_index}
use Rattle.comemo_cache.proofs.contents.count_ages.Given as goal

-- the counts so far and those of the runs that are left are the counts of all
abbrev pub invariant-loop-kept : goal.invariant-loop-kept
invariant-loop-kept g l =
    (goal.iterator-loop-kept g).can_next l.kept-iterator
    × (goal.iterator-loop-kept g).is_finite l.kept-iterator
    × (length l.ages ≡ 8)
    × ((place : ℕ) → place < 8 → slice_index l.ages place + count_by (λ k. min k.age 7 == place) l.kept-iterator ≡ count_by (λ k. min k.age 7 == place) l.fn.runs)
