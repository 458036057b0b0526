-- The contracts of the plain tree's private steps. No public contract uses this.
use Rattle.std.specs.Prelude.{ℕ, ◌<◌, Bool, List, length, IsTrue, slice_index_or}
use Rattle.std.specs.List.{HoldsAt}

-- the first path has the answer at n, and before n the answers of the second
abbrev pub Follows : {C R : Type 0} → (R → R → Bool) → List (C × R) → List (C × R) → ℕ → R → Type 0
Follows {C} {R} same ps qs n answer =
    (n < length ps)
    × HoldsAt (λ p. IsTrue (same p.1 answer)) ps n
    × ((k : ℕ) (d : C × R) → k < n → IsTrue (same (slice_index_or ps k d).1 (slice_index_or qs k d).1))
