-- The entry that a look-up found, afterwards. A reader needn't trust this.
use Rattle.std.specs.Prelude.{◌≡◌, ℕ, ◌⊎◌, Bool, List}
use Rattle.comemo_tree.specs.Change.{HasAnswers}
use Rattle.comemo_cache.specs.Cache.{Entries, TouchesAt}

-- a path was found whose entry has this age; the entry was then touched by the path's answers, or has age 0 anyway
abbrev pub TouchesFound : {K C R O : Type 0} → (R → R → Bool) → (K → K → Bool) → K → List (C × R) → ℕ → Entries K C R O → Entries K C R O → Type 0
TouchesFound {K} {C} {R} same eqk key pairs age es es' =
    ((age ≡ 0) × (es' ≡ es)) ⊎ ((answers : List R) × HasAnswers same pairs answers × TouchesAt same eqk key answers es es')
