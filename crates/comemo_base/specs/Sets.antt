-- The sets of pairs that a tree's paths form. A set is any list of its pairs, whose calls are distinct: neither the order of
-- that list nor that of the entries matters.
use Rattle.std.specs.Prelude.{◌≡◌, ◌<◌, ◌≢◌, ℕ, Bool, List, ◌∷◌, length, IsTrue, Option, MatchOption, slice_index_or}
use Rattle.std.specs.List.{Any}
use Rattle.std.specs.List.Sorted.{IsPermutation}
use Rattle.comemo_base.specs.Tree.{Stored, stored}
use Rattle.comemo_base.specs.Lookup.{under}
use Rattle.comemo_base.specs.Insertion.{AllAmong}

module _ {C R : Type 0} (eq : C → C → Bool) (same : R → R → Bool) where
  -- the lists have the same pairs, in any order
  abbrev pub HasSamePairs : List (C × R) → List (C × R) → Type 0
  HasSamePairs ps qs = AllAmong eq same ps qs × AllAmong eq same qs ps

  -- Of the entries under one key:
  module _ {K T : Type 0} (us : List (Stored K C R T)) (ps : List (C × R)) where
    -- some path has exactly the pairs of the list
    abbrev pub HasSet : Type 0
    HasSet = Any (λ e. HasSamePairs e.path ps) us

    -- r is the value of such a path
    abbrev pub FindsSet : Option T → Type 0
    FindsSet r = MatchOption r ⊥ (λ v. Any (λ e. HasSamePairs e.path ps × (e.value ≡ v)) us)

  module _ {K T : Type 0} (eqk : K → K → Bool) where
    -- no key has two paths with the same pairs
    abbrev pub HasEachSetOnce : List (Stored K C R T) → Type 0
    HasEachSetOnce es = (i j : ℕ) (d : Stored K C R T) → i < length es → j < length es → i ≢ j → IsTrue (eqk (slice_index_or es i d).key (slice_index_or es j d).key) → ¬ HasSamePairs (slice_index_or es i d).path (slice_index_or es j d).path

    -- the set of the pairs was not stored under the key; it was added with the value, and nothing else changed
    pub record AddsSet (key : K) (ps : List (C × R)) (value : T) (old new : List (Stored K C R T)) : Type 0 where
      pub lacked : ¬ HasSet (under eqk old key) ps
      pub own : K
      pub is_key : IsTrue (eqk own key)
      pub path : List (C × R)
      pub pairs : HasSamePairs path ps
      pub added : IsPermutation (stored own path value ∷ old) new
