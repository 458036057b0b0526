-- How many prefixes the paths of a tree have.
use Rattle.std.specs.Prelude.{◌≡◌, ◌≢◌, ◌<◌, ◌-◌, ◌^◌, ℕ, min, Bool, List, [], length, IsTrue}
use Rattle.std.specs.List.{All, AllPairs, Any}
use Rattle.comemo_base.specs.Tree.{Stored, IsPrefix, IsSamePath}

-- n things have the property, counted up to sameness: some list of length n has only such things, no two of them the same, and
-- one that is the same as each such thing
pub record Counts {X : Type 0} (P : X → Type 0) (same_as : X → X → Type 0) (n : ℕ) : Type 0 where
  pub things : List X
  pub apart : AllPairs (λ x y. ¬ same_as x y) things
  pub only : All P things
  pub each : (x : X) → P x → Any (λ y. same_as x y) things
  pub many : length things ≡ n

module _ {K C R : Type 0} (eq : C → C → Bool) (same : R → R → Bool) (eqk : K → K → Bool) where
  -- prefixes are counted for each key: the keys are equal, and so are the pairs
  abbrev pub IsSameUnder : K × List (C × R) → K × List (C × R) → Type 0
  IsSameUnder f g = IsTrue (eqk f.0 g.0) × IsSamePath eq same f.1 g.1

  module _ {T : Type 0} (es : List (Stored K C R T)) where
    -- the key is that of an entry
    abbrev pub IsStoredKey : K → Type 0
    IsStoredKey key = Any (λ e. IsTrue (eqk e.key key)) es

    -- the pairs are a prefix of a path under the key
    abbrev pub IsPrefixUnder : K × List (C × R) → Type 0
    IsPrefixUnder f = Any (λ e. IsTrue (eqk e.key f.0) × IsPrefix eq same f.1 e.path) es

    -- a proper prefix: the path has more pairs
    abbrev pub IsProperPrefixUnder : K × List (C × R) → Type 0
    IsProperPrefixUnder f = Any (λ e. IsTrue (eqk e.key f.0) × IsPrefix eq same f.1 e.path × (length f.1 < length e.path)) es

    -- the numbers of proper prefixes, of paths, of nonempty prefixes and of keys; the third is at most the greatest `usize`
    pub record IsShape (shape : ℕ × ℕ × ℕ × ℕ) : Type 0 where
      pub inner : Counts IsProperPrefixUnder IsSameUnder shape.0
      pub leaves : length es ≡ shape.1
      pub edge_count : ℕ
      pub edges : Counts (λ f. IsPrefixUnder f × (f.1 ≢ [])) IsSameUnder edge_count
      pub edges_fit : shape.2 ≡ min edge_count (2 ^ 64 - 1)
      pub starts : Counts IsStoredKey (λ k l. IsTrue (eqk k l)) shape.3
