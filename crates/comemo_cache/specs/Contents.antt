-- What a cache holds, in numbers.
use Rattle.std.specs.Prelude.{ℕ, Bool, min, ◌==◌, count_by, IsTrue}
use Rattle.std.specs.List.{Any}
use Rattle.comemo_tree.specs.Shape.{Counts}
use Rattle.comemo_cache.specs.Cache.{Entries}

module _ {K C R O : Type 0} (es : Entries K C R O) where
  -- how many entries have an age with this place in a list of ages: its own below 7, and 7 for each greater one
  abbrev pub count_at : ℕ → ℕ
  count_at place = count_by (λ e. min e.value.age 7 == place) es

  -- so many keys, of which no two are equal, are those of the entries
  abbrev pub HasKeys : (K → K → Bool) → ℕ → Type 0
  HasKeys eqk n = Counts (λ key. Any (λ e. IsTrue (eqk e.key key)) es) (λ k l. IsTrue (eqk k l)) n
