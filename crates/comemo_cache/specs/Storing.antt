-- When a run is stored, and what is stored of it.
use Rattle.std.specs.Prelude.{◌≡◌}
use Rattle.comemo_base.specs.Lookup.{under}
use Rattle.comemo_base.specs.Insertion.{Exists, Misses, Adds}
use Rattle.comemo_cache.specs.Meaning.{Meaning, Run, SameWrites}
use Rattle.comemo_cache.specs.Cache.{Kept, Entries}

module _ {K C R O : Type 0} (M : Meaning K C R O) (es : Entries K C R O) (ran : Run K C R O) where
  -- one more entry, of age 0: a clone of the output, and the writes up to equality, at the path that the pairs take, under an
  -- equal key
  pub record AddsRun (es' : Entries K C R O) : Type 0 where
    pub kept : Kept O C
    pub is_clone : M.is_clone ran.output kept.output
    pub same_writes : SameWrites M.same_call ran.writes kept.writes
    pub is_new : kept.age ≡ 0
    pub adds : Adds M.same_call M.same_answer M.same_key es ran.key ran.pairs kept es'

  -- a run is stored: no entry has all its pairs among those of the run, none lacks a call of it, and there is one more
  abbrev pub Stores : Entries K C R O → Type 0
  Stores es' = (¬ Exists M.same_call M.same_answer (under M.same_key es ran.key) ran.pairs) × (¬ Misses M.same_call M.same_answer (under M.same_key es ran.key) ran.pairs) × AddsRun es'
