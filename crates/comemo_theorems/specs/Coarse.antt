-- Less of a history, by which alone nothing is stale: of a run that was stored only that there is one more entry for it.
use Rattle.std.specs.Prelude.{◌≡◌, ◌⊎◌, List, [], ◌∷◌, IsTrue}
use Rattle.std.specs.List.{All}
use Rattle.std.specs.List.Sorted.{IsPermutation}
use Rattle.comemo_base.specs.Answers.{Respects, Agrees}
use Rattle.comemo_base.specs.Tree.{Stored}
use Rattle.comemo_cache.specs.Meaning.{Meaning, Run, SameWrites}
use Rattle.comemo_cache.specs.Cache.{Kept, Entries, Has, Touches, Evicts}
use Rattle.comemo.specs.declared.pending.How.TheVariants as how
use Rattle.comemo_theorems.specs.History.{Step, found, touched, missed, ended, evicted, History, Honest, Right}

module _ {K C R O : Type 0} (M : Meaning K C R O) where
  -- one more entry: under an equal key, a clone of the output and equal writes, at a path that agrees only with what the
  -- run's pairs agree with
  pub record OneMore (es : Entries K C R O) (ran : Run K C R O) (es' : Entries K C R O) : Type 0 where
    pub entry : Stored K C R (Kept O C)
    pub has_key : IsTrue (M.same_key entry.key ran.key)
    pub only : (m : C → R) → Respects M.same_call M.same_answer m → Agrees M.same_answer m entry.path → Agrees M.same_answer m ran.pairs
    pub is_clone : M.is_clone ran.output entry.value.output
    pub same_writes : SameWrites M.same_call ran.writes entry.value.writes
    pub more : IsPermutation (entry ∷ es) es'

  abbrev pub Leads : Step K C R O → Entries K C R O → Entries K C R O → Type 0
  Leads (found call ran) es es' = Has M es call ran × (es' ≡ es)
  Leads (touched call) es es' = Touches M es call es' ⊎ (es' ≡ es)
  Leads (missed call) es es' = es' ≡ es
  Leads (ended call ran end) es es' = (es' ≡ es) ⊎ ((end ≡ how.Late → ⊥) × OneMore es ran es')
  Leads (evicted bound) es es' = Evicts bound es es'

  abbrev pub Past : List (Step K C R O) → Entries K C R O → Entries K C R O → Type 0
  Past [] es es' = es' ≡ es
  Past (s ∷ h) es es' = (mid : Entries K C R O) × Leads s es mid × Past h mid es'

  -- Never stale at all. In every such history of honest runs from an empty cache, what each step returns is right.
  abbrev pub NeverStaleAtAll : Type 0
  NeverStaleAtAll = (h : List (Step K C R O)) (es : Entries K C R O) → Past h [] es → All (Honest M) h → All (Right M) h

  -- Each history is such a one.
  abbrev pub IsPast : Type 0
  IsPast = (h : List (Step K C R O)) (es es' : Entries K C R O) → History M h es es' → All (Honest M) h → Past h es es'
