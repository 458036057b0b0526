-- What a cache holds, and when an entry is legal.
use Rattle.std.specs.Prelude.{◌≡◌, ℕ, ◌+◌, nat_lt, Bool, ◌⊎◌, true, false, List, ◌∷◌, Option, None, map, filter, refl, IsTrue}
use Rattle.std.specs.List.{All, Any}
use Rattle.std.specs.List.Sorted.{IsPermutation}
use Rattle.std.specs.Coded.{Coded, code_by, coded×, coded_list, coded_ℕ}
use Rattle.comemo_base.specs.Answers.{Respects, Agrees}
use Rattle.comemo_base.specs.Tree.{Stored, IsSamePath}
use Rattle.comemo_base.specs.Lookup.{under, IsAsked, IsRefused}
use Rattle.comemo_tree.specs.Change.{HasAnswers, Changes}
use Rattle.comemo_cache.specs.Meaning.{Meaning, Invocation, Run, run, SameWrites, IsNamedRun}

-- the output of a run, its writes, and how many evictions it outlived since it was stored or last hit
pub record Kept (O C : Type 0) : Type 0 where
  pub output : O
  pub writes : List C
  pub age : ℕ

abbrev pub kept_code : {O C : Type 0} → Coded O → Coded C → Coded (Kept O C)
kept_code {O} {C} o c = code_by (O × (List C × ℕ)) (coded× o (coded× (coded_list c) coded_ℕ)) (λ x. (x.output, (x.writes, x.age))) (λ p. record { output = p.0; writes = p.1.0; age = p.1.1 }) (λ _. refl)

-- the entries of a memoized function's cache
abbrev pub Entries : Type 0 → Type 0 → Type 0 → Type 0 → Type 0
Entries K C R O = List (Stored K C R (Kept O C))

-- the entry with age 0
abbrev pub young : {K C R O : Type 0} → Stored K C R (Kept O C) → Stored K C R (Kept O C)
young e = record e { value = record e.value { age = 0 } }

-- the entry with its age one more
abbrev pub older : {K C R O : Type 0} → Stored K C R (Kept O C) → Stored K C R (Kept O C)
older e = record e { value = record e.value { age = e.value.age + 1 } }

-- the entries with an age below the bound, each one older
abbrev pub aged : {K C R O : Type 0} → ℕ → Entries K C R O → Entries K C R O
aged bound es = map older (filter (λ e. nat_lt e.value.age bound) es)

-- the entries after an eviction, in any order
abbrev pub Evicts : {K C R O : Type 0} → ℕ → Entries K C R O → Entries K C R O → Type 0
Evicts bound es es' = IsPermutation (aged bound es) es'

-- the entry under a key whose path has exactly these answers, if there is one, has age 0; the others are unchanged
abbrev pub TouchesAt : {K C R O : Type 0} → (R → R → Bool) → (K → K → Bool) → K → List R → Entries K C R O → Entries K C R O → Type 0
TouchesAt same eqk key answers es es' =
    Changes same eqk (λ old new. new ≡ record old { age = 0 }) key answers es es' ⊎ (All (λ e. ¬ HasAnswers same e.path answers) (under eqk es key) × (es' ≡ es))

-- clones of keys are equal; under answers that treat equal calls alike, the definition of a memoized function treats equal
-- keys, equal writes, and an output and its clone alike
pub record FunctionLaws {K C R O : Type 0} (eq : C → C → Bool) (same : R → R → Bool) (eqk : K → K → Bool) (key_clone : K → K → Type 0) (cloned : O → O → Type 0) (def : K → (C → R) → O → List C → Type 0) : Type 0 where
  pub outputs : (key : K) (m : C → R) (a b : O) (writes : List C) → Respects eq same m → cloned a b → def key m a writes → def key m b writes
  pub keys : (j k : K) (m : C → R) (output : O) (writes : List C) → Respects eq same m → IsTrue (eqk j k) → def j m output writes → def k m output writes
  pub writes : (key : K) (m : C → R) (output : O) (V W : List C) → Respects eq same m → SameWrites eq V W → def key m output V → def key m output W
  pub key_clones : (x y : K) → key_clone x y → IsTrue (eqk x y)

module _ {K C R O : Type 0} (M : Meaning K C R O) where
  -- for all answers that agree with what a run recorded, its output and writes are right at its key
  abbrev pub Stands : Run K C R O → Type 0
  Stands ran = (m : C → R) → Respects M.same_call M.same_answer m → Agrees M.same_answer m ran.pairs → M.right ran.key m ran.output ran.writes

  -- an entry's output and writes are right for all answers that agree with its path; its path has only reads, and its writes
  -- are writes; and if the asked calls are named, its path is causal and complete
  pub record IsLegal (e : Stored K C R (Kept O C)) : Type 0 where
    pub stands : Stands (run e.key e.path e.value.output e.value.writes)
    pub reads : All (λ p. M.is_write p.0 ≡ false) e.path
    pub written : All (λ c. M.is_write c ≡ true) e.value.writes
    pub settled : IsNamedRun M e.key e.path

  -- the entry agrees with the answers, and its path, its output and its writes are those of this run, up to clones
  abbrev pub IsEntryOf : (C → R) → Run K C R O → Stored K C R (Kept O C) → Type 0
  IsEntryOf m ran e =
      Agrees M.same_answer m e.path × IsSamePath M.same_call M.same_answer ran.pairs e.path × M.is_clone e.value.output ran.output × SameWrites M.same_call e.value.writes ran.writes

  module _ (es : Entries K C R O) (call : Invocation K C R) where
    -- no entry under the call's key agrees with its answers
    abbrev pub HasNone : Type 0
    HasNone = All (λ e. ¬ Agrees M.same_answer call.answers e.path) (under M.same_key es call.key)

    -- an entry under the call's key is of this run, and agrees with the call's answers
    abbrev pub Has : Run K C R O → Type 0
    Has ran = Any (IsEntryOf call.answers ran) (under M.same_key es call.key)

    -- the same, and the entry has this age
    abbrev pub HasAged : Run K C R O → ℕ → Type 0
    HasAged ran age = Any (λ e. IsEntryOf call.answers ran e × (e.value.age ≡ age)) (under M.same_key es call.key)

    -- an entry under the call's key agrees with the call's answers, and has this output, these writes and this age, up to
    -- clones; its path isn't shown, but has only reads, and the output and the writes are right by it; if the asked calls are
    -- named, it is causal and complete
    pub record IsPeeked (output : O) (writes : List C) (age : ℕ) : Type 0 where
      pub pairs : List (C × R)
      pub kept : HasAged (run call.key pairs output writes) age
      pub stands : Stands (run call.key pairs output writes)
      pub reads : All (λ p. M.is_write p.0 ≡ false) pairs
      pub written : All (λ c. M.is_write c ≡ true) writes
      pub settled : IsNamedRun M call.key pairs

    -- a look-up for the call asked this, got the answers of the call's input, and found nothing
    abbrev pub IsMiss : List (C × R) → Type 0
    IsMiss asked = Agrees M.same_answer call.answers asked × IsAsked M.same_call M.same_answer (under M.same_key es call.key) asked (let none : Option (Kept O C) = None in none)

    -- a look-up for the call failed: at the answer to the next call on a path, after the answers of the call's input; or at a
    -- clone of the entry that it found
    abbrev pub IsRefusedLook : Type 0
    IsRefusedLook =
        ((asked : List (C × R)) × (next : C) × Agrees M.same_answer call.answers asked × IsRefused M.same_call M.same_answer (under M.same_key es call.key) asked next)
        ⊎ Any (λ e. Agrees M.same_answer call.answers e.path) (under M.same_key es call.key)

    -- the entries after a hit: the one under the call's key that agrees with the call's answers has age 0, and the others are
    -- unchanged
    pub record Touches (es' : Entries K C R O) : Type 0 where
      pub entry : Stored K C R (Kept O C)
      pub others : List (Stored K C R (Kept O C))
      pub before : IsPermutation (entry ∷ others) es
      pub has_key : IsTrue (M.same_key entry.key call.key)
      pub agrees : Agrees M.same_answer call.answers entry.path
      pub after : IsPermutation (young entry ∷ others) es'
