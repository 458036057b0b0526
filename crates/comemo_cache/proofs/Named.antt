-- A function that names its calls: what is stored is a run of it, and no call is missing.
use Rattle.std.proofs.Common.{◌≡◌, Bool, List, IsTrue, Result, Ok, Err, IfErr}
use Rattle.std.specs.List.{All}
use Rattle.std.specs.Cmp.{IsEquivalence}
use Rattle.comemo_base.specs.Sequence.{HasDistinctCalls}
use Rattle.comemo_base.specs.Tree.{Stored, IsSamePath}
use Rattle.comemo_base.specs.Lookup.{under}
use Rattle.comemo_base.specs.Insertion.{Misses, IsNewPath, IsReason}
use Rattle.comemo_base.specs.declared.insertion.InsertError.{InsertError}
use Rattle.comemo_base.specs.declared.insertion.InsertError.TheVariants.{AlreadyExists, MissingCall, Memory}
use Rattle.comemo_base.proofs.Paths.{turned, joined}
use Rattle.comemo_base.specs.Runs.{AsksRespect, IsRun}
use Rattle.comemo_base.proofs.Settling.{run_of_alike, run_alike}
use Rattle.comemo_base.proofs.Runs.{IsRun-moved, IsRun-new, never_misses}
use Rattle.comemo_cache.specs.Meaning.{Meaning, Naming, unnamed, names, Names, AsksAlike, IsRunOf, IsNamedRun}
use Rattle.comemo_cache.specs.Cache.{Entries, IsLegal}

-- the paths of legal entries are runs
pub settled_from_legal : {K C R O : Type 0} (M : Meaning K C R O) (es : Entries K C R O) → All (IsLegal M) es → All (λ e. IsNamedRun M e.key e.path) es
settled_from_legal M es legal = λ k d l. (legal k d l).settled

module _ {C R : Type 0} {eq : C → C → Bool} {same : R → R → Bool} (calls : IsEquivalence eq) (answers : IsEquivalence same) {K : Type 0} {eqk : K → K → Bool} (keys : IsEquivalence eqk) where
  -- what is asked alike tells no equal keys and no equal calls apart
  alike_respects : (asks : K → (C → R) → C → Type 0) → AsksRespect eqk eq (AsksAlike eqk eq asks)
  alike_respects asks k k' m c c' e f (j, d, g, h, a) = (j, d, joined keys j k k' g e, joined calls d c c' h f, a)

  -- a run of what is asked is one of what is asked alike
  pub run_named : (asks : K → (C → R) → C → Type 0) → AsksRespect eqk eq asks → (key : K) (ps : List (C × R)) → IsRun eq same (asks key) ps → IsRun eq same (AsksAlike eqk eq asks key) ps
  run_named asks law key ps run =
      run_of_alike calls answers (asks key) (AsksAlike eqk eq asks key) (λ m c a. (key, c, keys.refl key, calls.refl c, a)) (λ m c (k, d, e, f, a). law k key m d c e f a) ps run

  -- and the other way
  pub run_from_named : (asks : K → (C → R) → C → Type 0) → AsksRespect eqk eq asks → (key : K) (ps : List (C × R)) → IsRun eq same (AsksAlike eqk eq asks key) ps → IsRun eq same (asks key) ps
  run_from_named asks law key ps run =
      run_of_alike calls answers (AsksAlike eqk eq asks key) (asks key) (λ m c (k, d, e, f, a). law k key m d c e f a) (λ m c a. (key, c, keys.refl key, calls.refl c, a)) ps run

  -- what is a run under a key is one under an equal key
  pub named_moved : (N : Naming K C R) (k key : K) (ps : List (C × R)) → IsTrue (eqk k key) → IsRunOf eqk eq same N k ps → IsRunOf eqk eq same N key ps
  named_moved unnamed k key ps e run = tt
  named_moved (names asks) k key ps e run = IsRun-moved calls answers keys (AsksAlike eqk eq asks) (alike_respects asks) k key ps e run

  -- so is it where its calls and answers are changed for equal ones
  pub named_alike : (N : Naming K C R) (key : K) (ps qs : List (C × R)) → IsSamePath eq same qs ps → IsRunOf eqk eq same N key ps → IsRunOf eqk eq same N key qs
  named_alike unnamed key ps qs s run = tt
  named_alike (names asks) key ps qs s run = run_alike calls answers (AsksAlike eqk eq asks key) (λ m c d e a. alike_respects asks key key m c d (keys.refl key) e a) ps qs s run

  -- what was kept under an equal key, up to equality, is a run
  pub named_found : (N : Naming K C R) (k key : K) (ps qs : List (C × R)) → IsTrue (eqk k key) → IsSamePath eq same qs ps → IsRunOf eqk eq same N k ps → IsRunOf eqk eq same N key qs
  named_found N k key ps qs e s run = named_alike N key ps qs s (named_moved N k key ps e run)

  module _ {T : Type 0} (es : List (Stored K C R T)) (key : K) (s : List (C × R)) (distinct : HasDistinctCalls eq s) where
    -- the path that an insertion stores is a run under each equal key
    pub named_new : (N : Naming K C R) → All (λ e. IsRunOf eqk eq same N e.key e.path) es → IsRunOf eqk eq same N key s → (own : K) (path : List (C × R)) → IsTrue (eqk own key) → IsNewPath eq same (under eqk es key) s path → IsRunOf eqk eq same N own path
    named_new unnamed settled run own path e new = tt
    named_new (names asks) settled run own path e new =
        let law = alike_respects asks in
        IsRun-moved calls answers keys (AsksAlike eqk eq asks) law key own path (turned keys own key e) (IsRun-new calls answers keys (AsksAlike eqk eq asks) law es settled key s distinct run path new)

    -- no call is missing
    never_named : (N : Naming K C R) → All (λ e. IsRunOf eqk eq same N e.key e.path) es → IsRunOf eqk eq same N key s → Names N → Misses eq same (under eqk es key) s → ⊥
    never_named unnamed settled run named misses = absurd named
    never_named (names asks) settled run named misses = never_misses calls answers keys (AsksAlike eqk eq asks) (alike_respects asks) es settled key s distinct run misses

    pub missing_unnamed : (N : Naming K C R) → All (λ e. IsRunOf eqk eq same N e.key e.path) es → IsRunOf eqk eq same N key s → {V : Type 0} (r : Result V InsertError) → IfErr r (IsReason eq same (under eqk es key) s) → IfErr r (λ error. error ≡ MissingCall → ¬ Names N)
    missing_unnamed N settled run (Ok v) h = tt
    missing_unnamed N settled run (Err MissingCall) h = λ e named. never_named N settled run named h
    missing_unnamed N settled run (Err AlreadyExists) h = λ e. absurd (let never : ⊥ = cc in never)
    missing_unnamed N settled run (Err Memory) h = λ e. absurd (let never : ⊥ = cc in never)
