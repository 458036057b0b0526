-- For each definition: it does not distinguish equal keys, calls or answers.
use Rattle.std.specs.Prelude.{◌≡◌, ◌↔◌, Bool, List, IsTrue, Option, Some, None}
use Rattle.std.specs.List.{AllZip}
use Rattle.comemo_base.specs.Answers.{Respects, Agrees}
use Rattle.comemo_base.specs.Sequence.{Sequence, HasDistinctCalls, was_seen, held, absorbed}
use Rattle.comemo_base.specs.Tree.{Stored, IsSamePath, IsPrefix, IsTree, Parts}
use Rattle.comemo_base.specs.Lookup.{under, IsNext, IsAsked, IsRefused, FindsAgreeing, FindsAgreeingPath}
use Rattle.comemo_base.specs.Insertion.{Exists, Misses, IsStem, IsNewPath, outside}

module _ {C R : Type 0} (eq : C → C → Bool) (same : R → R → Bool) where
  -- Answers that are the same for equal calls agree with both of two equal paths, or with neither.
  abbrev pub AgreesAlike : Type 0
  AgreesAlike = (m : C → R) (ps qs : List (C × R)) → Respects eq same m → IsSamePath eq same ps qs → Agrees same m ps ↔ Agrees same m qs

  -- The calls of both of two equal paths are distinct, or of neither.
  abbrev pub HasDistinctCallsAlike : Type 0
  HasDistinctCallsAlike = (ps qs : List (C × R)) → IsSamePath eq same ps qs → HasDistinctCalls eq ps ↔ HasDistinctCalls eq qs

  -- Two equal paths hold the same calls, up to equality.
  abbrev pub HeldAlike : Type 0
  HeldAlike = (ps qs : List (C × R)) (a b : C) → IsSamePath eq same ps qs → IsTrue (eq a b) → held eq ps a ≡ held eq qs b

  -- Equal sequences that absorb equal pairs stay equal.
  abbrev pub AbsorbedAlike : Type 0
  AbsorbedAlike = (ps ps' qs qs' : List (C × R)) → IsSamePath eq same ps ps' → IsSamePath eq same qs qs' → IsSamePath eq same (absorbed eq ps qs) (absorbed eq ps' qs')

  -- The pairs of equal sequences outside equal prefixes are equal.
  abbrev pub OutsideAlike : Type 0
  OutsideAlike = (ps ps' s s' : List (C × R)) → IsSamePath eq same ps ps' → IsSamePath eq same s s' → IsSamePath eq same (outside eq ps s) (outside eq ps' s')

  -- If two paths part, so do any two that are equal to them.
  abbrev pub PartsAlike : Type 0
  PartsAlike = (ps ps' qs qs' : List (C × R)) → IsSamePath eq same ps ps' → IsSamePath eq same qs qs' → Parts eq same ps qs ↔ Parts eq same ps' qs'

  -- If a path is a prefix of another, so is any path equal to it of any path equal to the other.
  abbrev pub IsPrefixAlike : Type 0
  IsPrefixAlike = (ps ps' qs qs' : List (C × R)) → IsSamePath eq same ps ps' → IsSamePath eq same qs qs' → IsPrefix eq same ps qs ↔ IsPrefix eq same ps' qs'

  -- After equal prefixes of equal paths, equal calls are next.
  abbrev pub IsNextAlike : Type 0
  IsNextAlike = (ps ps' qs qs' : List (C × R)) (a b : C) → IsSamePath eq same ps ps' → IsTrue (eq a b) → IsSamePath eq same qs qs' → IsNext eq same ps a qs ↔ IsNext eq same ps' b qs'

  module _ (K T : Type 0) where
    -- Look-ups that ask equal lists find the same.
    abbrev pub IsAskedAlike : Type 0
    IsAskedAlike = (us : List (Stored K C R T)) (ps qs : List (C × R)) (r : Option T) → IsSamePath eq same ps qs → IsAsked eq same us ps r ↔ IsAsked eq same us qs r

    -- Look-ups that ask equal lists fail at equal calls.
    abbrev pub IsRefusedAlike : Type 0
    IsRefusedAlike = (us : List (Stored K C R T)) (ps qs : List (C × R)) (a b : C) → IsSamePath eq same ps qs → IsTrue (eq a b) → IsRefused eq same us ps a ↔ IsRefused eq same us qs b

    -- Answers that are equal at each call find the same entries.
    abbrev pub FindsAlike : Type 0
    FindsAlike = (us : List (Stored K C R T)) (m m' : C → R) (r : Option T) → ((c : C) → IsTrue (same (m c) (m' c))) → FindsAgreeing eq same us m r ↔ FindsAgreeing eq same us m' r

    -- They find equal paths with the same value, or no path.
    abbrev pub FindsPathAlike : Type 0
    FindsPathAlike =
        (us : List (Stored K C R T)) (m m' : C → R)
        → ((c : C) → IsTrue (same (m c) (m' c)))
        → (FindsAgreeingPath eq same us m None ↔ FindsAgreeingPath eq same us m' None)
        × ((ps qs : List (C × R)) (v : T) → IsSamePath eq same ps qs → FindsAgreeingPath eq same us m (Some (ps, v)) ↔ FindsAgreeingPath eq same us m' (Some (qs, v)))

    -- Both of two equal sequences have the pairs of a stored path, or neither has.
    abbrev pub ExistsAlike : Type 0
    ExistsAlike = (us : List (Stored K C R T)) (s s' : List (C × R)) → IsSamePath eq same s s' → Exists eq same us s ↔ Exists eq same us s'

    -- Both of two equal sequences lack a call of a stored path, or neither does.
    abbrev pub MissesAlike : Type 0
    MissesAlike = (us : List (Stored K C R T)) (s s' : List (C × R)) → IsSamePath eq same s s' → Misses eq same us s ↔ Misses eq same us s'

    -- Equal sequences have equal stems.
    abbrev pub IsStemAlike : Type 0
    IsStemAlike = (us : List (Stored K C R T)) (s s' ps qs : List (C × R)) → IsSamePath eq same s s' → IsSamePath eq same ps qs → IsStem eq same us s ps ↔ IsStem eq same us s' qs

    -- Equal sequences are stored at equal paths.
    abbrev pub IsNewPathAlike : Type 0
    IsNewPathAlike = (us : List (Stored K C R T)) (s s' ps : List (C × R)) → IsSamePath eq same s s' → IsNewPath eq same us s ps → (qs : List (C × R)) × IsNewPath eq same us s' qs × IsSamePath eq same ps qs

    -- Lists of entries with equal keys and paths, place by place, are both a tree's, or neither is.
    abbrev pub IsTreeAlike : (K → K → Bool) → Type 0
    IsTreeAlike eqk = (es es' : List (Stored K C R T)) → AllZip (λ e e'. IsTrue (eqk e.key e'.key) × IsSamePath eq same e.path e'.path) es es' → IsTree eq same eqk es ↔ IsTree eq same eqk es'

-- A sequence saw both of two equal calls, or neither.
abbrev pub WasSeenAlike : {C : Type 0} → (C → C → Bool) → Type 0 → Type 0
WasSeenAlike {C} eq R = (s : Sequence C R) (a b : C) → IsTrue (eq a b) → was_seen eq s a ≡ was_seen eq s b

-- Equal keys have the same entries.
abbrev pub UnderAlike : {K : Type 0} → (K → K → Bool) → (C R T : Type 0) → Type 0
UnderAlike {K} eqk C R T = (es : List (Stored K C R T)) (k k' : K) → IsTrue (eqk k k') → under eqk es k ≡ under eqk es k'
