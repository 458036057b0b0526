-- No definition distinguishes equal keys, calls or answers.
use Rattle.std.proofs.Common.{◌≡◌, ◌∙◌, sym, Bool, true, false, List, [], ◌∷◌, inl, inr, IsTrue, Option, Some, None}
use Rattle.std.proofs.lemmas.Bool.{cases_Bool}
use Rattle.std.proofs.lemmas.List.Elements.{All-weaker}
use Rattle.std.specs.Prelude.{IsSomeAnd}
use Rattle.std.specs.Map.{lookup}
use Rattle.std.specs.HashMap.Eq.{lookup_congr}
use Rattle.std.specs.Cmp.{IsEquivalence}
use Rattle.comemo_base.specs.Answers.{Respects, Agrees}
use Rattle.comemo_base.specs.Sequence.{HasDistinctCalls}
use Rattle.comemo_base.specs.Tree.{Stored, IsSamePath, Parts}
use Rattle.comemo_base.specs.Lookup.{FindsAgreeing}
use Rattle.comemo_base.specs.Insertion.{Has, AllAmong, LacksNextCall, Exists, Misses}
use Rattle.comemo_base.proofs.Under.{Any-weaker}
use Rattle.comemo_base.proofs.Paths.{turned, joined, IsSamePath-turned}
use Rattle.comemo_tree_tests.specs.Laws.{AgreesAlike, HasDistinctCallsAlike, PartsAlike, FindsAlike, ExistsAlike, MissesAlike}

-- both are none, or their items are equal
abbrev pub IsSameOption : {R : Type 0} → (R → R → Bool) → Option R → Option R → Type 0
IsSameOption same None None = Unit {0}
IsSameOption same None (Some b) = ⊥
IsSameOption same (Some a) None = ⊥
IsSameOption same (Some a) (Some b) = IsTrue (same a b)

module _ {C R : Type 0} {eq : C → C → Bool} {same : R → R → Bool} (calls : IsEquivalence eq) (answers : IsEquivalence same) where
  pub lookup-same : (c : C) (ps qs : List (C × R)) → IsSamePath eq same ps qs → IsSameOption same (lookup (eq c) ps) (lookup (eq c) qs)
  lookup-same c [] [] h = tt
  lookup-same c [] (q ∷ qs) h = absurd h
  lookup-same c (p ∷ ps) [] h = absurd h
  lookup-same c (p ∷ ps) (q ∷ qs) h =
      let e : eq c p.0 ≡ eq c q.0 = calls.symm c p.0 ∙ calls.congr p.0 q.0 c h.0 ∙ calls.symm q.0 c in
      elim (cases_Bool (eq c p.0)) [
        | inl a ↦ let b : eq c q.0 ≡ true = sym e ∙ a in rw (a, b) h.1
        | inr a ↦ let b : eq c q.0 ≡ false = sym e ∙ a in rw (a, b) (lookup-same c ps qs h.2)
      ]

  none_same : (o o' : Option R) → IsSameOption same o o' → o ≡ None → o' ≡ None
  none_same None None h e = e
  none_same None (Some b) h e = absurd h
  none_same (Some a) None h e = absurd h
  none_same (Some a) (Some b) h e = cc

  some_same : (x : R) (o o' : Option R) → IsSameOption same o o' → IsSomeAnd o (λ a. IsTrue (same a x)) → IsSomeAnd o' (λ a. IsTrue (same a x))
  some_same x None None h k = k
  some_same x None (Some b) h k = absurd h
  some_same x (Some a) None h k = absurd h
  some_same x (Some a) (Some b) h k = joined answers b a x (turned answers a b h) k

  pub HasDistinctCalls-same : (ps qs : List (C × R)) → IsSamePath eq same ps qs → HasDistinctCalls eq ps → HasDistinctCalls eq qs
  HasDistinctCalls-same [] [] h k = tt
  HasDistinctCalls-same [] (q ∷ qs) h k = absurd h
  HasDistinctCalls-same (p ∷ ps) [] h k = absurd h
  HasDistinctCalls-same (p ∷ ps) (q ∷ qs) h k =
      (sym (lookup_congr eq calls.congr qs p.0 q.0 h.0) ∙ none_same (lookup (eq p.0) ps) (lookup (eq p.0) qs) (lookup-same p.0 ps qs h.2) k.0, HasDistinctCalls-same ps qs h.2 k.1)

  pub Parts-same : (ps ps' qs qs' : List (C × R)) → IsSamePath eq same ps ps' → IsSamePath eq same qs qs' → Parts eq same ps qs → Parts eq same ps' qs'
  Parts-same [] ps' qs qs' h h' k = absurd k
  Parts-same (p ∷ ps) [] qs qs' h h' k = absurd h
  Parts-same (p ∷ ps) (p' ∷ ps') [] qs' h h' k = absurd k
  Parts-same (p ∷ ps) (p' ∷ ps') (q ∷ qs) [] h h' k = absurd h'
  Parts-same (p ∷ ps) (p' ∷ ps') (q ∷ qs) (q' ∷ qs') h h' k = (
    joined calls p'.0 p.0 q'.0 (turned calls p.0 p'.0 h.0) (joined calls p.0 q.0 q'.0 k.0 h'.0),
    λ e. Parts-same ps ps' qs qs' h.2 h'.2 (k.1 (joined answers p.1 p'.1 q.1 h.1 (joined answers p'.1 q'.1 q.1 e (turned answers q.1 q'.1 h'.1)))),
  )

  Agrees-same : (m : C → R) (ps qs : List (C × R)) → Respects eq same m → IsSamePath eq same ps qs → Agrees same m ps → Agrees same m qs
  Agrees-same m [] [] respects h k = tt
  Agrees-same m [] (q ∷ qs) respects h k = absurd h
  Agrees-same m (p ∷ ps) [] respects h k = absurd h
  Agrees-same m (p ∷ ps) (q ∷ qs) respects h k =
      (joined answers (m q.0) (m p.0) q.1 (turned answers (m p.0) (m q.0) (respects p.0 q.0 h.0)) (joined answers (m p.0) p.1 q.1 k.0 h.1), Agrees-same m ps qs respects h.2 k.1)

  -- answers that are equal at each call agree with the same paths
  pub Agrees-alike : (m m' : C → R) (ps : List (C × R)) → ((c : C) → IsTrue (same (m c) (m' c))) → Agrees same m ps → Agrees same m' ps
  Agrees-alike m m' [] e k = tt
  Agrees-alike m m' (p ∷ ps) e k = (joined answers (m' p.0) (m p.0) p.1 (turned answers (m p.0) (m' p.0) (e p.0)) k.0, Agrees-alike m m' ps e k.1)

  Has-same : (s s' : List (C × R)) (p : C × R) → IsSamePath eq same s s' → Has eq same s p → Has eq same s' p
  Has-same s s' p h k = some_same p.1 (lookup (eq p.0) s) (lookup (eq p.0) s') (lookup-same p.0 s s' h) k

  pub AllAmong-same : (s s' ps : List (C × R)) → IsSamePath eq same s s' → AllAmong eq same s ps → AllAmong eq same s' ps
  AllAmong-same s s' [] h k = tt
  AllAmong-same s s' (p ∷ ps) h k = (Has-same s s' p h k.0, AllAmong-same s s' ps h k.1)

  LacksNextCall-same : (s s' ps : List (C × R)) → IsSamePath eq same s s' → LacksNextCall eq same s ps → LacksNextCall eq same s' ps
  LacksNextCall-same s s' [] h k = absurd k
  LacksNextCall-same s s' (p ∷ ps) h (inl e) = inl (none_same (lookup (eq p.0) s) (lookup (eq p.0) s') (lookup-same p.0 s s' h) e)
  LacksNextCall-same s s' (p ∷ ps) h (inr k) = inr (Has-same s s' p h k.0, LacksNextCall-same s s' ps h k.1)

  pub agrees_alike : AgreesAlike eq same
  agrees_alike m ps qs respects h = (Agrees-same m ps qs respects h, Agrees-same m qs ps respects (IsSamePath-turned calls answers ps qs h))

  pub has_distinct_calls_alike : HasDistinctCallsAlike eq same
  has_distinct_calls_alike ps qs h = (HasDistinctCalls-same ps qs h, HasDistinctCalls-same qs ps (IsSamePath-turned calls answers ps qs h))

  pub parts_alike : PartsAlike eq same
  parts_alike ps ps' qs qs' h h' =
      (Parts-same ps ps' qs qs' h h', Parts-same ps' ps qs' qs (IsSamePath-turned calls answers ps ps' h) (IsSamePath-turned calls answers qs qs' h'))

  module _ (K T : Type 0) where
    FindsAgreeing-alike : (us : List (Stored K C R T)) (m m' : C → R) (r : Option T) → ((c : C) → IsTrue (same (m c) (m' c))) → FindsAgreeing eq same us m r → FindsAgreeing eq same us m' r
    FindsAgreeing-alike us m m' None f h =
        All-weaker (λ (x : Stored K C R T). ¬ Agrees same m x.path) (λ x. ¬ Agrees same m' x.path) (λ x n a. n (Agrees-alike m' m x.path (λ c. turned answers (m c) (m' c) (f c)) a)) us h
    FindsAgreeing-alike us m m' (Some v) f h =
        Any-weaker (λ (x : Stored K C R T). Agrees same m x.path × (x.value ≡ v)) (λ x. Agrees same m' x.path × (x.value ≡ v)) (λ x n. (Agrees-alike m m' x.path f n.0, n.1)) us h

    Exists-alike : (us : List (Stored K C R T)) (s s' : List (C × R)) → IsSamePath eq same s s' → Exists eq same us s → Exists eq same us s'
    Exists-alike us s s' h = Any-weaker (λ (x : Stored K C R T). AllAmong eq same s x.path) (λ x. AllAmong eq same s' x.path) (λ x n. AllAmong-same s s' x.path h n) us

    Misses-alike : (us : List (Stored K C R T)) (s s' : List (C × R)) → IsSamePath eq same s s' → Misses eq same us s → Misses eq same us s'
    Misses-alike us s s' h = Any-weaker (λ (x : Stored K C R T). LacksNextCall eq same s x.path) (λ x. LacksNextCall eq same s' x.path) (λ x n. LacksNextCall-same s s' x.path h n) us

    pub finds_alike : FindsAlike eq same K T
    finds_alike us m m' r f = (FindsAgreeing-alike us m m' r f, FindsAgreeing-alike us m' m r (λ c. turned answers (m c) (m' c) (f c)))

    pub exists_alike : ExistsAlike eq same K T
    exists_alike us s s' h = (Exists-alike us s s' h, Exists-alike us s' s (IsSamePath-turned calls answers s s' h))

    pub misses_alike : MissesAlike eq same K T
    misses_alike us s s' h = (Misses-alike us s s' h, Misses-alike us s' s (IsSamePath-turned calls answers s s' h))
