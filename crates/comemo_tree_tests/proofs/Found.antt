-- A look-up whose answers agree with a stored sequence finds its value.
use Rattle.std.proofs.Common.{◌≡◌, ◌∙◌, refl, sym, ap, Bool, List, [], ◌∷◌, ◌++◌, inl, inr, get_or, arith, IsTrue, Option, Some, None, subst}
use Rattle.std.proofs.lemmas.Bool.{cases_Bool}
use Rattle.std.proofs.lemmas.List.Elements.{All-cons}
use Rattle.std.proofs.lemmas.List.Sorted.{All-permutation, IsPermutation-sym}
use Rattle.std.specs.Prelude.{IsSomeAnd}
use Rattle.std.specs.List.{All, filter}
use Rattle.std.specs.Map.{lookup}
use Rattle.std.specs.Cmp.{IsEquivalence}
use Rattle.comemo_base.specs.Answers.{Respects, Agrees}
use Rattle.comemo_base.specs.Tree.{Stored, stored}
use Rattle.comemo_base.specs.Lookup.{under, FindsAgreeing}
use Rattle.comemo_base.specs.Insertion.{Has, AllAmong, LacksNextCall, Exists, Misses, IsNewPath, Adds, outside}
use Rattle.comemo_base.proofs.Under.{Any-under, Any-from_under, All-from_under}
use Rattle.comemo_base.proofs.Paths.{turned, joined, get_or_same}

module _ {C R : Type 0} {eq : C → C → Bool} {same : R → R → Bool} (answers : IsEquivalence same) (m : C → R) (respects : Respects eq same m) where
  -- the answer of a list that agrees with the map is the map's
  same-lookup : (s : List (C × R)) (c : C) (r : R) → Agrees same m s → lookup (eq c) s ≡ Some r → IsTrue (same (m c) r)
  same-lookup [] c r a e = cc
  same-lookup (p ∷ s) c r a e =
      elim (cases_Bool (eq c p.0)) [
        | inl t ↦
            let k : Some p.1 ≡ Some r = rw t at e in
            let is : p.1 ≡ r = cc in
            subst (λ z. IsTrue (same (m c) z)) is (joined answers (m c) (m p.0) p.1 (respects c p.0 t) a.0)
        | inr t ↦ same-lookup s c r a.1 (rw t at e)
      ]

  same-has : (s : List (C × R)) (p : C × R) (o : Option R) → lookup (eq p.0) s ≡ o → Agrees same m s → IsSomeAnd o (λ r. IsTrue (same r p.1)) → IsTrue (same (m p.0) p.1)
  same-has s p None e a h = absurd h
  same-has s p (Some r) e a h = joined answers (m p.0) r p.1 (same-lookup s p.0 r a e) h

  Agrees-among : (s ps : List (C × R)) → Agrees same m s → AllAmong eq same s ps → Agrees same m ps
  Agrees-among s [] a h = tt
  Agrees-among s (p ∷ ps) a h = (same-has s p (lookup (eq p.0) s) refl a h.0, Agrees-among s ps a h.1)

  -- a path that is not among the pairs of a list that agrees with the map, and lacks no call, does not agree with it
  not_Agrees : (s ps : List (C × R)) → Agrees same m s → (AllAmong eq same s ps → ⊥) → (LacksNextCall eq same s ps → ⊥) → Agrees same m ps → ⊥
  not_Agrees s [] a f n k = f tt
  not_Agrees s (p ∷ ps) a f n k =
      elim (lookup (eq p.0) s) as (λ o. lookup (eq p.0) s ≡ o → ⊥) [
        | None ↦ λ e. n (inl e)
        | Some r ↦ λ e.
            let has : Has eq same s p = subst (λ o. IsSomeAnd o (λ r. IsTrue (same r p.1))) (sym e) (joined answers r (m p.0) p.1 (turned answers (m p.0) r (same-lookup s p.0 r a e)) k.0) in
            not_Agrees s ps a (λ h. f (has, h)) (λ h. n (inr (has, h))) k.1
      ] refl

  Agrees-filter : (q : C × R → Bool) (ps : List (C × R)) → Agrees same m ps → Agrees same m (filter q ps)
  Agrees-filter q [] a = tt
  Agrees-filter q (p ∷ ps) a = elim (cases_Bool (q p)) [ inl t ↦ rw t (a.0, Agrees-filter q ps a.1) | inr t ↦ rw t (Agrees-filter q ps a.1) ]

  Agrees-append : (ps qs : List (C × R)) → Agrees same m ps → Agrees same m qs → Agrees same m (ps ++ qs)
  Agrees-append [] qs a b = b
  Agrees-append (p ∷ ps) qs a b = (a.0, Agrees-append ps qs a.1 b)

  module _ {K T : Type 0} (eqk : K → K → Bool) (es : List (Stored K C R T)) (key : K) (s : List (C × R)) (a : Agrees same m s) where
    -- the path that was stored agrees with the map
    Agrees-new_path : {path : List (C × R)} → IsNewPath eq same (under eqk es key) s path → Agrees same m path
    Agrees-new_path h =
        let prefix : Agrees same m h.0 = elim h.1 [ inl n ↦ subst (λ ps. Agrees same m ps) (sym n.1) tt | inr n ↦ Agrees-among s h.0 a n.0 ] in
        subst (λ ps. Agrees same m ps) (sym h.2) (Agrees-append h.0 (outside eq h.0 s) prefix (Agrees-filter _ s a))

    -- and no other one does
    alone : (own : K) (path : List (C × R)) (value : T) → (Exists eq same (under eqk es key) s → ⊥) → (Misses eq same (under eqk es key) s → ⊥) → All (λ e. IsTrue (eqk e.key key) → Agrees same m e.path → e.value ≡ value) (stored own path value ∷ es)
    alone own path value new full =
        All-cons (λ (e : Stored K C R T). IsTrue (eqk e.key key) → Agrees same m e.path → e.value ≡ value) (stored own path value) es (λ u k. refl) (λ i d l u k.
        let e = get_or es i d in
        let at = get_or_same es i e d l in
        absurd (not_Agrees s e.path a (λ h. new (Any-under eqk es key (λ x. AllAmong eq same s x.path) (i, e, l, at, (u, h)))) (λ h. full (Any-under eqk es key (λ x. LacksNextCall eq same s x.path) (i, e, l, at, (u, h)))) k))

    pub found_as_stored : (after : List (Stored K C R T)) (value : T) (r : Option T) → (Exists eq same (under eqk es key) s → ⊥) → (Misses eq same (under eqk es key) s → ⊥) → Adds eq same eqk es key s value after → FindsAgreeing eq same (under eqk after key) m r → r ≡ Some value
    found_as_stored after value None new full adds none =
        let back = All-permutation (λ (e : Stored K C R T). IsTrue (eqk e.key key) → ¬ Agrees same m e.path) after (stored adds.own adds.path value ∷ es) (IsPermutation-sym _ _ adds.entries) (All-from_under eqk after key (λ e. ¬ Agrees same m e.path) none) in
        absurd (back 0 (stored adds.own adds.path value) (omega arith) adds.is_key (Agrees-new_path adds.is_new))
    found_as_stored after value (Some v) new full adds found =
        let all = All-permutation (λ (e : Stored K C R T). IsTrue (eqk e.key key) → Agrees same m e.path → e.value ≡ value) (stored adds.own adds.path value ∷ es) after adds.entries (alone adds.own adds.path value new full) in
        let some = Any-from_under eqk after key (λ e. Agrees same m e.path × (e.value ≡ v)) found in
        let P : Stored K C R T → Type 0 = λ e. IsTrue (eqk e.key key) → Agrees same m e.path → e.value ≡ value in
        let one : P some.1 = subst P some.3 (all some.0 some.1 some.2) in
        ap Some (sym some.4.1.1 ∙ one some.4.0 some.4.1.0)
