-- Lemmas on the walk of an insertion.
use Rattle.std.proofs.Common.{◌≡◌, ◌<◌, ◌≤◌, ℕ, zero, suc, Bool, true, false, not, cond, ◌||◌, ◌&&◌, List, [], ◌∷◌, ◌++◌, length, take, get_or, refl, sym, ap, ◌∙◌, inl, inr, arith, IsTrue, subst, None, Some, Option, is_some, append_assoc, length-append}
use Rattle.std.proofs.lemmas.Bool.{cases_Bool, cases_lt}
use Rattle.std.proofs.lemmas.List.{take_all, get_or_append_left, get_or_push}
use Rattle.std.proofs.lemmas.List.Elements.{All-push}
use Rattle.std.specs.List.{filter}
use Rattle.std.specs.Prelude.{IsSomeAnd}
use Rattle.std.specs.Map.{lookup, remove_entry}
use Rattle.std.specs.HashMap.Eq.{lookup_congr}
use Rattle.std.specs.Cmp.{IsEquivalence}
use Rattle.comemo_base.specs.Sequence.{HasDistinctCalls}
use Rattle.comemo_base.specs.Tree.{Stored, IsSamePath, IsPrefix, Parts, IsTree}
use Rattle.comemo_base.specs.Lookup.{under, IsNext, IsAskedPrefix}
use Rattle.comemo_base.specs.Steps.{Follows}
use Rattle.comemo_base.specs.Insertion.{Has, AllAmong, LacksNextCall, outside, Exists, Misses, IsStem}
use Rattle.comemo_base.proofs.Under.{Any-under, Any-from_under}
use Rattle.comemo_base.proofs.Paths.{turned, joined, Fit, Fit-from_tree, get_or_same, IsNext-more, IsSamePath-more, Follows-from_prefix}

-- a list of pairs is the prefix of a path under the key, and is among the sequence's pairs
pub record Walked {K C R T : Type 0} (eq : C → C → Bool) (same : R → R → Bool) (eqk : K → K → Bool) (key : K) (s path : List (C × R)) (e : Stored K C R T) : Type 0 where
  pub under : IsTrue (eqk e.key key)
  pub deep : length path ≤ length e.path
  pub prefix : IsSamePath eq same path (take (length path) e.path)
  pub among : AllAmong eq same s path

cond_none : {R : Type 0} (b : Bool) (o : Option R) → o ≡ None → cond b None o ≡ None
cond_none true o e = refl
cond_none false o e = e

not_or : (a b : Bool) → not (a || b) ≡ (not a && not b)
not_or true b = refl
not_or false b = refl

filter_twice : {X : Type 0} (p q r : X → Bool) → ((x : X) → r x ≡ (p x && q x)) → (xs : List X) → filter q (filter p xs) ≡ filter r xs
filter_twice p q r h [] = refl
filter_twice p q r h (x ∷ xs) =
    elim (cases_Bool (p x)) [
      | inl a ↦ elim (cases_Bool (q x)) [
        | inl b ↦ let e : r x ≡ true = h x ∙ rw (a, b) refl in rw (a, e) (rw b (ap (λ ys. x ∷ ys) (filter_twice p q r h xs)))
        | inr b ↦ let e : r x ≡ false = h x ∙ rw (a, b) refl in rw (a, e) (rw b (filter_twice p q r h xs))
      ]
      | inr a ↦ let e : r x ≡ false = h x ∙ rw a refl in rw (a, e) (filter_twice p q r h xs)
    ]

-- nothing has no calls
pub outside-nothing : {C R : Type 0} (eq : C → C → Bool) (s : List (C × R)) → outside eq [] s ≡ s
outside-nothing eq [] = refl
outside-nothing eq (p ∷ s) = ap (λ xs. p ∷ xs) (outside-nothing eq s)

module _ {C R : Type 0} (test : C → Bool) where
  kept_all : (ps : List (C × R)) → lookup test ps ≡ None → filter (λ p. not (test p.0)) ps ≡ ps
  kept_all [] e = refl
  kept_all (p ∷ ps) e =
      elim (cases_Bool (test p.0)) [
        | inl a ↦ let h : Some p.1 ≡ None = rw a at e in cc
        | inr a ↦ rw a (ap (λ qs. p ∷ qs) (kept_all ps (rw a at e)))
      ]

  lookup-filter_none : (q : C × R → Bool) (ps : List (C × R)) → lookup test ps ≡ None → lookup test (filter q ps) ≡ None
  lookup-filter_none q [] e = refl
  lookup-filter_none q (p ∷ ps) e =
      elim (cases_Bool (test p.0)) [
        | inl a ↦ let h : Some p.1 ≡ None = rw a at e in cc
        | inr a ↦ elim (cases_Bool (q p)) [ inl b ↦ rw b (rw a (lookup-filter_none q ps (rw a at e))) | inr b ↦ rw b (lookup-filter_none q ps (rw a at e)) ]
      ]

  lookup-absent : (ps : List (C × R)) (n : ℕ) (p : C × R) → n < length ps → p ≡ get_or ps n p → test p.0 ≡ true → lookup test ps ≡ None → ⊥
  lookup-absent [] n p l at t e = absurd (omega arith)
  lookup-absent (x ∷ ps) zero p l at t e = let h : test x.0 ≡ true = ap (λ (z : C × R). test z.0) (sym at) ∙ t in let k : Some x.1 ≡ None = rw h at e in cc
  lookup-absent (x ∷ ps) (suc n) p l at t e =
      elim (cases_Bool (test x.0)) [ inl a ↦ let h : Some x.1 ≡ None = rw a at e in cc | inr a ↦ lookup-absent ps n p (omega arith) at t (rw a at e) ]

  is_some-lookup-push : (prefix : List (C × R)) (c : C) (answer : R) → is_some (lookup test (prefix ++ (c, answer) ∷ [])) ≡ (is_some (lookup test prefix) || test c)
  is_some-lookup-push [] c answer = elim (cases_Bool (test c)) [ inl a ↦ rw a refl | inr a ↦ rw a refl ]
  is_some-lookup-push (p ∷ prefix) c answer = elim (cases_Bool (test p.0)) [ inl a ↦ rw a refl | inr a ↦ rw a (is_some-lookup-push prefix c answer) ]

  lookup-append_none : (xs ys : List (C × R)) → lookup test (xs ++ ys) ≡ None → lookup test ys ≡ None
  lookup-append_none [] ys e = e
  lookup-append_none (x ∷ xs) ys e =
      elim (cases_Bool (test x.0)) [ inl a ↦ let h : Some x.1 ≡ None = rw a at e in cc | inr a ↦ lookup-append_none xs ys (rw a at e) ]

  lookup-swapped : (xs ys zs : List (C × R)) → lookup test (xs ++ ys) ≡ None → lookup test zs ≡ None → lookup test (xs ++ zs) ≡ None
  lookup-swapped [] ys zs e f = f
  lookup-swapped (x ∷ xs) ys zs e f =
      elim (cases_Bool (test x.0)) [ inl a ↦ let h : Some x.1 ≡ None = rw a at e in cc | inr a ↦ rw a (lookup-swapped xs ys zs (rw a at e) f) ]

module _ {C R : Type 0} {eq : C → C → Bool} (calls : IsEquivalence eq) where
  lookup_alike : (s : List (C × R)) (a b : C) → eq a b ≡ true → lookup (eq a) s ≡ lookup (eq b) s
  lookup_alike s a b e = lookup_congr eq calls.congr s a b e

  HasDistinctCalls-filter : (q : C × R → Bool) (ps : List (C × R)) → HasDistinctCalls eq ps → HasDistinctCalls eq (filter q ps)
  HasDistinctCalls-filter q [] h = tt
  HasDistinctCalls-filter q (p ∷ ps) h =
      elim (cases_Bool (q p)) [
        | inl b ↦ rw b (lookup-filter_none (eq p.0) q ps h.0, HasDistinctCalls-filter q ps h.1)
        | inr b ↦ rw b (HasDistinctCalls-filter q ps h.1)
      ]

  remove-distinct : (c : C) (ps : List (C × R)) → HasDistinctCalls eq ps → remove_entry (eq c) ps ≡ filter (λ p. not (eq c p.0)) ps
  remove-distinct c [] h = refl
  remove-distinct c (p ∷ ps) h =
      elim (cases_Bool (eq c p.0)) [
        | inl a ↦ rw a (sym (kept_all (eq c) ps (lookup_alike ps c p.0 a ∙ h.0)))
        | inr a ↦ rw a (ap (λ qs. p ∷ qs) (remove-distinct c ps h.1))
      ]

  pub lookup-outside : (prefix s : List (C × R)) (c : C) → lookup (eq c) (outside eq prefix s) ≡ cond (is_some (lookup (eq c) prefix)) None (lookup (eq c) s)
  lookup-outside prefix [] c = sym (cond_none (is_some (lookup (eq c) prefix)) None refl)
  lookup-outside prefix (p ∷ s) c =
      elim (cases_Bool (eq c p.0)) [
        | inl a ↦
            let same : lookup (eq p.0) prefix ≡ lookup (eq c) prefix = sym (lookup_alike prefix c p.0 a) in
            elim (cases_Bool (is_some (lookup (eq c) prefix))) [
              | inl b ↦ rw (same, b) (lookup-outside prefix s c ∙ rw b refl)
              | inr b ↦ rw (same, b) (rw a refl)
            ]
        | inr a ↦ elim (cases_Bool (is_some (lookup (eq p.0) prefix))) [
          | inl b ↦ rw (b, a) (lookup-outside prefix s c)
          | inr b ↦ rw b (rw a (lookup-outside prefix s c))
        ]
      ]

  pub outside-more : (prefix s : List (C × R)) (c c' : C) (answer : R) → HasDistinctCalls eq s → eq c c' ≡ true → remove_entry (eq c) (outside eq prefix s) ≡ outside eq (prefix ++ (c', answer) ∷ []) s
  outside-more prefix s c c' answer h e =
      remove-distinct c (outside eq prefix s) (HasDistinctCalls-filter _ s h)
      ∙ filter_twice (λ p. not (is_some (lookup (eq p.0) prefix))) (λ p. not (eq c p.0)) (λ p. not (is_some (lookup (eq p.0) (prefix ++ (c', answer) ∷ []))))
      (λ p. ap not (is_some-lookup-push (eq p.0) prefix c' answer ∙ ap (λ b. is_some (lookup (eq p.0) prefix) || b) (calls.symm p.0 c' ∙ sym (calls.congr c c' p.0 e))) ∙ not_or (is_some (lookup (eq p.0) prefix)) (eq c p.0)) s

  tail-distinct : (prefix s : List (C × R)) → HasDistinctCalls eq (prefix ++ s) → HasDistinctCalls eq s
  tail-distinct [] s h = h
  tail-distinct (x ∷ prefix) s h = tail-distinct prefix s h.1

  taken_none : (c : C) (s : List (C × R)) → HasDistinctCalls eq s → lookup (eq c) (remove_entry (eq c) s) ≡ None
  taken_none c [] h = refl
  taken_none c (p ∷ s) h =
      elim (cases_Bool (eq c p.0)) [
        | inl a ↦ rw a (lookup_alike s c p.0 a ∙ h.0)
        | inr a ↦ rw a (rw a (taken_none c s h.1))
      ]

  -- a pair moves from the sequence to the end of the prefix
  pub HasDistinctCalls-moved : (prefix s : List (C × R)) (c c' : C) (answer : R) → HasDistinctCalls eq (prefix ++ s) → lookup (eq c) s ≡ Some answer → eq c c' ≡ true → HasDistinctCalls eq (prefix ++ (c', answer) ∷ remove_entry (eq c) s)
  HasDistinctCalls-moved [] s c c' answer h e k =
      (sym (lookup_alike (remove_entry (eq c) s) c c' k) ∙ taken_none c s h, rw (remove-distinct c s h) (HasDistinctCalls-filter _ s h))
  HasDistinctCalls-moved (x ∷ prefix) s c c' answer h e k =
      let none : lookup (eq x.0) s ≡ None = lookup-append_none (eq x.0) prefix s h.0 in (
        lookup-swapped (eq x.0) prefix s ((c', answer) ∷ remove_entry (eq c) s) h.0 (
            elim (cases_Bool (eq x.0 c')) [
              | inl t ↦ let w : Some answer ≡ None = sym e ∙ lookup_alike s c c' k ∙ sym (lookup_alike s x.0 c' t) ∙ none in cc
              | inr t ↦ rw (t, remove-distinct c s (tail-distinct prefix s h.1)) (lookup-filter_none (eq x.0) _ s none)
            ]),
        HasDistinctCalls-moved prefix s c c' answer h.1 e k,
      )

module _ {C R : Type 0} {eq : C → C → Bool} {same : R → R → Bool} (calls : IsEquivalence eq) (answers : IsEquivalence same) where
  has_same : (o : Option R) (a b : R) → IsSomeAnd o (λ r. IsTrue (same r a)) → IsSomeAnd o (λ r. IsTrue (same r b)) → IsTrue (same a b)
  has_same None a b h k = absurd h
  has_same (Some r) a b h k = joined answers a r b (turned answers r a h) k

  has_moved : (o : Option R) (a b : R) → IsTrue (same a b) → IsSomeAnd o (λ r. IsTrue (same r a)) → IsSomeAnd o (λ r. IsTrue (same r b))
  has_moved None a b e h = absurd h
  has_moved (Some r) a b e h = joined answers r a b h e

  -- an equal pair is among them too
  Has-alike : (s : List (C × R)) (p q : C × R) → IsTrue (eq p.0 q.0) → IsTrue (same p.1 q.1) → Has eq same s p → Has eq same s q
  Has-alike s p q e f h = has_moved (lookup (eq q.0) s) p.1 q.1 f (subst (λ o. IsSomeAnd o (λ r. IsTrue (same r p.1))) (lookup_alike calls s p.0 q.0 e) h)

  Has-not : (s : List (C × R)) (x q : C × R) → IsTrue (eq x.0 q.0) → Has eq same s x → lookup (eq q.0) s ≡ None → ⊥
  Has-not s x q e h n = subst (λ o. IsSomeAnd o (λ r. IsTrue (same r x.1))) (lookup_alike calls s x.0 q.0 e ∙ n) h

  -- a call of the path that is still to come is none of those asked
  pub lookup-asked_none : (n : ℕ) (asked ps : List (C × R)) (p : C × R) → IsSamePath eq same asked (take n ps) → n < length ps → HasDistinctCalls eq ps → p ≡ get_or ps n p → lookup (eq p.0) asked ≡ None
  lookup-asked_none n asked [] p prefix l d at = absurd (omega arith)
  lookup-asked_none zero [] (x ∷ ps) p prefix l d at = refl
  lookup-asked_none zero (a ∷ rest) (x ∷ ps) p prefix l d at = absurd prefix
  lookup-asked_none (suc n) [] (x ∷ ps) p prefix l d at = absurd prefix
  lookup-asked_none (suc n) (a ∷ rest) (x ∷ ps) p prefix l d at =
      elim (cases_Bool (eq p.0 a.0)) [
        | inl t ↦
            let h : eq x.0 p.0 ≡ true = calls.symm x.0 p.0 ∙ calls.congr p.0 a.0 x.0 t ∙ prefix.0 in
            absurd (lookup-absent (eq x.0) ps n p (omega arith) at h d.0)
        | inr t ↦ rw t (lookup-asked_none n rest ps p prefix.2 (omega arith) d.1 at)
      ]

  pub AllAmong-more : (s asked : List (C × R)) (c : C) (answer : R) → AllAmong eq same s asked → lookup (eq c) s ≡ Some answer → AllAmong eq same s (asked ++ (c, answer) ∷ [])
  AllAmong-more s [] c answer a e = (rw e (answers.refl answer), tt)
  AllAmong-more s (x ∷ asked) c answer a e = (a.0, AllAmong-more s asked c answer a.1 e)

  pub AllAmong-same : (s ps qs : List (C × R)) → IsSamePath eq same ps qs → AllAmong eq same s ps → AllAmong eq same s qs
  AllAmong-same s [] [] k a = tt
  AllAmong-same s [] (q ∷ qs) k a = absurd k
  AllAmong-same s (p ∷ ps) [] k a = absurd k
  AllAmong-same s (p ∷ ps) (q ∷ qs) k a = (Has-alike s p q k.0 k.1 a.0, AllAmong-same s ps qs k.2 a.1)

  pub LacksNextCall-at : (s : List (C × R)) (n : ℕ) (asked ps : List (C × R)) (p : C × R) → IsSamePath eq same asked (take n ps) → AllAmong eq same s asked → n < length ps → p ≡ get_or ps n p → lookup (eq p.0) s ≡ None → LacksNextCall eq same s ps
  LacksNextCall-at s n asked [] p prefix a l at e = absurd (omega arith)
  LacksNextCall-at s zero asked (x ∷ ps) p prefix a l at e = inl (ap (λ (z : C × R). lookup (eq z.0) s) (sym at) ∙ e)
  LacksNextCall-at s (suc n) [] (x ∷ ps) p prefix a l at e = absurd prefix
  LacksNextCall-at s (suc n) (b ∷ asked) (x ∷ ps) p prefix a l at e =
      inr (Has-alike s b x prefix.0 prefix.1 a.0, LacksNextCall-at s n asked ps p prefix.2 a.1 (omega arith) at e)

  -- a call that is equal to the path's next is its next too
  IsNext-alike : (prefix ps : List (C × R)) (c c' : C) → eq c' c ≡ true → IsNext eq same prefix c ps → IsNext eq same prefix c' ps
  IsNext-alike [] [] c c' e h = absurd h
  IsNext-alike [] (q ∷ qs) c c' e h = joined calls c' c q.0 e h
  IsNext-alike (p ∷ prefix) [] c c' e h = absurd h
  IsNext-alike (p ∷ prefix) (q ∷ qs) c c' e h = (h.0, h.1, IsNext-alike prefix qs c c' e h.2)

  same_answer : (s : List (C × R)) (x q : C × R) → IsTrue (eq x.0 q.0) → Has eq same s x → Has eq same s q → IsTrue (same x.1 q.1)
  same_answer s x q e f h = has_same (lookup (eq q.0) s) x.1 q.1 (subst (λ o. IsSomeAnd o (λ r. IsTrue (same r x.1))) (lookup_alike calls s x.0 q.0 e) f) h

  pub IsPrefix-among : (s prefix ps qs : List (C × R)) (last : C × R) → IsNext eq same prefix last.0 ps → Fit calls answers ps qs → AllAmong eq same s (prefix ++ last ∷ []) → AllAmong eq same s qs → IsPrefix eq same (prefix ++ last ∷ []) qs
  IsPrefix-among s [] [] qs last k f a b = absurd k
  IsPrefix-among s [] (p ∷ ps) [] last k f a b = absurd f
  IsPrefix-among s [] (p ∷ ps) (q ∷ qs) last k f a b =
      let e : eq last.0 q.0 ≡ true = joined calls last.0 p.0 q.0 k f.0 in (e, same_answer s last q e a.0 b.0, tt)
  IsPrefix-among s (x ∷ prefix) [] qs last k f a b = absurd k
  IsPrefix-among s (x ∷ prefix) (p ∷ ps) [] last k f a b = absurd f
  IsPrefix-among s (x ∷ prefix) (p ∷ ps) (q ∷ qs) last k f a b =
      let e : eq x.0 q.0 ≡ true = joined calls x.0 p.0 q.0 k.0 f.0 in
      let h : IsTrue (same x.1 q.1) = same_answer s x q e a.0 b.0 in
      (e, h, IsPrefix-among s prefix ps qs last k.2 (f.1 (joined answers p.1 x.1 q.1 (turned answers x.1 p.1 k.1) h)) a.1 b.1)

  pub IsPrefix-lacks : (s prefix ps qs : List (C × R)) (last : C × R) → IsNext eq same prefix last.0 ps → Fit calls answers ps qs → AllAmong eq same s (prefix ++ last ∷ []) → LacksNextCall eq same s qs → IsPrefix eq same (prefix ++ last ∷ []) qs
  IsPrefix-lacks s [] [] qs last k f a b = absurd k
  IsPrefix-lacks s [] (p ∷ ps) [] last k f a b = absurd f
  IsPrefix-lacks s [] (p ∷ ps) (q ∷ qs) last k f a b =
      let e : eq last.0 q.0 ≡ true = joined calls last.0 p.0 q.0 k f.0 in
      elim b [ inl n ↦ absurd (Has-not s last q e a.0 n) | inr m ↦ (e, same_answer s last q e a.0 m.0, tt) ]
  IsPrefix-lacks s (x ∷ prefix) [] qs last k f a b = absurd k
  IsPrefix-lacks s (x ∷ prefix) (p ∷ ps) [] last k f a b = absurd f
  IsPrefix-lacks s (x ∷ prefix) (p ∷ ps) (q ∷ qs) last k f a b =
      let e : eq x.0 q.0 ≡ true = joined calls x.0 p.0 q.0 k.0 f.0 in
      elim b [
        | inl n ↦ absurd (Has-not s x q e a.0 n)
        | inr m ↦ let h : IsTrue (same x.1 q.1) = same_answer s x q e a.0 m.0 in (e, h, IsPrefix-lacks s prefix ps qs last k.2 (f.1 (joined answers p.1 x.1 q.1 (turned answers x.1 p.1 k.1) h)) a.1 m.1)
      ]

  -- a longer list of pairs of the sequence was asked along a path that fits
  pub IsPrefix-longer : (s prefix ps qs other : List (C × R)) (last end : C × R) → IsNext eq same prefix last.0 ps → Fit calls answers ps qs → AllAmong eq same s (prefix ++ last ∷ []) → IsNext eq same other end.0 qs → AllAmong eq same s (other ++ end ∷ []) → length prefix < length other → IsPrefix eq same (prefix ++ last ∷ []) qs
  IsPrefix-longer s prefix ps qs [] last end k f a g b l = absurd (omega arith)
  IsPrefix-longer s [] [] qs (y ∷ other) last end k f a g b l = absurd k
  IsPrefix-longer s [] (p ∷ ps) [] (y ∷ other) last end k f a g b l = absurd f
  IsPrefix-longer s [] (p ∷ ps) (q ∷ qs) (y ∷ other) last end k f a g b l =
      let e : eq last.0 q.0 ≡ true = joined calls last.0 p.0 q.0 k f.0 in
      (e, same_answer s last q e a.0 (Has-alike s y q g.0 g.1 b.0), tt)
  IsPrefix-longer s (x ∷ prefix) [] qs (y ∷ other) last end k f a g b l = absurd k
  IsPrefix-longer s (x ∷ prefix) (p ∷ ps) [] (y ∷ other) last end k f a g b l = absurd f
  IsPrefix-longer s (x ∷ prefix) (p ∷ ps) (q ∷ qs) (y ∷ other) last end k f a g b l =
      let e : eq x.0 q.0 ≡ true = joined calls x.0 p.0 q.0 k.0 f.0 in
      let h : IsTrue (same x.1 q.1) = same_answer s x q e a.0 (Has-alike s y q g.0 g.1 b.0) in
      (e, h, IsPrefix-longer s prefix ps qs other last end k.2 (f.1 (joined answers p.1 x.1 q.1 (turned answers x.1 p.1 k.1) h)) a.1 g.2 b.1 (omega arith))

  -- a path that does not have the prefix parts from each path that goes on from it
  pub Parts-from_prefix : (prefix rest ps qs : List (C × R)) (last : C × R) → IsNext eq same prefix last.0 ps → Fit calls answers ps qs → (IsPrefix eq same (prefix ++ last ∷ []) qs → ⊥) → Parts eq same qs ((prefix ++ last ∷ []) ++ rest) × Parts eq same ((prefix ++ last ∷ []) ++ rest) qs
  Parts-from_prefix [] rest [] qs last k f miss = absurd k
  Parts-from_prefix [] rest (p ∷ ps) [] last k f miss = absurd f
  Parts-from_prefix [] rest (p ∷ ps) (q ∷ qs) last k f miss =
      let e : eq last.0 q.0 ≡ true = joined calls last.0 p.0 q.0 k f.0 in
      ((calls.symm q.0 last.0 ∙ e, λ h. absurd (miss (e, turned answers q.1 last.1 h, tt))), (e, λ h. absurd (miss (e, h, tt))))
  Parts-from_prefix (x ∷ prefix) rest [] qs last k f miss = absurd k
  Parts-from_prefix (x ∷ prefix) rest (p ∷ ps) [] last k f miss = absurd f
  Parts-from_prefix (x ∷ prefix) rest (p ∷ ps) (q ∷ qs) last k f miss =
      let e : eq x.0 q.0 ≡ true = joined calls x.0 p.0 q.0 k.0 f.0 in (
        (calls.symm q.0 x.0 ∙ e, λ h. (Parts-from_prefix prefix rest ps qs last k.2 (f.1 (joined answers p.1 x.1 q.1 (turned answers x.1 p.1 k.1) (turned answers q.1 x.1 h))) (λ t. miss (e, turned answers q.1 x.1 h, t))).0),
        (e, λ h. (Parts-from_prefix prefix rest ps qs last k.2 (f.1 (joined answers p.1 x.1 q.1 (turned answers x.1 p.1 k.1) h)) (λ t. miss (e, h, t))).1),
      )

  IsSamePath-alike : (asked qs : List (C × R)) (c c' : C) (answer : R) → eq c c' ≡ true → IsSamePath eq same (asked ++ (c, answer) ∷ []) qs → IsSamePath eq same (asked ++ (c', answer) ∷ []) qs
  IsSamePath-alike [] [] c c' answer e h = h
  IsSamePath-alike [] (q ∷ []) c c' answer e h = (sym (calls.congr c c' q.0 e) ∙ h.0, h.1, tt)
  IsSamePath-alike [] (q ∷ (r ∷ qs)) c c' answer e h = absurd h.2
  IsSamePath-alike (x ∷ asked) [] c c' answer e h = h
  IsSamePath-alike (x ∷ asked) (q ∷ qs) c c' answer e h = (h.0, h.1, IsSamePath-alike asked qs c c' answer e h.2)

  -- a step of the walk: the entry at i is e, whose path is ps, and n pairs were asked
  module _ {K T : Type 0} {eqk : K → K → Bool} (keys : IsEquivalence eqk) (es : List (Stored K C R T)) (tree : IsTree eq same eqk es) (key : K) (s : List (C × R)) (i n : ℕ) (e : Stored K C R T) (asked ps : List (C × R)) (l : i < length es) (at : e ≡ get_or es i e) (walked : (d : Stored K C R T) → Walked eq same eqk key s asked (get_or es i d)) (own : ps ≡ e.path) (len : n ≡ length asked) where
    same_prefix : IsSamePath eq same asked (take n ps)
    same_prefix =
        let P : List (C × R) → Type 0 = λ qs. IsSamePath eq same asked qs in
        subst P (ap (λ m. take m (get_or es i e).path) (sym len) ∙ ap (λ (x : Stored K C R T). take n x.path) (sym at) ∙ ap (λ qs. take n qs) (sym own)) (walked e).prefix

    own_key : IsTrue (eqk e.key key)
    own_key = ap (λ (x : Stored K C R T). eqk x.key key) at ∙ (walked e).under

    -- the path was asked to its end
    pub Exists-at : n ≡ length ps → Exists eq same (under eqk es key) s
    Exists-at whole =
        let P : List (C × R) → Type 0 = λ qs. IsSamePath eq same asked qs in
        Any-under eqk es key (λ x. AllAmong eq same s x.path) (i, e, l, sym at, (own_key, AllAmong-same s asked e.path (subst P (take_all n ps (omega arith) ∙ own) same_prefix) (walked e).among))

    -- where the path was not asked to its end, it goes on
    pub deeper : (n ≡ length ps → ⊥) → n < length ps
    deeper more =
        let P : List (C × R) → Type 0 = λ qs. length asked ≤ length qs in
        let d : length asked ≤ length ps = subst P (ap (λ (x : Stored K C R T). x.path) (sym at) ∙ sym own) (walked e).deep in
        elim (cases_lt n (length ps)) [ inl lt ↦ lt | inr le ↦ absurd (more (omega (arith, le, d, len))) ]

    module _ (deep : n < length ps) (p : C × R) (is : p ≡ get_or ps n p) (left : List (C × R)) (k : left ≡ outside eq asked s) where
      distinct_own : HasDistinctCalls eq ps
      distinct_own =
          let P : List (C × R) → Type 0 = λ qs. HasDistinctCalls eq qs in
          subst P (ap (λ (x : Stored K C R T). x.path) (sym at) ∙ sym own) (tree.distinct i e l)

      from_left : lookup (eq p.0) left ≡ lookup (eq p.0) s
      from_left = ap (λ xs. lookup (eq p.0) xs) k ∙ lookup-outside calls asked s p.0 ∙ ap (λ o. cond (is_some o) None (lookup (eq p.0) s)) (lookup-asked_none n asked ps p same_prefix deep distinct_own is)

      -- the sequence does not have the call
      pub Misses-at : None ≡ lookup (eq p.0) left → Misses eq same (under eqk es key) s
      Misses-at none =
          Any-under eqk es key (λ x. LacksNextCall eq same s x.path) (i, e, l, sym at, (own_key, subst (λ qs. LacksNextCall eq same s qs) own (LacksNextCall-at s n asked ps p same_prefix (walked e).among deep is (sym from_left ∙ sym none))))

      module _ (answer : R) (c : C) (some : Some answer ≡ lookup (eq p.0) left) (alike : eq p.0 c ≡ true) where
        among_more : AllAmong eq same s (asked ++ (c, answer) ∷ [])
        among_more = AllAmong-more s asked c answer (walked e).among (sym (lookup_alike calls s p.0 c alike) ∙ sym from_left ∙ sym some)

        next : IsNext eq same asked c ps
        next = IsNext-alike asked ps p.0 c (calls.symm c p.0 ∙ alike) (IsNext-more calls answers n asked ps p same_prefix deep is)

        pub left_more : HasDistinctCalls eq s → remove_entry (eq p.0) left ≡ outside eq (asked ++ (c, answer) ∷ []) s
        left_more d = ap (λ xs. remove_entry (eq p.0) xs) k ∙ outside-more calls asked s p.0 c answer d alike

        pub distinct_more : HasDistinctCalls eq (asked ++ left) → HasDistinctCalls eq ((asked ++ (c, answer) ∷ []) ++ remove_entry (eq p.0) left)
        distinct_more d = rw append_assoc (HasDistinctCalls-moved calls asked left p.0 c answer d (sym some) alike)

        fits : (j : ℕ) (d : Stored K C R T) → j < length es → IsTrue (eqk (get_or es j d).key key) → Fit calls answers ps (get_or es j d).path
        fits j d m u =
            let is : get_or es i d ≡ e = get_or_same es i d e l ∙ sym at in
            let P : List (C × R) → Type 0 = λ qs. Fit calls answers qs (get_or es j d).path in
            subst P (ap (λ (x : Stored K C R T). x.path) is ∙ sym own) (Fit-from_tree calls answers keys es i j d tree l m (joined keys (get_or es i d).key key (get_or es j d).key (walked d).under (turned keys (get_or es j d).key key u)))

        -- the walk goes on to the entry at j
        pub Walked-more : (j : ℕ) → j < length es → ((d : Stored K C R T) → (IsTrue (eqk (get_or es j d).key key)) × Follows same (get_or es j d).path ps n answer) → (d : Stored K C R T) → Walked eq same eqk key s (asked ++ (c, answer) ∷ []) (get_or es j d)
        Walked-more j m f d =
            let q = get_or es j d in
            let more : length (asked ++ (c, answer) ∷ []) ≡ suc n = omega (arith, len, length-append asked ((c, answer) ∷ [])) in
            record {
              under = (f d).0;
              deep = omega (arith, more, (f d).1.0);
              prefix = subst (λ r. IsSamePath eq same (asked ++ (c, answer) ∷ []) (take r q.path)) (sym more) (IsSamePath-alike asked (take (suc n) q.path) p.0 c answer alike (IsSamePath-more calls answers n asked ps q.path p answer same_prefix deep is (fits j d m (f d).0) (f d).1));
              among = among_more;
            }

        module _ (none : (j : ℕ) (d : Stored K C R T) → j < length es → IsTrue (eqk (get_or es j d).key key) → Follows same (get_or es j d).path ps n answer → ⊥) where
          not_prefix : (j : ℕ) (d : Stored K C R T) → j < length es → IsTrue (eqk (get_or es j d).key key) → IsPrefix eq same (asked ++ (c, answer) ∷ []) (get_or es j d).path → ⊥
          not_prefix j d m u f = none j d m u (Follows-from_prefix calls answers n asked ps (get_or es j d).path c answer same_prefix deep f)

          pub not_Exists : Exists eq same (under eqk es key) s → ⊥
          not_Exists some =
              let h = Any-from_under eqk es key (λ x. AllAmong eq same s x.path) some in
              let u : IsTrue (eqk (get_or es h.0 h.1).key key) = ap (λ (x : Stored K C R T). eqk x.key key) h.3 ∙ h.4.0 in
              not_prefix h.0 h.1 h.2 u (IsPrefix-among s asked ps (get_or es h.0 h.1).path (c, answer) next (fits h.0 h.1 h.2 u) among_more (subst (λ (x : Stored K C R T). AllAmong eq same s x.path) (sym h.3) h.4.1))

          pub not_Misses : Misses eq same (under eqk es key) s → ⊥
          not_Misses some =
              let h = Any-from_under eqk es key (λ x. LacksNextCall eq same s x.path) some in
              let u : IsTrue (eqk (get_or es h.0 h.1).key key) = ap (λ (x : Stored K C R T). eqk x.key key) h.3 ∙ h.4.0 in
              not_prefix h.0 h.1 h.2 u (IsPrefix-lacks s asked ps (get_or es h.0 h.1).path (c, answer) next (fits h.0 h.1 h.2 u) among_more (subst (λ (x : Stored K C R T). LacksNextCall eq same s x.path) (sym h.3) h.4.1))

          longest : (other : List (C × R)) → AllAmong eq same s other → IsAskedPrefix eq same (under eqk es key) other → length other ≤ length (asked ++ (c, answer) ∷ [])
          longest other a along =
              let h = Any-from_under eqk es key (λ x. IsNext eq same along.prefix along.last.0 x.path) along.next in
              let u : IsTrue (eqk (get_or es h.0 h.1).key key) = ap (λ (x : Stored K C R T). eqk x.key key) h.3 ∙ h.4.0 in
              elim (cases_lt (length asked) (length along.prefix)) [
                | inl lt ↦
                    absurd (not_prefix h.0 h.1 h.2 u (IsPrefix-longer s asked ps (get_or es h.0 h.1).path along.prefix (c, answer) along.last next (fits h.0 h.1 h.2 u) among_more (subst (λ (x : Stored K C R T). IsNext eq same along.prefix along.last.0 x.path) (sym h.3) h.4.1) (subst (λ xs. AllAmong eq same s xs) along.splits a) lt))
                | inr le ↦ omega (arith, ap length along.splits, length-append along.prefix (along.last ∷ []), length-append asked ((c, answer) ∷ []))
              ]

          pub stem : IsStem eq same (under eqk es key) s (asked ++ (c, answer) ∷ [])
          stem = inr (
            among_more,
            record {
              prefix = asked;
              last = (c, answer);
              splits = refl;
              next = Any-under eqk es key (λ x. IsNext eq same asked c x.path) (i, e, l, sym at, (own_key, subst (λ qs. IsNext eq same asked c qs) own next));
            },
            longest,
          )

          pub apart : (rest : List (C × R)) (j : ℕ) (d : Stored K C R T) → j < length es → IsTrue (eqk (get_or es j d).key key) → Parts eq same (get_or es j d).path ((asked ++ (c, answer) ∷ []) ++ rest) × Parts eq same ((asked ++ (c, answer) ∷ []) ++ rest) (get_or es j d).path
          apart rest j d m u = Parts-from_prefix asked rest ps (get_or es j d).path (c, answer) next (fits j d m u) (not_prefix j d m u)

-- one more entry, whose path parts from each under its key
pub IsTree-push : {K C R T : Type 0} {eq : C → C → Bool} {same : R → R → Bool} {eqk : K → K → Bool} (keys : IsEquivalence eqk) (es : List (Stored K C R T)) (x : Stored K C R T) → IsTree eq same eqk es → HasDistinctCalls eq x.path → ((j : ℕ) (d : Stored K C R T) → j < length es → IsTrue (eqk (get_or es j d).key x.key) → Parts eq same (get_or es j d).path x.path × Parts eq same x.path (get_or es j d).path) → IsTree eq same eqk (es ++ x ∷ [])
IsTree-push {K} {C} {R} {T} {eq} {same} {eqk} keys es x tree distinct apart = record {
  parted = λ i j d l m n k.
      let P : Stored K C R T → Stored K C R T → Type 0 = λ a b. IsTrue (eqk a.key b.key) → Parts eq same a.path b.path in
      let old : (i : ℕ) → i < length es → get_or es i d ≡ get_or (es ++ x ∷ []) i d = λ i l. sym (get_or_append_left es (x ∷ []) d i l) in
      let new : (i : ℕ) → length es ≡ i → x ≡ get_or (es ++ x ∷ []) i d = λ i e. sym (get_or_push es x d i e) in
      elim (cases_lt i (length es)) [
        | inl a ↦ elim (cases_lt j (length es)) [
          | inl b ↦ subst (λ q. P (get_or (es ++ x ∷ []) i d) q) (old j b) (subst (λ q. P q (get_or es j d)) (old i a) (tree.parted i j d a b n)) k
          | inr b ↦ let e : length es ≡ j = omega (arith, length-append es (x ∷ [])) in subst (λ q. P (get_or (es ++ x ∷ []) i d) q) (new j e) (subst (λ q. P q x) (old i a) (λ h. (apart i d a h).0)) k
        ]
        | inr a ↦
            let e : length es ≡ i = omega (arith, length-append es (x ∷ [])) in
            elim (cases_lt j (length es)) [
              | inl b ↦ subst (λ q. P (get_or (es ++ x ∷ []) i d) q) (old j b) (subst (λ q. P q (get_or es j d)) (new i e) (λ h. (apart j d b (turned keys x.key (get_or es j d).key h)).1)) k
              | inr b ↦ let f : i ≡ j = omega (arith, length-append es (x ∷ [])) in absurd (n f)
            ]
      ];
  distinct = All-push (λ e. HasDistinctCalls eq e.path) es x tree.distinct distinct;
}
