-- Lemmas on lists of pairs as sets, up to equality.
use Rattle.std.proofs.Common.{◌≡◌, Bool, true, false, cond, List, [], ◌∷◌, ◌++◌, refl, sym, ap, ◌∙◌, inl, inr, IsTrue, subst, None, Some, Option, is_some}
use Rattle.std.proofs.lemmas.Bool.{cases_Bool}
use Rattle.std.specs.List.{filter}
use Rattle.std.specs.Prelude.{IsSomeAnd, unwrap_or}
use Rattle.std.specs.Map.{lookup}
use Rattle.std.specs.HashMap.Eq.{lookup_congr}
use Rattle.std.specs.Cmp.{IsEquivalence}
use Rattle.comemo_base.specs.Sequence.{HasDistinctCalls, held}
use Rattle.comemo_base.specs.Answers.{Respects, Agrees}
use Rattle.comemo_base.specs.Insertion.{Has, AllAmong, outside}
use Rattle.comemo_base.proofs.Paths.{turned, joined}
use Rattle.comemo_base.proofs.Steps.{lookup-outside}
use Rattle.comemo_base.specs.Sets.{HasSamePairs}

has_some : {R : Type 0} (o : Option R) (P : R → Type 0) → IsSomeAnd o P → is_some o ≡ true
has_some None P h = absurd h
has_some (Some r) P h = refl

module _ {C R : Type 0} {eq : C → C → Bool} {same : R → R → Bool} (calls : IsEquivalence eq) (answers : IsEquivalence same) where
  lookup_alike : (s : List (C × R)) (a b : C) → eq a b ≡ true → lookup (eq a) s ≡ lookup (eq b) s
  lookup_alike s a b e = lookup_congr eq calls.congr s a b e

  has_moved : (o : Option R) (a b : R) → IsTrue (same a b) → IsSomeAnd o (λ r. IsTrue (same r a)) → IsSomeAnd o (λ r. IsTrue (same r b))
  has_moved None a b e h = absurd h
  has_moved (Some r) a b e h = joined answers r a b h e

  has_same : (o : Option R) (a b : R) → IsSomeAnd o (λ r. IsTrue (same r a)) → IsSomeAnd o (λ r. IsTrue (same r b)) → IsTrue (same a b)
  has_same None a b h k = absurd h
  has_same (Some r) a b h k = joined answers a r b (turned answers r a h) k

  -- an equal pair is among them too
  pub Has-alike : (s : List (C × R)) (p q : C × R) → IsTrue (eq p.0 q.0) → IsTrue (same p.1 q.1) → Has eq same s p → Has eq same s q
  Has-alike s p q e f h = has_moved (lookup (eq q.0) s) p.1 q.1 f (subst (λ o. IsSomeAnd o (λ r. IsTrue (same r p.1))) (lookup_alike s p.0 q.0 e) h)

  -- pairs of one list with equal calls have the same answer
  pub Has-answer : (s : List (C × R)) (x q : C × R) → IsTrue (eq x.0 q.0) → Has eq same s x → Has eq same s q → IsTrue (same x.1 q.1)
  Has-answer s x q e f h = has_same (lookup (eq q.0) s) x.1 q.1 (subst (λ o. IsSomeAnd o (λ r. IsTrue (same r x.1))) (lookup_alike s x.0 q.0 e) f) h

  pub held-alike : (s : List (C × R)) (a b : C) → IsTrue (eq a b) → IsTrue (held eq s a) → IsTrue (held eq s b)
  held-alike s a b e h = ap (λ (o : Option R). is_some o) (sym (lookup_alike s a b e)) ∙ h

  pub held-from_has : (s : List (C × R)) (p : C × R) → Has eq same s p → IsTrue (held eq s p.0)
  held-from_has s p h = has_some (lookup (eq p.0) s) _ h

  -- one more pair in front, with another call
  Has-cons : (s : List (C × R)) (p q : C × R) → lookup (eq p.0) s ≡ None → Has eq same s q → Has eq same (p ∷ s) q
  Has-cons s p q none h =
      elim (cases_Bool (eq q.0 p.0)) [
        | inl a ↦ absurd (subst (λ o. IsSomeAnd o (λ r. IsTrue (same r q.1))) (lookup_alike s q.0 p.0 a ∙ none) h)
        | inr a ↦ rw a h
      ]

  AllAmong-cons : (s : List (C × R)) (p : C × R) (qs : List (C × R)) → lookup (eq p.0) s ≡ None → AllAmong eq same s qs → AllAmong eq same (p ∷ s) qs
  AllAmong-cons s p [] none h = tt
  AllAmong-cons s p (q ∷ qs) none h = (Has-cons s p q none h.0, AllAmong-cons s p qs none h.1)

  -- a list with distinct calls has its own pairs
  pub AllAmong-itself : (s : List (C × R)) → HasDistinctCalls eq s → AllAmong eq same s s
  AllAmong-itself [] h = tt
  AllAmong-itself (p ∷ s) h = (rw (calls.refl p.0) (answers.refl p.1), AllAmong-cons s p s h.0 (AllAmong-itself s h.1))

  pub Has-through : (s ps : List (C × R)) (q : C × R) → AllAmong eq same s ps → Has eq same ps q → Has eq same s q
  Has-through s [] q a h = absurd h
  Has-through s (p ∷ ps) q a h =
      elim (cases_Bool (eq q.0 p.0)) [
        | inl e ↦ Has-alike s p q (turned calls q.0 p.0 e) (rw e at h) a.0
        | inr e ↦ Has-through s ps q a.1 (rw e at h)
      ]

  pub AllAmong-joined : (s ps qs : List (C × R)) → AllAmong eq same s ps → AllAmong eq same ps qs → AllAmong eq same s qs
  AllAmong-joined s ps [] a b = tt
  AllAmong-joined s ps (q ∷ qs) a b = (Has-through s ps q a b.0, AllAmong-joined s ps qs a b.1)

  -- a call that is held is held by each list that has the pairs
  pub held-through : (s ps : List (C × R)) (c : C) → AllAmong eq same s ps → IsTrue (held eq ps c) → IsTrue (held eq s c)
  held-through s [] c a h = let z : false ≡ true = h in cc
  held-through s (p ∷ ps) c a h =
      elim (cases_Bool (eq c p.0)) [
        | inl e ↦ held-alike s p.0 c (turned calls c p.0 e) (held-from_has s p a.0)
        | inr e ↦ held-through s ps c a.1 (rw e at h)
      ]

  -- where a part of the list holds the call of a pair of the list, it has the pair
  pub Has-part : (s part : List (C × R)) (q : C × R) → AllAmong eq same s part → IsTrue (held eq part q.0) → Has eq same s q → Has eq same part q
  Has-part s [] q a h k = let z : false ≡ true = h in cc
  Has-part s (p ∷ part) q a h k =
      elim (cases_Bool (eq q.0 p.0)) [
        | inl e ↦ rw e (Has-answer s p q (turned calls q.0 p.0 e) a.0 k)
        | inr e ↦ rw e (Has-part s part q a.1 (rw e at h) k)
      ]

  Has-append_left : (xs ys : List (C × R)) (q : C × R) → Has eq same xs q → Has eq same (xs ++ ys) q
  Has-append_left [] ys q h = absurd h
  Has-append_left (x ∷ xs) ys q h =
      elim (cases_Bool (eq q.0 x.0)) [ inl e ↦ rw e (rw e at h) | inr e ↦ rw e (Has-append_left xs ys q (rw e at h)) ]

  Has-append_right : (xs ys : List (C × R)) (q : C × R) → held eq xs q.0 ≡ false → Has eq same ys q → Has eq same (xs ++ ys) q
  Has-append_right [] ys q n h = h
  Has-append_right (x ∷ xs) ys q n h =
      elim (cases_Bool (eq q.0 x.0)) [
        | inl e ↦ let z : true ≡ false = rw e at n in cc
        | inr e ↦ rw e (Has-append_right xs ys q (rw e at n) h)
      ]

  AllAmong-append : (s xs ys : List (C × R)) → AllAmong eq same s xs → AllAmong eq same s ys → AllAmong eq same s (xs ++ ys)
  AllAmong-append s [] ys a b = b
  AllAmong-append s (x ∷ xs) ys a b = (a.0, AllAmong-append s xs ys a.1 b)

  AllAmong-filter : (s : List (C × R)) (q : C × R → Bool) (ps : List (C × R)) → AllAmong eq same s ps → AllAmong eq same s (filter q ps)
  AllAmong-filter s q [] a = tt
  AllAmong-filter s q (p ∷ ps) a =
      elim (cases_Bool (q p)) [ inl e ↦ rw e (a.0, AllAmong-filter s q ps a.1) | inr e ↦ rw e (AllAmong-filter s q ps a.1) ]

  Has-outside : (prefix s : List (C × R)) (q : C × R) → AllAmong eq same s prefix → Has eq same s q → Has eq same (prefix ++ outside eq prefix s) q
  Has-outside prefix s q a h =
      elim (cases_Bool (held eq prefix q.0)) [
        | inl e ↦ Has-append_left prefix (outside eq prefix s) q (Has-part s prefix q a e h)
        | inr e ↦
            Has-append_right prefix (outside eq prefix s) q e
            (let own : lookup (eq q.0) (outside eq prefix s) ≡ lookup (eq q.0) s = lookup-outside calls prefix s q.0 ∙ ap (λ b. cond b None (lookup (eq q.0) s)) e in subst (λ o. IsSomeAnd o (λ r. IsTrue (same r q.1))) (sym own) h)
      ]

  AllAmong-outside : (prefix s qs : List (C × R)) → AllAmong eq same s prefix → AllAmong eq same s qs → AllAmong eq same (prefix ++ outside eq prefix s) qs
  AllAmong-outside prefix s [] a h = tt
  AllAmong-outside prefix s (q ∷ qs) a h = (Has-outside prefix s q a h.0, AllAmong-outside prefix s qs a h.1)

  -- a prefix of a list's pairs and then those outside it are the list's pairs in another order
  pub HasSamePairs-outside : (prefix s : List (C × R)) → HasDistinctCalls eq s → AllAmong eq same s prefix → HasSamePairs eq same (prefix ++ outside eq prefix s) s
  HasSamePairs-outside prefix s d a =
      let own = AllAmong-itself s d in
      (AllAmong-outside prefix s s a own, AllAmong-append s prefix (outside eq prefix s) a (AllAmong-filter s _ s own))

  pub HasSamePairs-turned : (ps qs : List (C × R)) → HasSamePairs eq same ps qs → HasSamePairs eq same qs ps
  HasSamePairs-turned ps qs h = (h.1, h.0)

  pub HasSamePairs-joined : (ps qs rs : List (C × R)) → HasSamePairs eq same ps qs → HasSamePairs eq same qs rs → HasSamePairs eq same ps rs
  HasSamePairs-joined ps qs rs h k = (AllAmong-joined ps qs rs h.0 k.0, AllAmong-joined rs qs ps k.1 h.1)

  module _ (m : C → R) (respects : Respects eq same m) where
    pub Agrees-has : (ps : List (C × R)) (q : C × R) → Agrees same m ps → Has eq same ps q → IsTrue (same (m q.0) q.1)
    Agrees-has [] q a h = absurd h
    Agrees-has (p ∷ ps) q a h =
        elim (cases_Bool (eq q.0 p.0)) [
          | inl e ↦ joined answers (m q.0) (m p.0) q.1 (respects q.0 p.0 e) (joined answers (m p.0) p.1 q.1 a.0 (rw e at h))
          | inr e ↦ Agrees-has ps q a.1 (rw e at h)
        ]

    -- answers that agree with a list agree with all pairs that it has
    pub Agrees-among : (ps qs : List (C × R)) → Agrees same m ps → AllAmong eq same ps qs → Agrees same m qs
    Agrees-among ps [] a h = tt
    Agrees-among ps (q ∷ qs) a h = (Agrees-has ps q a h.0, Agrees-among ps qs a h.1)

  -- the answers of a list, and another answer to calls that it lacks
  abbrev pub answers_of : R → List (C × R) → C → R
  answers_of other s c = unwrap_or (lookup (eq c) s) other

  pub answers_of-respects : (other : R) (s : List (C × R)) → Respects eq same (answers_of other s)
  answers_of-respects other s a b e = rw (lookup_alike s a b e) (answers.refl (answers_of other s b))

  of_has : (o : Option R) (other a : R) → IsSomeAnd o (λ r. IsTrue (same r a)) → IsTrue (same (unwrap_or o other) a)
  of_has None other a h = absurd h
  of_has (Some r) other a h = h

  pub answers_of-agrees : (other : R) (s qs : List (C × R)) → AllAmong eq same s qs → Agrees same (answers_of other s) qs
  answers_of-agrees other s [] h = tt
  answers_of-agrees other s (q ∷ qs) h = (of_has (lookup (eq q.0) s) other q.1 h.0, answers_of-agrees other s qs h.1)
