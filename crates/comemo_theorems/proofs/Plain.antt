-- Lemmas on plain lists of entries: what holds of some entry after a step, and which answers agree with a run that was stored.
use Rattle.std.proofs.Common.{◌≡◌, Bool, true, false, List, [], ◌∷◌, ◌++◌, is_some, IsTrue, get_or, map, subst, inl, inr, arith}
use Rattle.std.proofs.lemmas.Bool.{cases_Bool}
use Rattle.std.proofs.lemmas.List.Sorted.{All-permutation, IsPermutation-sym}
use Rattle.std.specs.Cmp.{IsEquivalence}
use Rattle.std.specs.List.{All, Any}
use Rattle.std.specs.List.Sorted.{IsPermutation}
use Rattle.std.specs.Map.{lookup}
use Rattle.comemo_base.specs.Answers.{Respects, Agrees}
use Rattle.comemo_base.specs.Tree.{Stored}
use Rattle.comemo_base.specs.Insertion.{Has, AllAmong, IsNewPath, outside}
use Rattle.comemo_base.proofs.Paths.{joined, turned, get_or_same}
use Rattle.comemo_base.proofs.Under.{Any-here, Any-later, Any-split}
use Rattle.comemo.proofs.Again.{agrees_has}

module _ {X : Type 0} (P : X → Type 0) where
  pub any_of : {Z : Type 0} (xs : List X) → All (λ x. P x → Z) xs → Any P xs → Z
  any_of {Z} xs f (k, x, l, at, h) = (subst (λ y. P y → Z) at (f k x l)) h

  any_at : (xs : List X) → All (λ x. P x → Any P xs) xs
  any_at xs = λ k d l p. (k, get_or xs k d, l, get_or_same xs k (get_or xs k d) d l, p)

  pub any_permutation : (xs ys : List X) → IsPermutation xs ys → Any P xs → Any P ys
  any_permutation xs ys same = any_of xs (All-permutation (λ x. P x → Any P ys) ys xs (IsPermutation-sym xs ys same) (any_at ys))

  pub any_map : (f : X → X) (xs : List X) → Any (λ x. P (f x)) xs → Any P (map f xs)
  any_map f [] h = let l = h.2 in absurd (omega (arith, l))
  any_map f (x ∷ xs) h = elim (Any-split (λ y. P (f y)) x xs h) [ inl here ↦ Any-here P (f x) (map f xs) here | inr later ↦ Any-later P (f x) (map f xs) (any_map f xs later) ]

-- what agrees with the path of a run that some answers agreed with, agrees with the run
module _ {C R : Type 0} {eq : C → C → Bool} {same : R → R → Bool} (answers : IsEquivalence same) (own : C → R) (alike : Respects eq same own) (m : C → R) (respects : Respects eq same m) where
  agrees_parts : (ps qs : List (C × R)) → Agrees same m (ps ++ qs) → Agrees same m ps × Agrees same m qs
  agrees_parts [] qs a = (tt, a)
  agrees_parts (p ∷ ps) qs a = let r = agrees_parts ps qs a.1 in ((a.0, r.0), r.1)

  -- what the prefix has of a call
  prefixed : (s prefix : List (C × R)) (c : C) → AllAmong eq same s prefix → Agrees same m prefix → is_some (lookup (eq c) prefix) ≡ true → (q : C × R) × IsTrue (eq c q.0) × Has eq same s q × IsTrue (same (m q.0) q.1)
  prefixed s [] c h a e = let f : false ≡ true = e in cc
  prefixed s (q ∷ prefix) c h a e = elim (cases_Bool (eq c q.0)) [ inl t ↦ (q, t, h.0, a.0) | inr t ↦ prefixed s prefix c h.1 a.1 (rw t at e) ]

  back : (s prefix : List (C × R)) → Agrees same own s → AllAmong eq same s prefix → Agrees same m prefix → (t : List (C × R)) → Agrees same own t → Agrees same m (outside eq prefix t) → Agrees same m t
  back s prefix holds h a [] k b = tt
  back s prefix holds h a (p ∷ t) k b =
      elim (cases_Bool (is_some (lookup (eq p.0) prefix))) [
        | inl e ↦
            let f = prefixed s prefix p.0 h a e in
            let q : C × R = f.0 in
            let stored : IsTrue (same (own q.0) q.1) = agrees_has answers own alike s q holds f.2 in
            let known : IsTrue (same p.1 q.1) = joined answers p.1 (own p.0) q.1 (turned answers (own p.0) p.1 k.0) (joined answers (own p.0) (own q.0) q.1 (alike p.0 q.0 f.1) stored) in
            let here : IsTrue (same (m p.0) p.1) = joined answers (m p.0) q.1 p.1 (joined answers (m p.0) (m q.0) q.1 (respects p.0 q.0 f.1) f.3) (turned answers p.1 q.1 known) in
            (here, back s prefix holds h a t k.1 (rw e at b))
        | inr e ↦ let b' = rw e at b in (b'.0, back s prefix holds h a t k.1 b'.1)
      ]

  pub agrees_back : {K T : Type 0} (us : List (Stored K C R T)) (s path : List (C × R)) → IsNewPath eq same us s path → Agrees same own s → Agrees same m path → Agrees same m s
  agrees_back us s path n holds a =
      let parts = agrees_parts n.0 (outside eq n.0 s) (subst (λ ps. Agrees same m ps) n.2 a) in
      elim n.1 [
        | inl none ↦ back s n.0 holds (rw none.1 tt) parts.0 s holds parts.1
        | inr some ↦ back s n.0 holds some.0 parts.0 s holds parts.1
      ]
