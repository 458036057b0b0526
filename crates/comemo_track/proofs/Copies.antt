-- The pairs in slots, copied one by one.
use Rattle.std.proofs.Common.{◌≡◌, ◌<◌, ◌+◌, ℕ, Bool, List, [], ◌∷◌, ◌++◌, length, take, get_or, IsTrue, Option, Some, None, refl, sym, ap, subst, ◌∙◌, append-nil}
use Rattle.std.proofs.lemmas.List.{take_more}
use Rattle.std.proofs.lemmas.List.Elements.{filter_map-append}
use Rattle.comemo_base.specs.Sequence.{remaining}
use Rattle.comemo_base.specs.Tree.{IsSamePath}

pub slot_more : {P : Type 0} (slots : List (Option P)) (i : ℕ) (slot : Option P) → i < length slots → slot ≡ get_or slots i slot → remaining (take (i + 1) slots) ≡ remaining (take i slots) ++ remaining (slot ∷ [])
slot_more slots i slot l e = ap remaining (take_more slots i slot l ∙ ap (λ x. take i slots ++ x ∷ []) (sym e)) ∙ filter_map-append (λ s. s) (take i slots) (slot ∷ [])

pub slot_less : {P : Type 0} (slots : List (Option P)) (i : ℕ) (slot : Option P) → i < length slots → slot ≡ get_or slots i slot → ((p : P) → slot ≡ Some p → ⊥) → remaining (take (i + 1) slots) ≡ remaining (take i slots)
slot_less {P} slots i slot l e none = slot_more slots i slot l e ∙ nothing slot none
  where
    nothing : (x : Option P) → ((p : P) → x ≡ Some p → ⊥) → remaining (take i slots) ++ remaining (x ∷ []) ≡ remaining (take i slots)
    nothing None h = append-nil (remaining (take i slots))
    nothing (Some p) h = absurd (h p refl)

module _ {C R : Type 0} (eq : C → C → Bool) (same : R → R → Bool) where
  IsSamePath-push : (ps qs : List (C × R)) (p q : C × R) → IsSamePath eq same ps qs → IsTrue (eq p.0 q.0) → IsTrue (same p.1 q.1) → IsSamePath eq same (ps ++ p ∷ []) (qs ++ q ∷ [])
  IsSamePath-push [] [] p q s a b = (a, b, tt)
  IsSamePath-push [] (y ∷ qs) p q s a b = absurd s
  IsSamePath-push (x ∷ ps) [] p q s a b = absurd s
  IsSamePath-push (x ∷ ps) (y ∷ qs) p q s a b = (s.0, s.1, IsSamePath-push ps qs p q s.2 a b)

  module _ (slots : List (Option (C × R))) (i : ℕ) (slot : Option (C × R)) (l : i < length slots) (e : slot ≡ get_or slots i slot) (ps : List (C × R)) (s : IsSamePath eq same ps (remaining (take i slots))) where
    -- a pair that stands in the slot was copied
    pub copied : (p q : C × R) → slot ≡ Some q → IsTrue (eq p.0 q.0) → IsTrue (same p.1 q.1) → IsSamePath eq same (ps ++ p ∷ []) (remaining (take (i + 1) slots))
    copied p q is a b = subst (λ qs. IsSamePath eq same (ps ++ p ∷ []) qs) (sym (slot_more slots i slot l e ∙ ap (λ x. remaining (take i slots) ++ remaining (x ∷ [])) is)) (IsSamePath-push ps (remaining (take i slots)) p q s a b)

    -- the slot is empty
    pub skipped : ((q : C × R) → slot ≡ Some q → ⊥) → IsSamePath eq same ps (remaining (take (i + 1) slots))
    skipped none = subst (λ qs. IsSamePath eq same ps qs) (sym (slot_less slots i slot l e none)) s
