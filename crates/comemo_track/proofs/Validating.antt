-- Validating recorded pairs one by one.
use Rattle.std.proofs.Common.{◌≡◌, ◌<◌, ◌+◌, ℕ, Bool, List, [], ◌∷◌, ◌++◌, length, take, drop, get_or, IsTrue, Option, Some, Result, Ok, Err, OnErr, sym, ap, ◌∙◌}
use Rattle.std.proofs.lemmas.List.{take-append-drop, drop_more}
use Rattle.std.proofs.lemmas.List.Elements.{All-head, All-tail, filter_map-append}
use Rattle.std.specs.List.{All}
use Rattle.comemo_base.specs.Answers.{Agrees}
use Rattle.comemo_base.specs.Sequence.{remaining}

pub on_err : {A E P : Type 0} (r : Result A E) → P → OnErr r P
on_err (Ok x) p = tt
on_err (Err e) p = p

-- the pairs before a slot, its pair, and those after it
pub remaining_at : {P : Type 0} (slots : List (Option P)) (i : ℕ) (slot : Option P) (p : P) → i < length slots → slot ≡ get_or slots i slot → slot ≡ Some p → remaining slots ≡ remaining (take i slots) ++ p ∷ remaining (drop (i + 1) slots)
remaining_at slots i slot p l e is =
    ap remaining (sym (take-append-drop i slots) ∙ ap (λ x. take i slots ++ x) (drop_more slots i slot l ∙ ap (λ x. x ∷ drop (i + 1) slots) (sym e ∙ is)))
    ∙ filter_map-append (λ s. s) (take i slots) (Some p ∷ drop (i + 1) slots)

pub All-at : {X : Type 0} (P : X → Type 0) (prefix : List X) (x : X) (rest : List X) → All P (prefix ++ x ∷ rest) → P x
All-at P [] x rest h = All-head P x rest h
All-at P (y ∷ prefix) x rest h = All-at P prefix x rest (All-tail P y (prefix ++ x ∷ rest) h)

module _ {C R : Type 0} (same : R → R → Bool) (m : C → R) where
  pub Agrees-at : (prefix : List (C × R)) (p : C × R) (rest : List (C × R)) → Agrees same m (prefix ++ p ∷ rest) → IsTrue (same (m p.0) p.1)
  Agrees-at [] p rest h = h.0
  Agrees-at (q ∷ prefix) p rest h = Agrees-at prefix p rest h.1

  pub Agrees-push : (prefix : List (C × R)) (p : C × R) → Agrees same m prefix → IsTrue (same (m p.0) p.1) → Agrees same m (prefix ++ p ∷ [])
  Agrees-push [] p h k = (k, tt)
  Agrees-push (q ∷ prefix) p h k = (h.0, Agrees-push prefix p h.1 k)
