-- One more answer is known.
use Rattle.std.proofs.Common.{◌≡◌, ◌⊎◌, Bool, false, IsTrue, List, Option, Some, refl, sym, subst, ◌∙◌, inl, inr}
use Rattle.std.specs.Prelude.{None, is_some}
use Rattle.std.proofs.lemmas.Bool.{cases_Bool}
use Rattle.std.proofs.lemmas.Option.{same_Some}
use Rattle.std.specs.Cmp.{IsEquivalence}
use Rattle.std.specs.HashMap.{HashMap, Updates}
use Rattle.std.specs.Map.{lookup}
use Rattle.comemo_base.specs.Answers.{Respects}
use Rattle.comemo_track.specs.Answered.{IsAnswered, known_of}

-- every call is known of as before, or it is equal to the key, and the answer that was put there is known of it
abbrev pub PutsIn : {C R : Type 0} → (C → C → Bool) → List (C × R) → List (C × R) → C → R → Type 0
PutsIn {C} {R} eq before after key kept =
    (other : C) → (lookup (eq other) after ≡ lookup (eq other) before) ⊎ ((lookup (eq other) after ≡ Some kept) × IsTrue (eq key other))

-- what is known stays true where a clone of a true answer is put under a clone of its call
pub put_true : {C R : Type 0} {eq : C → C → Bool} {w : C → Bool} {same : R → R → Bool} {m : C → R} (kinds : (x y : C) → IsTrue (eq x y) → w x ≡ w y) (laws : IsEquivalence same) (respects : Respects eq same m) (before after : List (C × R)) (call key : C) (answer kept : R)
    → w call ≡ false → IsTrue (same (m call) answer) → IsTrue (eq call key) → IsTrue (same answer kept) → PutsIn eq before after key kept → IsAnswered eq w same m before → IsAnswered eq w same m after
put_true {C} {R} {eq} {same} {m} kinds laws respects before after call key answer kept read right alike copied put is =
    let true_at : (other : C) → IsTrue (eq key other) → IsTrue (same (m other) kept) = λ other e.
    sym (laws.congr (m key) (m other) kept (respects key other e))
    ∙ sym (laws.congr (m call) (m key) kept (respects call key alike))
    ∙ laws.congr (m call) answer kept right
    ∙ copied in
    record {
      reads = λ other found_answer found.
          elim (put other) [
            | inl e ↦ is.reads other found_answer (sym e ∙ found)
            | inr e ↦ sym (kinds call key alike ∙ kinds key other e.1) ∙ read
          ];
      right = λ other found_answer found.
          elim (put other) [
            | inl e ↦ is.right other found_answer (sym e ∙ found)
            | inr e ↦ subst (λ x. IsTrue (same (m other) x)) (same_Some kept found_answer (sym e.0 ∙ found)) (true_at other e.1)
          ];
    }

-- an answer that is put into the table is put in
pub puts_in : {C R S : Type 0} (eq : C → C → Bool) (before after : HashMap C R S) (key : C) (kept : R) → Updates eq before after key (Some kept) → PutsIn eq before.entries after.entries key kept
puts_in eq before after key kept put = λ other.
    elim (cases_Bool (eq key other)) [
      | inl e ↦ inr (rw e at (put.0 other), e)
      | inr e ↦ inl (rw e at (put.0 other))
    ]

-- so it is behind a first pair
pub puts_behind : {C R S : Type 0} (eq : C → C → Bool) (first : Option (C × R)) (before after : HashMap C R S) (key : C) (kept : R) → Updates eq before after key (Some kept) → PutsIn eq (known_of first before.entries) (known_of first after.entries) key kept
puts_behind eq None before after key kept put = puts_in eq before after key kept put
puts_behind eq (Some p) before after key kept put = λ other.
    elim (cases_Bool (eq other p.0)) [
      | inl e ↦ inl (rw e refl)
      | inr e ↦ rw e (puts_in eq before after key kept put other)
    ]

-- an answer that is put before all others is put in
puts_before : {C R : Type 0} (eq : C → C → Bool) (laws : IsEquivalence eq) (before : List (C × R)) (key : C) (kept : R) → PutsIn eq before (known_of (Some (key, kept)) before) key kept
puts_before eq laws before key kept = λ other.
    elim (cases_Bool (eq other key)) [
      | inl e ↦ inr (rw e refl, laws.symm key other ∙ e)
      | inr e ↦ inl (rw e refl)
    ]

-- so it is where there was no first pair
pub puts_first : {C R : Type 0} (eq : C → C → Bool) (laws : IsEquivalence eq) (first : Option (C × R)) (before : List (C × R)) (key : C) (kept : R) → is_some first ≡ false → PutsIn eq (known_of first before) (known_of (Some (key, kept)) before) key kept
puts_first eq laws None before key kept none = puts_before eq laws before key kept
puts_first eq laws (Some p) before key kept none = absurd cc
