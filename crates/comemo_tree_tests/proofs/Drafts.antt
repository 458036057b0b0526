-- Lemmas on sequences that become runs of the function for random steps.
use Rattle.std.proofs.Common.{◌≡◌, ◌⊎◌, ◌||◌, ◌<◌, ℕ, Bool, true, false, not, List, [], ◌∷◌, ◌++◌, nat_eq, sym, ap, subst, ◌∙◌, inl, inr, IsTrue}
use Rattle.std.proofs.lemmas.Bool.{cases_Bool, eqb-true}
use Rattle.std.specs.Cmp.{nat_eq_equiv}
use Rattle.comemo_base.specs.Sequence.{Sequence, was_seen, held}
use Rattle.comemo_base.specs.Answers.{Agrees}
use Rattle.comemo_base.proofs.Pairs.{held-push, or_turned}
use Rattle.comemo_base.specs.Runs.{IsAskedInTurn, IsRun}
use Rattle.comemo_tree_tests.specs.CountedCalls.{AsksCounted, IsDraft, bound_of}

Agrees-prefix : (m : ℕ → ℕ) (ps qs : List (ℕ × ℕ)) → Agrees nat_eq m (ps ++ qs) → Agrees nat_eq m ps
Agrees-prefix m [] qs h = tt
Agrees-prefix m (p ∷ ps) qs h = (h.0, Agrees-prefix m ps qs h.1)

Agrees-last : (m : ℕ → ℕ) (ps : List (ℕ × ℕ)) (q : ℕ × ℕ) → Agrees nat_eq m (ps ++ q ∷ []) → m q.0 ≡ q.1
Agrees-last m [] q h = eqb-true (m q.0) q.1 h.0
Agrees-last m (p ∷ ps) q h = Agrees-last m ps q h.1

-- one more call is asked in turn if it is asked after the others
in_turn : (asked : ℕ → Type 0) (m : ℕ → ℕ) (ps : List (ℕ × ℕ)) (q : ℕ × ℕ) → IsAskedInTurn nat_eq nat_eq asked m ps → (Agrees nat_eq m ps → asked q.0) → IsAskedInTurn nat_eq nat_eq asked m (ps ++ q ∷ [])
in_turn asked m [] q a go = (go tt, λ h. tt)
in_turn asked m (p ∷ ps) q a go = (a.0, λ h. in_turn asked m ps q (a.1 h) (λ g. go (h, g)))

-- a call of pairs that agree was asked
asked_held : (asked : ℕ → Type 0) (m : ℕ → ℕ) (ps : List (ℕ × ℕ)) (c : ℕ) → IsAskedInTurn nat_eq nat_eq asked m ps → Agrees nat_eq m ps → IsTrue (held nat_eq ps c) → asked c
asked_held asked m [] c a g h = absurd (let z : false ≡ true = h in cc)
asked_held asked m (p ∷ ps) c a g h =
    elim (cases_Bool (nat_eq c p.0)) [
      | inl e ↦ subst asked (sym (eqb-true c p.0 e)) a.0
      | inr e ↦ asked_held asked m ps c (a.1 g.0) g.1 (rw e at h)
    ]

module _ (key call answer : ℕ) (s t : Sequence ℕ ℕ) (draft : IsDraft key s) (asked : (m : ℕ → ℕ) → Agrees nat_eq m s.pairs → AsksCounted key m call) (new : Bool) (is : new ≡ not (was_seen nat_eq s call)) (pairs : IsTrue new → t.pairs ≡ s.pairs ++ (call, answer) ∷ []) (seen : IsTrue new → (other : ℕ) → was_seen nat_eq t other ≡ (nat_eq call other || was_seen nat_eq s other)) (same : IsTrue (not new) → t ≡ s) where
  either : ((t.pairs ≡ s.pairs ++ (call, answer) ∷ []) × ((other : ℕ) → was_seen nat_eq t other ≡ (nat_eq call other || was_seen nat_eq s other))) ⊎ ((t ≡ s) × (was_seen nat_eq s call ≡ true))
  either = elim (cases_Bool (was_seen nat_eq s call)) [ inl a ↦ inr (same (ap not (is ∙ ap not a)), a) | inr a ↦ inl (pairs (is ∙ ap not a), seen (is ∙ ap not a)) ]

  held_after : (ps : List (ℕ × ℕ)) (other : ℕ) → (nat_eq call other || held nat_eq ps other) ≡ held nat_eq (ps ++ (call, answer) ∷ []) other
  held_after ps other = or_turned (nat_eq call other) (held nat_eq ps other) ∙ ap (λ b. held nat_eq ps other || b) (nat_eq_equiv.symm call other) ∙ sym (held-push nat_eq ps call answer other)

  pub ask-draft : IsDraft key t
  ask-draft = elim either [
    | inl n ↦ record {
      causal = λ m respects. subst (λ ps. IsAskedInTurn nat_eq nat_eq (AsksCounted key m) m ps) (sym n.0) (in_turn (AsksCounted key m) m s.pairs (call, answer) (draft.causal m respects) (asked m));
      own = λ other. n.1 other ∙ ap (λ b. nat_eq call other || b) (draft.own other) ∙ held_after s.pairs other ∙ ap (λ ps. held nat_eq ps other) (sym n.0);
    }
    | inr o ↦ subst (λ x. IsDraft key x) (sym o.0) draft
  ]

  pub ask-agrees : (m : ℕ → ℕ) → Agrees nat_eq m t.pairs → Agrees nat_eq m s.pairs
  ask-agrees m g = elim either [
    | inl n ↦ Agrees-prefix m s.pairs ((call, answer) ∷ []) (subst (λ ps. Agrees nat_eq m ps) n.0 g)
    | inr o ↦ subst (λ (x : Sequence ℕ ℕ). Agrees nat_eq m x.pairs) o.0 g
  ]

  pub ask-kept : (other : ℕ) → IsTrue (held nat_eq s.pairs other) → IsTrue (held nat_eq t.pairs other)
  ask-kept other h = elim either [
    | inl n ↦ ap (λ ps. held nat_eq ps other) n.0 ∙ held-push nat_eq s.pairs call answer other ∙ ap (λ b. b || nat_eq other call) h
    | inr o ↦ subst (λ (x : Sequence ℕ ℕ). IsTrue (held nat_eq x.pairs other)) (sym o.0) h
  ]

  pub ask-held : IsTrue (held nat_eq t.pairs call)
  ask-held = elim either [
    | inl n ↦ ap (λ ps. held nat_eq ps call) n.0 ∙ sym (held_after s.pairs call) ∙ ap (λ b. b || held nat_eq s.pairs call) (nat_eq_equiv.refl call)
    | inr o ↦ subst (λ (x : Sequence ℕ ℕ). IsTrue (held nat_eq x.pairs call)) (sym o.0) (sym (draft.own call) ∙ o.1)
  ]

  pub ask-told : IsTrue new → (m : ℕ → ℕ) → Agrees nat_eq m t.pairs → m call ≡ answer
  ask-told n m g = Agrees-last m s.pairs (call, answer) (subst (λ ps. Agrees nat_eq m ps) (pairs n) g)

-- a sequence that has all calls below the bound is a run
pub IsRun-from_draft : (key bound : ℕ) (s : Sequence ℕ ℕ) → IsDraft key s → ((m : ℕ → ℕ) → Agrees nat_eq m s.pairs → bound ≡ bound_of key (m 0)) → ((call : ℕ) → call < bound → IsTrue (held nat_eq s.pairs call)) → IsRun nat_eq nat_eq (λ m call. AsksCounted key m call) s.pairs
IsRun-from_draft key bound s draft told whole = record {
  causal = draft.causal;
  complete = λ m respects agrees call. (
    λ a. whole call (subst (λ n. call < n) (sym (told m agrees)) a),
    λ h. asked_held (AsksCounted key m) m s.pairs call (draft.causal m respects) agrees h,
  );
}
