-- Proofs of the laws that the trait demands of a recording as a sink. A reader needn't trust them.
use Rattle.std.proofs.Common.{◌≡◌, Bool, true, false, cond, ◌||◌, ◌⊎◌, List, [], ◌∷◌, ◌++◌, IsTrue, refl, sym, ap, ◌∙◌, inl, inr, append_assoc, append-nil}
use Rattle.std.proofs.lemmas.Bool.{cases_Bool}
use Rattle.std.proofs.lemmas.List.Folds.{list_any-append}
use Rattle.comemo_base.specs.Sequence.{held, absorbed}
use Rattle.comemo_base.proofs.Pairs.{absorbed-append, held-push}
use Rattle.comemo_track.specs.Recording.{Recording, Took, Spoiled, MarkedLate}
use Rattle.comemo_track.specs.Writing.{touched, touched_by}

or_cases : (a b : Bool) → (a || b) ≡ true → (a ≡ true) ⊎ (b ≡ true)
or_cases true b h = inl refl
or_cases false b h = inr h

pub or_none : (a : Bool) → (a || false) ≡ a
or_none true = refl
or_none false = refl

pub or_assoc : (a b c : Bool) → ((a || b) || c) ≡ (a || (b || c))
or_assoc true b c = refl
or_assoc false b c = refl

module _ {C R : Type 0} (eq : C → C → Bool) where
  held-cond : (b : Bool) (ps : List (C × R)) (q : C × R) (call : C) → held eq ps call ≡ true → held eq (cond b ps (ps ++ q ∷ [])) call ≡ true
  held-cond true ps q call h = h
  held-cond false ps q call h = held-push eq ps q.0 q.1 call ∙ ap (λ b. b || eq call q.0) h

  -- what is held stays held
  pub held-absorbed : (ps qs : List (C × R)) (call : C) → held eq ps call ≡ true → held eq (absorbed eq ps qs) call ≡ true
  held-absorbed ps [] call h = h
  held-absorbed ps (q ∷ qs) call h = held-absorbed (cond (held eq ps q.0) ps (ps ++ q ∷ [])) qs call (held-cond (held eq ps q.0) ps q call h)

  held-head : (q : C × R) (qs : List (C × R)) (call : C) → eq call q.0 ≡ true → held eq (q ∷ qs) call ≡ true
  held-head q qs call e = rw e refl

  held-tail : (q : C × R) (qs : List (C × R)) (call : C) → held eq qs call ≡ true → held eq (q ∷ qs) call ≡ true
  held-tail q qs call h = elim (cases_Bool (eq call q.0)) [ inl a ↦ rw a refl | inr a ↦ rw a h ]

  cond-held : (b : Bool) (ps : List (C × R)) (q : C × R) (qs : List (C × R)) (call : C) → held eq (cond b ps (ps ++ q ∷ [])) call ≡ true → (held eq ps call ≡ true) ⊎ (held eq (q ∷ qs) call ≡ true)
  cond-held true ps q qs call h = inl h
  cond-held false ps q qs call h =
      elim (or_cases (held eq ps call) (eq call q.0) (sym (held-push eq ps q.0 q.1 call) ∙ h)) [ inl a ↦ inl a | inr a ↦ inr (held-head q qs call a) ]

  -- what is held was held before, or was taken
  pub absorbed-held : (ps qs : List (C × R)) (call : C) → held eq (absorbed eq ps qs) call ≡ true → (held eq ps call ≡ true) ⊎ (held eq qs call ≡ true)
  absorbed-held ps [] call h = inl h
  absorbed-held ps (q ∷ qs) call h =
      elim (absorbed-held (cond (held eq ps q.0) ps (ps ++ q ∷ [])) qs call h) [
        | inl a ↦ cond-held (held eq ps q.0) ps q qs call a
        | inr a ↦ inr (held-tail q qs call a)
      ]

module _ {C R : Type 0} (eq touches : C → C → Bool) where
  pub took_nothing : (s : Recording C R) → Took eq touches s s [] []
  took_nothing s = record { pairs = refl; writes = sym (append-nil s.writes); complete = refl; late = sym (or_none s.late) }

  -- what is taken after reads only joins them
  pub took_both : (s t u : Recording C R) (P Q : List (C × R)) (W : List C) → Took eq touches s t P [] → Took eq touches t u Q W → Took eq touches s u (P ++ Q) W
  took_both s t u P Q W a b =
      let same : t.writes ≡ s.writes = a.writes ∙ append-nil s.writes in
      record {
        pairs = b.pairs ∙ ap (λ x. absorbed eq x Q) a.pairs ∙ absorbed-append eq s.pairs P Q;
        writes = b.writes ∙ ap (λ x. x ++ W) same;
        complete = b.complete ∙ a.complete;
        late =
            b.late
            ∙ ap (λ x. x || touched touches t.writes Q) a.late
            ∙ ap (λ x. (s.late || touched touches s.writes P) || touched touches x Q) same
            ∙ or_assoc s.late (touched touches s.writes P) (touched touches s.writes Q)
            ∙ ap (λ x. s.late || x) (sym (list_any-append (λ p. touched_by touches s.writes p.0) P Q));
      }

  -- writes taken later join what was taken before
  pub took_more : (s t u : Recording C R) (P : List (C × R)) (V W : List C) → Took eq touches s t P V → Took eq touches t u [] W → Took eq touches s u P (V ++ W)
  took_more s t u P V W a b = record {
    pairs = b.pairs ∙ a.pairs;
    writes = b.writes ∙ ap (λ x. x ++ W) a.writes ∙ append_assoc s.writes V W;
    complete = b.complete ∙ a.complete;
    late = b.late ∙ or_none t.late ∙ a.late;
  }

  pub took_keeps : (s t : Recording C R) (P : List (C × R)) (W : List C) (call : C) → Took eq touches s t P W → IsTrue (held eq s.pairs call) → IsTrue (held eq t.pairs call)
  took_keeps s t P W call a h = ap (λ ps. held eq ps call) a.pairs ∙ held-absorbed eq s.pairs P call h

  pub took_held : (s t : Recording C R) (call : C) (answer other : R) → IsTrue (held eq s.pairs call) → Took eq touches s t ((call, answer) ∷ []) [] → Took eq touches s t ((call, other) ∷ []) []
  took_held s t call answer other h a = record { pairs = a.pairs ∙ ap (λ b. cond b s.pairs (s.pairs ++ (call, answer) ∷ [])) h ∙ sym (ap (λ b. cond b s.pairs (s.pairs ++ (call, other) ∷ [])) h); writes = a.writes; complete = a.complete; late = a.late }

  pub took_holds : (s t : Recording C R) (P : List (C × R)) (W : List C) (call : C) → Took eq touches s t P W → IsTrue (held eq t.pairs call) → IsTrue (held eq s.pairs call) ⊎ IsTrue (held eq P call)
  took_holds s t P W call a h = absorbed-held eq s.pairs P call (ap (λ ps. held eq ps call) (sym a.pairs) ∙ h)

module _ {C R : Type 0} (eq : C → C → Bool) where
  pub spoiled_held : (s t : Recording C R) (call : C) → Spoiled s t → held eq t.pairs call ≡ held eq s.pairs call
  spoiled_held s t call a = ap (λ ps. held eq ps call) a.pairs

  pub marked_held : (s t : Recording C R) (call : C) → MarkedLate s t → held eq t.pairs call ≡ held eq s.pairs call
  marked_held s t call a = ap (λ ps. held eq ps call) a.pairs
