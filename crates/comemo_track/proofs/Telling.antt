-- What a run learnt, as recorded. Independent of any crate's own calls or functions.
use Rattle.std.proofs.Common.{◌≡◌, Bool, true, false, cond, List, [], ◌∷◌, ◌++◌, IsTrue, sym, subst, inl, inr}
use Rattle.std.proofs.lemmas.Bool.{cases_Bool}
use Rattle.std.specs.Cmp.{IsEquivalence}
use Rattle.comemo_base.specs.Answers.{Respects, Agrees}
use Rattle.comemo_base.specs.Sequence.{held, absorbed}
use Rattle.comemo_base.proofs.Paths.{turned, joined}
use Rattle.comemo_track.specs.Recording.{Recording, Took}
use Rattle.comemo_track.specs.Sending.{Asks}

module _ {C R : Type 0} (same : R → R → Bool) (m : C → R) where
  agrees_prefix : (ps qs : List (C × R)) → Agrees same m (ps ++ qs) → Agrees same m ps
  agrees_prefix [] qs a = tt
  agrees_prefix (p ∷ ps) qs a = (a.0, agrees_prefix ps qs a.1)

  agrees_back : (ps qs : List (C × R)) → Agrees same m (ps ++ qs) → Agrees same m qs
  agrees_back [] qs a = a
  agrees_back (p ∷ ps) qs a = agrees_back ps qs a.1

  agrees_both : (ps qs : List (C × R)) → Agrees same m ps → Agrees same m qs → Agrees same m (ps ++ qs)
  agrees_both [] qs a b = b
  agrees_both (p ∷ ps) qs a b = (a.0, agrees_both ps qs a.1 b)

-- t is s with some pairs more, all of which the answers m agree with; whichever answers agree with t agree with s and with
-- those pairs too
pub record Told {C R : Type 0} (eq : C → C → Bool) (same : R → R → Bool) (m : C → R) (s : List (C × R)) (P : List (C × R)) (t : List (C × R)) : Type 0 where
  pub agrees : Agrees same m t
  pub before : (n : C → R) → Respects eq same n → Agrees same n t → Agrees same n s
  pub told : (n : C → R) → Respects eq same n → Agrees same n t → Agrees same n P

-- the same of one read and its answer
pub record ToldAnswer {C R : Type 0} (eq : C → C → Bool) (same : R → R → Bool) (m : C → R) (s : List (C × R)) (call : C) (answer : R) (t : List (C × R)) : Type 0 where
  pub agrees : Agrees same m t
  pub before : (n : C → R) → Respects eq same n → Agrees same n t → Agrees same n s
  pub told : (n : C → R) → Respects eq same n → Agrees same n t → IsTrue (same (n call) answer)

module _ {C R : Type 0} {eq : C → C → Bool} {same : R → R → Bool} (calls : IsEquivalence eq) (answers : IsEquivalence same) (m : C → R) (respects : Respects eq same m) where
  -- two maps that agree with pairs among which a call is held answer it alike
  held_alike : (n : C → R) → Respects eq same n → (ps : List (C × R)) (call : C) → held eq ps call ≡ true → Agrees same m ps → Agrees same n ps → IsTrue (same (n call) (m call))
  held_alike n r [] call h a b = let f : false ≡ true = h in cc
  held_alike n r (p ∷ ps) call h a b =
      elim (cases_Bool (eq call p.0)) [
        | inl e ↦ joined answers (n call) p.1 (m call) (joined answers (n call) (n p.0) p.1 (r call p.0 e) b.0) (turned answers (m call) p.1 (joined answers (m call) (m p.0) p.1 (respects call p.0 e) a.0))
        | inr e ↦ held_alike n r ps call (rw e at h) a.1 b.1
      ]

  told_one : (s : List (C × R)) (p : C × R) → Agrees same m s → IsTrue (same (m p.0) p.1) → Told eq same m s (p ∷ []) (cond (held eq s p.0) s (s ++ p ∷ []))
  told_one s p a h =
      elim (cases_Bool (held eq s p.0)) [
        | inl k ↦ rw k (record { agrees = a; before = λ n r b. b; told = λ n r b. (joined answers (n p.0) (m p.0) p.1 (held_alike n r s p.0 k a b) h, tt) })
        | inr k ↦ rw k (record { agrees = agrees_both same m s (p ∷ []) a (h, tt); before = λ n r b. agrees_prefix same n s (p ∷ []) b; told = λ n r b. agrees_back same n s (p ∷ []) b })
      ]

  told_absorbed : (s P : List (C × R)) → Agrees same m s → Agrees same m P → Told eq same m s P (absorbed eq s P)
  told_absorbed s [] a b = record { agrees = a; before = λ n r c. c; told = λ n r c. tt }
  told_absorbed s (p ∷ P) a b =
      let one = told_one s p a b.0 in
      let rest = told_absorbed (cond (held eq s p.0) s (s ++ p ∷ [])) P one.agrees b.1 in
      record {
        agrees = rest.agrees;
        before = λ n r c. one.before n r (rest.before n r c);
        told = λ n r c. ((one.told n r (rest.before n r c)).0, rest.told n r c);
      }

  -- what a recording that took some pairs tells of them
  pub told_pairs : {touches : C → C → Bool} (s t : Recording C R) (P : List (C × R)) (W : List C) → Agrees same m s.pairs → Agrees same m P → Took eq touches s t P W → Told eq same m s.pairs P t.pairs
  told_pairs s t P W a b k = subst (λ ps. Told eq same m s.pairs P ps) (sym k.pairs) (told_absorbed s.pairs P a b)

  -- what a view's `ask` says of a recording
  pub told_answer : {touches : C → C → Bool} (s t : Recording C R) (call : C) (answer : R) → Agrees same m s.pairs → Asks same m call answer (Took eq touches s t) → ToldAnswer eq same m s.pairs call answer t.pairs
  told_answer s t call answer a k =
      let p : C × R = (call, k.noted) in
      let is = told_pairs s t (p ∷ []) [] a (k.alike, tt) k.sent in
      record {
        agrees = is.agrees;
        before = is.before;
        told = λ n r b. joined answers (n call) k.noted answer (is.told n r b).0 (joined answers k.noted (m call) answer (turned answers (m call) k.noted k.alike) k.gives);
      }
