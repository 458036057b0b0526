-- Lists of pairs that grow while a function runs: in the end they hold what is asked.
use Rattle.std.proofs.Common.{◌≡◌, ◌⊎◌, Bool, true, false, List, [], ◌∷◌, ◌++◌, refl, sym, ap, ◌∙◌, inl, inr, IsTrue, subst, append_assoc, append-nil}
use Rattle.std.proofs.lemmas.Bool.{cases_Bool}
use Rattle.std.specs.Cmp.{IsEquivalence}
use Rattle.comemo_base.specs.Sequence.{held, absorbed}
use Rattle.comemo_base.specs.Answers.{Respects, Agrees}
use Rattle.comemo_base.specs.Tree.{IsSamePath}
use Rattle.comemo_base.specs.Insertion.{Has}
use Rattle.comemo_base.proofs.Paths.{turned, joined, Agrees-same}
use Rattle.comemo_base.specs.Runs.{IsAskedInTurn, IsRun}
use Rattle.comemo_base.specs.Settling.{Settles, nothing_left}
use Rattle.comemo_base.proofs.Sets.{Agrees-has, held-alike}

agrees_parts : {C R : Type 0} (same : R → R → Bool) (m : C → R) (ps qs : List (C × R)) → Agrees same m (ps ++ qs) → Agrees same m ps × Agrees same m qs
agrees_parts same m [] qs a = (tt, a)
agrees_parts same m (p ∷ ps) qs a = let r = agrees_parts same m ps qs a.1 in ((a.0, r.0), r.1)

agrees_both : {C R : Type 0} (same : R → R → Bool) (m : C → R) (ps qs : List (C × R)) → Agrees same m ps → Agrees same m qs → Agrees same m (ps ++ qs)
agrees_both same m [] qs a b = b
agrees_both same m (p ∷ ps) qs a b = (a.0, agrees_both same m ps qs a.1 b)

module _ {C R : Type 0} (eq : C → C → Bool) where
  held_prefix : (xs ys : List (C × R)) (c : C) → IsTrue (held eq xs c) → IsTrue (held eq (xs ++ ys) c)
  held_prefix [] ys c h = let z : false ≡ true = h in cc
  held_prefix (x ∷ xs) ys c h = elim (cases_Bool (eq c x.0)) [ inl e ↦ rw e refl | inr e ↦ rw e (held_prefix xs ys c (rw e at h)) ]

  held_last : (xs : List (C × R)) (q : C × R) (c : C) → eq c q.0 ≡ true → IsTrue (held eq (xs ++ q ∷ []) c)
  held_last [] q c e = rw e refl
  held_last (x ∷ xs) q c e = elim (cases_Bool (eq c x.0)) [ inl a ↦ rw a refl | inr a ↦ rw a (held_last xs q c e) ]

module _ {C R : Type 0} {eq : C → C → Bool} {same : R → R → Bool} (calls : IsEquivalence eq) (answers : IsEquivalence same) where
  -- under answers under which more is asked, what was asked in turn is so
  pub in_turn_more : (asked asks : C → Type 0) (m : C → R) → ((c : C) → asked c → asks c) → (ps : List (C × R)) → IsAskedInTurn eq same asked m ps → IsAskedInTurn eq same asks m ps
  in_turn_more asked asks m more [] h = tt
  in_turn_more asked asks m more (p ∷ ps) h = (more p.0 h.0, λ k. in_turn_more asked asks m more ps (h.1 k))

  in_turn_both : (asked : C → Type 0) (m : C → R) (ps qs : List (C × R)) → IsAskedInTurn eq same asked m ps → (Agrees same m ps → IsAskedInTurn eq same asked m qs) → IsAskedInTurn eq same asked m (ps ++ qs)
  in_turn_both asked m [] qs h k = k tt
  in_turn_both asked m (p ∷ ps) qs h k = (h.0, λ a. in_turn_both asked m ps qs (h.1 a) (λ b. k (a, b)))

  -- each call of a list that was asked in turn is asked, where the answers agree with the list
  asked_from_turn : (asked : C → Type 0) → ((c d : C) → IsTrue (eq c d) → asked c → asked d) → (m : C → R) (ps : List (C × R)) → IsAskedInTurn eq same asked m ps → Agrees same m ps → (c : C) → IsTrue (held eq ps c) → asked c
  asked_from_turn asked alike m [] h a c k = let z : false ≡ true = k in cc
  asked_from_turn asked alike m (p ∷ ps) h a c k =
      elim (cases_Bool (eq c p.0)) [
        | inl e ↦ alike p.0 c (turned calls c p.0 e) h.0
        | inr e ↦ asked_from_turn asked alike m ps (h.1 a.0) a.1 c (rw e at k)
      ]

  -- a call that is held where answers agree has their answer
  has_agreed : (m : C → R) → Respects eq same m → (ps : List (C × R)) (q : C × R) → Agrees same m ps → IsTrue (same (m q.0) q.1) → IsTrue (held eq ps q.0) → Has eq same ps q
  has_agreed m respects [] q a b h = let z : false ≡ true = h in cc
  has_agreed m respects (p ∷ ps) q a b h =
      elim (cases_Bool (eq q.0 p.0)) [
        | inl e ↦ rw e (joined answers p.1 (m p.0) q.1 (turned answers (m p.0) p.1 a.0) (joined answers (m p.0) (m q.0) q.1 (respects p.0 q.0 (turned calls q.0 p.0 e)) b))
        | inr e ↦ rw e (has_agreed m respects ps q a.1 b (rw e at h))
      ]

  -- what a list is to which the pairs of another one were added, but for the calls held
  pub record Takes (asked : (C → R) → C → Type 0) (s ps t : List (C × R)) : Type 0 where
    pub added : List (C × R)
    pub parts : t ≡ s ++ added
    pub in_turn : (m : C → R) → Respects eq same m → Agrees same m s → IsAskedInTurn eq same (asked m) m added
    pub agrees : (m : C → R) → Respects eq same m → Agrees same m t → Agrees same m ps
    pub holds : (c : C) → IsTrue (held eq ps c) → IsTrue (held eq t c)

  module _ (now : C → R) (respects_now : Respects eq same now) (asked : (C → R) → C → Type 0) where
    takes : (s ps : List (C × R)) → Agrees same now s → Agrees same now ps → ((m : C → R) → Respects eq same m → Agrees same m s → IsAskedInTurn eq same (asked m) m ps) → Takes asked s ps (absorbed eq s ps)
    takes s [] a b turn = record {
      added = [];
      parts = sym (append-nil s);
      in_turn = λ m r k. tt;
      agrees = λ m r k. tt;
      holds = λ c h. let z : false ≡ true = h in cc;
    }
    takes s (q ∷ qs) a b turn =
        elim (cases_Bool (held eq s q.0)) [
          | inl e ↦
              let has = has_agreed now respects_now s q a b.0 e in
              let rest = takes s qs a b.1 (λ m r k. (turn m r k).1 (Agrees-has calls answers m r s q k has)) in
              rw e (record {
                added = rest.added;
                parts = rest.parts;
                in_turn = rest.in_turn;
                agrees = λ m r k. (Agrees-has calls answers m r s q (agrees_parts same m s rest.added (subst (λ t. Agrees same m t) rest.parts k)).0 has, rest.agrees m r k);
                holds = λ c h.
                    elim (cases_Bool (eq c q.0)) [
                      | inl f ↦ subst (λ t. IsTrue (held eq t c)) (sym rest.parts) (held_prefix eq s rest.added c (held-alike calls answers s q.0 c (turned calls c q.0 f) e))
                      | inr f ↦ rest.holds c (rw f at h)
                    ];
              })
          | inr e ↦
              let rest = takes (s ++ q ∷ []) qs (agrees_both same now s (q ∷ []) a (b.0, tt)) b.1 (λ m r k. let both = agrees_parts same m s (q ∷ []) k in (turn m r both.0).1 both.1.0) in
              let whole : absorbed eq (s ++ q ∷ []) qs ≡ s ++ (q ∷ rest.added) = rest.parts ∙ append_assoc s (q ∷ []) rest.added in
              rw e (record {
                added = q ∷ rest.added;
                parts = whole;
                in_turn = λ m r k. ((turn m r k).0, λ h. rest.in_turn m r (agrees_both same m s (q ∷ []) k (h, tt)));
                agrees = λ m r k. ((agrees_parts same m s (q ∷ rest.added) (subst (λ t. Agrees same m t) whole k)).1.0, rest.agrees m r k);
                holds = λ c h.
                    elim (cases_Bool (eq c q.0)) [
                      | inl f ↦ subst (λ t. IsTrue (held eq t c)) (sym rest.parts) (held_prefix eq (s ++ q ∷ []) rest.added c (held_last eq s q c f))
                      | inr f ↦ rest.holds c (rw f at h)
                    ];
              })
        ]

    -- a run's pairs, which agree with the present answers as the list does, are added to it without the calls held
    pub settles_absorbed : (s ps : List (C × R)) → Agrees same now s → Agrees same now ps → IsRun eq same asked ps → Settles eq same asked nothing_left s (absorbed eq s ps)
    settles_absorbed s ps a b run =
        let t = takes s ps a b (λ m r k. run.causal m r) in
        record {
          added = t.added;
          parts = t.parts;
          in_turn = t.in_turn;
          complete = λ m r k c h. inl (t.holds c ((run.complete m r (t.agrees m r k) c).0 h));
        }

  -- nothing was added
  pub settles_not : (asked left : (C → R) → C → Type 0) (s : List (C × R)) → ((m : C → R) → Respects eq same m → Agrees same m s → (c : C) → asked m c → left m c) → Settles eq same asked left s s
  settles_not asked left s more = record {
    added = [];
    parts = sym (append-nil s);
    in_turn = λ m r k. tt;
    complete = λ m r k c h. inr (more m r k c h);
  }

  -- after pairs that settled a part of what is asked, others that settled a part of what was left
  pub settles_on : (asked left part left' : (C → R) → C → Type 0) (s t u : List (C × R)) → Settles eq same asked left s t → Settles eq same part nothing_left t u
      → ((m : C → R) → Respects eq same m → Agrees same m t → (c : C) → part m c → asked m c)
      → ((m : C → R) → Respects eq same m → Agrees same m u → (c : C) → left m c → part m c ⊎ left' m c)
      → Settles eq same asked left' s u
  settles_on asked left part left' s t u first next up down = record {
    added = first.added ++ next.added;
    parts = next.parts ∙ ap (λ xs. xs ++ next.added) first.parts ∙ append_assoc s first.added next.added;
    in_turn = λ m r k. in_turn_both (asked m) m first.added next.added (first.in_turn m r k) (λ h.
        let both = subst (λ xs. Agrees same m xs) (sym first.parts) (agrees_both same m s first.added k h) in
        in_turn_more (part m) (asked m) m (λ c. up m r both c) next.added (next.in_turn m r both));
    complete = λ m r k c h.
        let before = (agrees_parts same m t next.added (subst (λ xs. Agrees same m xs) next.parts k)).0 in
        let held_on : IsTrue (held eq t c) → IsTrue (held eq u c) = λ there. subst (λ xs. IsTrue (held eq xs c)) (sym next.parts) (held_prefix eq t next.added c there) in
        elim (first.complete m r before c h) [
          | inl there ↦ inl (held_on there)
          | inr more ↦ elim (down m r k c more) [
            | inl of_part ↦ elim (next.complete m r k c of_part) [ inl there ↦ inl there | inr never ↦ absurd never ]
            | inr rest ↦ inr rest
          ]
        ];
  }

  -- what was settled from no pair on is a run
  pub run_from_settles : (asked : (C → R) → C → Type 0) → ((m : C → R) (c d : C) → IsTrue (eq c d) → asked m c → asked m d) → (t : List (C × R)) → Settles eq same asked nothing_left [] t → IsRun eq same asked t
  run_from_settles asked alike t h =
      let turn : (m : C → R) → Respects eq same m → IsAskedInTurn eq same (asked m) m t = λ m r. subst (λ xs. IsAskedInTurn eq same (asked m) m xs) (sym h.parts) (h.in_turn m r tt) in
      record {
        causal = turn;
        complete = λ m r k c. (
          λ a. elim (h.complete m r k c a) [ inl there ↦ there | inr never ↦ absurd never ],
          λ there. asked_from_turn (asked m) (alike m) m t (turn m r) k c there,
        );
      }

  -- one pair is a run of what asks its call alone
  pub run_of_one : (call : C) (answer : R) → IsRun eq same (λ m c. IsTrue (eq call c)) ((call, answer) ∷ [])
  run_of_one call answer = record {
    causal = λ m r. (calls.refl call, λ k. tt);
    complete = λ m r k c. (
      λ a. rw (turned calls call c a) refl,
      λ h. elim (cases_Bool (eq c call)) [ inl e ↦ turned calls c call e | inr e ↦ let z : false ≡ true = rw e at h in cc ],
    );
  }

  held_same : (ps qs : List (C × R)) (c : C) → IsSamePath eq same ps qs → IsTrue (held eq qs c) → IsTrue (held eq ps c)
  held_same [] [] c s h = h
  held_same [] (q ∷ qs) c s h = absurd s
  held_same (p ∷ ps) [] c s h = let z : false ≡ true = h in cc
  held_same (p ∷ ps) (q ∷ qs) c s h =
      elim (cases_Bool (eq c p.0)) [
        | inl e ↦ rw e refl
        | inr e ↦
            let other : eq c q.0 ≡ false = elim (cases_Bool (eq c q.0)) [ inl f ↦ absurd (let z : false ≡ true = sym e ∙ joined calls c q.0 p.0 f (turned calls p.0 q.0 s.0) in cc) | inr f ↦ f ] in
            rw e (held_same ps qs c s.2 (rw other at h))
      ]

  held_turned : (ps qs : List (C × R)) (c : C) → IsSamePath eq same ps qs → IsTrue (held eq ps c) → IsTrue (held eq qs c)
  held_turned [] [] c s h = h
  held_turned [] (q ∷ qs) c s h = absurd s
  held_turned (p ∷ ps) [] c s h = absurd s
  held_turned (p ∷ ps) (q ∷ qs) c s h =
      elim (cases_Bool (eq c q.0)) [
        | inl e ↦ rw e refl
        | inr e ↦
            let other : eq c p.0 ≡ false = elim (cases_Bool (eq c p.0)) [ inl f ↦ absurd (let z : false ≡ true = sym e ∙ joined calls c p.0 q.0 f s.0 in cc) | inr f ↦ f ] in
            rw e (held_turned ps qs c s.2 (rw other at h))
      ]

  -- a run stays one where its calls and answers are changed for equal ones
  pub run_alike : (asked : (C → R) → C → Type 0) → ((m : C → R) (c d : C) → IsTrue (eq c d) → asked m c → asked m d) → (ps qs : List (C × R)) → IsSamePath eq same qs ps → IsRun eq same asked ps → IsRun eq same asked qs
  run_alike asked alike ps qs s run = record {
    causal = λ m r. turn m r ps qs s (run.causal m r);
    complete = λ m r k c.
        let own = run.complete m r (Agrees-same calls answers m r qs ps s k) c in
        (λ a. held_same qs ps c s (own.0 a), λ h. own.1 (held_turned qs ps c s h));
  }
    where
      turn : (m : C → R) → Respects eq same m → (ps qs : List (C × R)) → IsSamePath eq same qs ps → IsAskedInTurn eq same (asked m) m ps → IsAskedInTurn eq same (asked m) m qs
      turn m r [] [] s a = tt
      turn m r (p ∷ ps) [] s a = absurd s
      turn m r [] (q ∷ qs) s a = absurd s
      turn m r (p ∷ ps) (q ∷ qs) s a = (
        alike m p.0 q.0 (turned calls q.0 p.0 s.0) a.0,
        λ k. turn m r ps qs s.2 (a.1 (joined answers (m p.0) (m q.0) p.1 (r p.0 q.0 (turned calls q.0 p.0 s.0)) (joined answers (m q.0) q.1 p.1 k s.1))),
      )

  -- a run of what is asked is one of what is asked exactly where that is
  pub run_of_alike : (asked asks : (C → R) → C → Type 0) → ((m : C → R) (c : C) → asked m c → asks m c) → ((m : C → R) (c : C) → asks m c → asked m c) → (ps : List (C × R)) → IsRun eq same asked ps → IsRun eq same asks ps
  run_of_alike asked asks to from ps run = record {
    causal = λ m r. in_turn_more (asked m) (asks m) m (to m) ps (run.causal m r);
    complete = λ m r k c.
        let own = run.complete m r k c in
        (λ a. own.0 (from m c a), λ h. to m c (own.1 h));
  }
