-- The path that an insertion stores has the pairs of the sequence, in another order.
use Rattle.std.proofs.Common.{◌≡◌, suc, Bool, true, false, not, List, [], ◌∷◌, ◌++◌, IsTrue, Some, None, is_some, Result, Ok, Err, OnOk, OnErr, refl, sym, ap, subst, ◌∙◌, inl, inr, arith, append_assoc}
use Rattle.std.proofs.lemmas.Bool.{cases_Bool}
use Rattle.std.proofs.lemmas.List.Elements.{All-nil, All-append, All-filter}
use Rattle.std.specs.Prelude.{IsSomeAnd}
use Rattle.std.specs.List.{All}
use Rattle.std.specs.Map.{lookup}
use Rattle.std.specs.Cmp.{IsEquivalence}
use Rattle.comemo_base.specs.Answers.{Respects, Agrees}
use Rattle.comemo_base.specs.Sequence.{HasDistinctCalls}
use Rattle.comemo_base.specs.Tree.{Stored, stored}
use Rattle.comemo_cache.specs.Meaning.{Meaning, run, exactly, IsNamedRun}
use Rattle.comemo_cache.specs.Storing.{Stores}
use Rattle.comemo_base.specs.Lookup.{under}
use Rattle.comemo_base.specs.Insertion.{Has, AllAmong, Exists, Misses, IsNewPath, Adds, outside}
use Rattle.comemo_base.proofs.Paths.{turned, joined}
use Rattle.comemo_cache.specs.Cache.{Entries, Stands, IsLegal}
use Rattle.comemo_cache.proofs.Entries.{All-cons}
use Rattle.comemo_cache.proofs.Writings.{SameWrites-itself}

module _ {C R : Type 0} (test : C → Bool) where
  -- a pair whose call passes is found
  matched : (xs : List (C × R)) (p : C × R) (ys : List (C × R)) → test p.0 ≡ true → lookup test (xs ++ p ∷ ys) ≡ None → ⊥
  matched [] p ys t e = let h : Some p.1 ≡ None = rw t at e in cc
  matched (x ∷ xs) p ys t e = elim (cases_Bool (test x.0)) [ inl a ↦ let h : Some x.1 ≡ None = rw a at e in cc | inr a ↦ matched xs p ys t (rw a at e) ]

agrees_append : {C R : Type 0} (same : R → R → Bool) (m : C → R) (ps qs : List (C × R)) → Agrees same m (ps ++ qs) → Agrees same m ps × Agrees same m qs
agrees_append same m [] qs a = (tt, a)
agrees_append same m (p ∷ ps) qs a = let r = agrees_append same m ps qs a.1 in ((a.0, r.0), r.1)

-- a call that is found among reads is a read
found_read : {C R : Type 0} (eq : C → C → Bool) (w : C → Bool) → ((x y : C) → IsTrue (eq x y) → w x ≡ w y) → (s : List (C × R)) (c : C) → All (λ p. w p.0 ≡ false) s → (P : R → Type 0) → IsSomeAnd (lookup (eq c) s) P → w c ≡ false
found_read eq w kind [] c reads P h = absurd h
found_read eq w kind (p ∷ s) c reads P h =
    elim (cases_Bool (eq c p.0)) [
      | inl a ↦ kind c p.0 a ∙ reads 0 p (omega arith)
      | inr a ↦ found_read eq w kind s c (λ j d l. reads (suc j) d (omega arith)) P (rw a at h)
    ]

module _ {C R : Type 0} {eq : C → C → Bool} {same : R → R → Bool} (calls : IsEquivalence eq) (answers : IsEquivalence same) where
  -- the pair of a call is found by each equal call
  lookup_own : (xs : List (C × R)) (p : C × R) (ys : List (C × R)) (c : C) → HasDistinctCalls eq (xs ++ p ∷ ys) → eq c p.0 ≡ true → lookup (eq c) (xs ++ p ∷ ys) ≡ Some p.1
  lookup_own [] p ys c d e = rw e refl
  lookup_own (x ∷ xs) p ys c d e =
      elim (cases_Bool (eq c x.0)) [
        | inl a ↦ absurd (matched (eq x.0) xs p ys (joined calls x.0 c p.0 (turned calls c x.0 a) e) d.0)
        | inr a ↦ rw a (lookup_own xs p ys c d.1 e)
      ]

  module _ (s : List (C × R)) where
    reads_prefix : (w : C → Bool) → ((x y : C) → IsTrue (eq x y) → w x ≡ w y) → All (λ p. w p.0 ≡ false) s → (prefix : List (C × R)) → AllAmong eq same s prefix → All (λ p. w p.0 ≡ false) prefix
    reads_prefix w kind reads [] h = All-nil (λ p. w p.0 ≡ false)
    reads_prefix w kind reads (q ∷ prefix) h = All-cons (λ p. w p.0 ≡ false) q prefix (found_read eq w kind s q.0 reads (λ a. IsTrue (same a q.1)) h.0) (reads_prefix w kind reads prefix h.1)

    module _ (m : C → R) (respects : Respects eq same m) where
      -- what the prefix says of a call that it has
      pub record Prefixed (c : C) : Type 0 where
        pub pair : C × R
        pub alike : eq c pair.0 ≡ true
        pub among : Has eq same s pair
        pub agrees : IsTrue (same (m pair.0) pair.1)

      prefixed : (prefix : List (C × R)) (c : C) → AllAmong eq same s prefix → Agrees same m prefix → is_some (lookup (eq c) prefix) ≡ true → Prefixed c
      prefixed [] c h a e = let f : false ≡ true = e in cc
      prefixed (q ∷ prefix) c h a e =
          elim (cases_Bool (eq c q.0)) [
            | inl t ↦ record { pair = q; alike = t; among = h.0; agrees = a.0 }
            | inr t ↦ prefixed prefix c h.1 a.1 (rw t at e)
          ]

      covered : (prefix : List (C × R)) → HasDistinctCalls eq s → AllAmong eq same s prefix → Agrees same m prefix → (xs t : List (C × R)) → s ≡ xs ++ t → Agrees same m (outside eq prefix t) → Agrees same m t
      covered prefix d h a xs [] e b = tt
      covered prefix d h a xs (p ∷ t) e b =
          let more : s ≡ (xs ++ p ∷ []) ++ t = e ∙ sym (append_assoc xs (p ∷ []) t) in
          elim (cases_Bool (is_some (lookup (eq p.0) prefix))) [
            | inl k ↦
                let f = prefixed prefix p.0 h a k in
                let own : lookup (eq f.pair.0) s ≡ Some p.1 = ap (lookup (eq f.pair.0)) e ∙ lookup_own xs p t f.pair.0 (subst (λ l. HasDistinctCalls eq l) e d) (turned calls p.0 f.pair.0 f.alike) in
                let answer : IsTrue (same p.1 f.pair.1) = subst (λ o. IsSomeAnd o (λ a. IsTrue (same a f.pair.1))) own f.among in
                let here : IsTrue (same (m p.0) p.1) = joined answers (m p.0) f.pair.1 p.1 (joined answers (m p.0) (m f.pair.0) f.pair.1 (respects p.0 f.pair.0 f.alike) f.agrees) (turned answers p.1 f.pair.1 answer) in
                (here, covered prefix d h a (xs ++ p ∷ []) t more (rw k at b))
            | inr k ↦ let b' = rw k at b in (b'.0, covered prefix d h a (xs ++ p ∷ []) t more b'.1)
          ]

module _ {C R : Type 0} {eq : C → C → Bool} {same : R → R → Bool} (calls : IsEquivalence eq) (answers : IsEquivalence same) {K T : Type 0} (us : List (Stored K C R T)) (s path : List (C × R)) where
  -- answers that agree with the path agree with the sequence
  pub agrees_new_path : HasDistinctCalls eq s → IsNewPath eq same us s path → (m : C → R) → Respects eq same m → Agrees same m path → Agrees same m s
  agrees_new_path d n m r a =
      let parts = agrees_append same m n.0 (outside eq n.0 s) (subst (λ ps. Agrees same m ps) n.2 a) in
      elim n.1 [
        | inl none ↦ covered calls answers s m r n.0 d (rw none.1 tt) parts.0 [] s refl parts.1
        | inr some ↦ covered calls answers s m r n.0 d some.0 parts.0 [] s refl parts.1
      ]

  pub reads_new_path : (w : C → Bool) → ((x y : C) → IsTrue (eq x y) → w x ≡ w y) → All (λ p. w p.0 ≡ false) s → IsNewPath eq same us s path → All (λ p. w p.0 ≡ false) path
  reads_new_path w kind reads n =
      let prefix : All (λ p. w p.0 ≡ false) n.0 = elim n.1 [ inl none ↦ rw none.1 (All-nil (λ p. w p.0 ≡ false)) | inr some ↦ reads_prefix calls answers s w kind reads n.0 some.0 ] in
      rw n.2 (All-append (λ p. w p.0 ≡ false) n.0 (outside eq n.0 s) prefix (All-filter (λ p. not (is_some (lookup (eq p.0) n.0))) (λ p. w p.0 ≡ false) s reads))

-- the entry that is stored is legal, at each key at which the output is right wherever it is so at the run's
pub IsLegal-stored : {K C R O : Type 0} (M : Meaning K C R O) (calls : IsEquivalence M.same_call) (answers : IsEquivalence M.same_answer) (us : Entries K C R O) (key own : K) (s path : List (C × R)) (output : O) (writes : List C) → ((x y : C) → IsTrue (M.same_call x y) → M.is_write x ≡ M.is_write y) → ((m : C → R) → Respects M.same_call M.same_answer m → M.right key m output writes → M.right own m output writes) → HasDistinctCalls M.same_call s → All (λ p. M.is_write p.0 ≡ false) s → All (λ c. M.is_write c ≡ true) writes → Stands M (run key s output writes) → IsNewPath M.same_call M.same_answer us s path → IsNamedRun M own path → IsLegal M (stored own path (record { output = output; writes = writes; age = 0 }))
IsLegal-stored M calls answers us key own s path output writes kind right d reads written stands n settled = record {
  stands = λ m r a. right m r (stands m r (agrees_new_path calls answers us s path d n m r a));
  reads = reads_new_path calls answers us s path M.is_write kind reads n;
  written = written;
  settled = settled;
}

-- what follows from either outcome
pub by_result : {T E X P Q : Type 0} (r : Result T E) → OnOk r P → OnErr r Q → (P → X) → (Q → X) → X
by_result (Ok x) p q f g = f p
by_result (Err e) p q f g = g q

-- what an insertion says, told as what a store does
pub stores : {K C R O : Type 0} (M : Meaning K C R O) → IsEquivalence M.same_call → (es : Entries K C R O) (key : K) (s : List (C × R)) (output : O) (writes : List C) (es' : Entries K C R O) {T E : Type 0} (r : Result T E) → OnOk r ((¬ Exists M.same_call M.same_answer (under M.same_key es key) s) × (¬ Misses M.same_call M.same_answer (under M.same_key es key) s)) → OnOk r (Adds M.same_call M.same_answer M.same_key es key s (record { output = output; writes = writes; age = 0 }) es') → OnOk r (Stores (exactly M) es (run key s output writes) es')
stores M calls es key s output writes es' (Ok x) a b = (a.0, a.1, record { kept = record { output = output; writes = writes; age = 0 }; is_clone = refl; same_writes = SameWrites-itself calls writes; is_new = refl; adds = b })
stores M calls es key s output writes es' (Err e) a b = tt
