-- Lemmas on paths: what a look-up has asked, and how two paths of a tree diverge.
use Rattle.std.proofs.Common.{◌≡◌, ◌<◌, ◌+◌, ℕ, zero, suc, Bool, true, false, List, [], ◌∷◌, ◌++◌, length, take, get_or, refl, sym, ap, ◌∙◌, inl, inr, arith, IsTrue, subst, None, Some, Option, Result, Ok, Err, IsOk, add-one}
use Rattle.std.proofs.lemmas.Bool.{cases_eq}
use Rattle.std.proofs.lemmas.List.{take_all}
use Rattle.std.specs.List.{All, Any, HoldsAt, AllZip}
use Rattle.std.specs.Cmp.{IsEquivalence}
use Rattle.std.specs.Fn.{Mut, CalledAt, AlwaysReturns}
use Rattle.std.specs.Prelude.{IfErr, alloc_error}
use Rattle.std.specs.declared.alloc.AllocError.{AllocError}
use denote.Ref.{Bor}
use Rattle.comemo_base.specs.Answers.{Agrees, Respects}
use Rattle.comemo_base.specs.Lookup.{under, FindsAgreeing, FindsAgreeingPath, Answered, AnswersAs, IsNext, IsAsked, IsRefused, IsStoredCall}
use Rattle.comemo_base.specs.Tree.{Stored, Parts, IsSamePath, IsPrefix, IsTree}
use Rattle.comemo_base.specs.Steps.{Follows}
use Rattle.comemo_base.proofs.Under.{Any-under, Any-from_under, All-under, All-from_under}

-- there is one `AllocError`, so what holds of it holds of each refusal
pub IfErr-refused : {A : Type 0} (r : Result A AllocError) (Q : AllocError → Type 0) → Q alloc_error → IfErr r Q
IfErr-refused (Ok x) Q q = tt
IfErr-refused (Err e) Q q = q

-- an element by whichever default
pub get_or_same : {X : Type 0} → (xs : List X) (i : ℕ) (d e : X) → i < length xs → get_or xs i d ≡ get_or xs i e
get_or_same [] i d e l = absurd (omega arith)
get_or_same (x ∷ xs) zero d e l = refl
get_or_same (x ∷ xs) (suc i) d e l = get_or_same xs i d e (omega arith)

module _ {X : Type 0} {eq : X → X → Bool} (laws : IsEquivalence eq) where
  pub turned : (a b : X) → IsTrue (eq a b) → IsTrue (eq b a)
  turned a b h = laws.symm b a ∙ h

  pub joined : (a b c : X) → IsTrue (eq a b) → IsTrue (eq b c) → IsTrue (eq a c)
  joined a b c h k = laws.congr a b c h ∙ k

module _ {C R : Type 0} {eq : C → C → Bool} {same : R → R → Bool} where
  pub IsSamePath-joined : IsEquivalence eq → IsEquivalence same → (ps qs rs : List (C × R)) → IsSamePath eq same ps qs → IsSamePath eq same qs rs → IsSamePath eq same ps rs
  IsSamePath-joined calls answers [] [] rs h k = k
  IsSamePath-joined calls answers [] (q ∷ qs) rs h k = absurd h
  IsSamePath-joined calls answers (p ∷ ps) [] rs h k = absurd h
  IsSamePath-joined calls answers (p ∷ ps) (q ∷ qs) [] h k = absurd k
  IsSamePath-joined calls answers (p ∷ ps) (q ∷ qs) (r ∷ rs) h k = (joined calls p.0 q.0 r.0 h.0 k.0, joined answers p.1 q.1 r.1 h.1 k.1, IsSamePath-joined calls answers ps qs rs h.2 k.2)

  pub IsSamePath-turned : IsEquivalence eq → IsEquivalence same → (ps qs : List (C × R)) → IsSamePath eq same ps qs → IsSamePath eq same qs ps
  IsSamePath-turned calls answers [] [] h = tt
  IsSamePath-turned calls answers [] (q ∷ qs) h = absurd h
  IsSamePath-turned calls answers (p ∷ ps) [] h = absurd h
  IsSamePath-turned calls answers (p ∷ ps) (q ∷ qs) h = (turned calls p.0 q.0 h.0, turned answers p.1 q.1 h.1, IsSamePath-turned calls answers ps qs h.2)

  -- a cloned path is the same
  pub IsSamePath-cloned : (X : C → C → Type 0) (Y : R → R → Type 0) → ((x y : C) → X x y → IsTrue (eq x y)) → ((x y : R) → Y x y → IsTrue (same x y)) → (ps qs : List (C × R)) → AllZip (λ p q. X p.0 q.0 × Y p.1 q.1) ps qs → IsSamePath eq same ps qs
  IsSamePath-cloned X Y f h [] [] k = tt
  IsSamePath-cloned X Y f h [] (q ∷ qs) k = absurd k
  IsSamePath-cloned X Y f h (p ∷ ps) [] k = absurd k
  IsSamePath-cloned X Y f h (p ∷ ps) (q ∷ qs) k = (f p.0 q.0 k.0.0, h p.1 q.1 k.0.1, IsSamePath-cloned X Y f h ps qs k.1)

module _ {C R : Type 0} {eq : C → C → Bool} {same : R → R → Bool} (calls : IsEquivalence eq) (answers : IsEquivalence same) where
  -- the two paths part, or are the same
  abbrev pub Fit : List (C × R) → List (C × R) → Type 0
  Fit [] [] = Unit {0}
  Fit [] (q ∷ qs) = ⊥
  Fit (p ∷ ps) [] = ⊥
  Fit (p ∷ ps) (q ∷ qs) = IsTrue (eq p.0 q.0) × (IsTrue (same p.1 q.1) → Fit ps qs)

  pub Fit-from_parts : (ps qs : List (C × R)) → Parts eq same ps qs → Fit ps qs
  Fit-from_parts [] qs h = absurd h
  Fit-from_parts (p ∷ ps) [] h = absurd h
  Fit-from_parts (p ∷ ps) (q ∷ qs) h = (h.0, λ e. Fit-from_parts ps qs (h.1 e))

  pub Fit-itself : (ps : List (C × R)) → Fit ps ps
  Fit-itself [] = tt
  Fit-itself (p ∷ ps) = (calls.refl p.0, λ _. Fit-itself ps)

  -- one more pair was asked, and the second path has its answer there
  pub IsSamePath-more : (n : ℕ) (asked ps qs : List (C × R)) (p : C × R) (answer : R) → IsSamePath eq same asked (take n ps) → n < length ps → p ≡ get_or ps n p → Fit ps qs → Follows same qs ps n answer → IsSamePath eq same (asked ++ (p.0, answer) ∷ []) (take (suc n) qs)
  IsSamePath-more n asked [] qs p answer prefix l e fit f = absurd (omega arith)
  IsSamePath-more n asked (x ∷ ps) [] p answer prefix l e fit f = absurd (omega (arith, f.0))
  IsSamePath-more zero [] (x ∷ ps) (q ∷ qs) p answer prefix l e fit f =
      (ap (λ z. eq z.0 q.0) e ∙ fit.0, turned answers q.1 answer (f.1 q), tt)
  IsSamePath-more zero (a ∷ rest) (x ∷ ps) (q ∷ qs) p answer prefix l e fit f = absurd prefix
  IsSamePath-more (suc n) [] (x ∷ ps) (q ∷ qs) p answer prefix l e fit f = absurd prefix
  IsSamePath-more (suc n) (a ∷ rest) (x ∷ ps) (q ∷ qs) p answer prefix l e fit f =
      let k : IsTrue (same x.1 q.1) = turned answers q.1 x.1 (f.2 0 q (omega arith)) in
      (joined calls a.0 x.0 q.0 prefix.0 fit.0, joined answers a.1 x.1 q.1 prefix.1 k, IsSamePath-more n rest ps qs p answer prefix.2 (omega arith) e (fit.1 k) (omega (arith, f.0), λ d. f.1 d, λ i d j. f.2 (suc i) d (omega arith)))

  below : (x q : C × R) → IsTrue (same q.1 x.1) → (n : ℕ) (ps qs : List (C × R)) → ((k : ℕ) (d : C × R) → k < n → IsTrue (same (get_or qs k d).1 (get_or ps k d).1)) → (k : ℕ) (d : C × R) → k < suc n → IsTrue (same (get_or (q ∷ qs) k d).1 (get_or (x ∷ ps) k d).1)
  below x q e n ps qs h zero d l = e
  below x q e n ps qs h (suc k) d l = h k d (omega arith)

  -- a path that has all that was asked as its prefix has the last answer there
  pub Follows-from_prefix : (n : ℕ) (asked ps qs : List (C × R)) (c : C) (answer : R) → IsSamePath eq same asked (take n ps) → n < length ps → IsPrefix eq same (asked ++ (c, answer) ∷ []) qs → Follows same qs ps n answer
  Follows-from_prefix n asked [] qs c answer prefix l f = absurd (omega arith)
  Follows-from_prefix zero [] (x ∷ ps) [] c answer prefix l f = absurd f
  Follows-from_prefix zero [] (x ∷ ps) (q ∷ qs) c answer prefix l f = (omega arith, λ d. turned answers answer q.1 f.1, λ k d j. absurd (omega arith))
  Follows-from_prefix zero (a ∷ rest) (x ∷ ps) qs c answer prefix l f = absurd prefix
  Follows-from_prefix (suc n) [] (x ∷ ps) qs c answer prefix l f = absurd prefix
  Follows-from_prefix (suc n) (a ∷ rest) (x ∷ ps) [] c answer prefix l f = absurd f
  Follows-from_prefix (suc n) (a ∷ rest) (x ∷ ps) (q ∷ qs) c answer prefix l f =
      let r = Follows-from_prefix n rest ps qs c answer prefix.2 (omega arith) f.2 in
      (omega (arith, r.0), r.1, below x q (joined answers q.1 a.1 x.1 (turned answers a.1 q.1 f.1) prefix.1) n ps qs r.2)

  -- what was asked is a prefix of the path, and the call at n is the next
  pub IsNext-more : (n : ℕ) (asked ps : List (C × R)) (p : C × R) → IsSamePath eq same asked (take n ps) → n < length ps → p ≡ get_or ps n p → IsNext eq same asked p.0 ps
  IsNext-more n asked [] p prefix l e = absurd (omega arith)
  IsNext-more zero [] (x ∷ ps) p prefix l e = ap (λ z. eq p.0 z.0) (sym e) ∙ calls.refl p.0
  IsNext-more zero (a ∷ rest) (x ∷ ps) p prefix l e = absurd prefix
  IsNext-more (suc n) [] (x ∷ ps) p prefix l e = absurd prefix
  IsNext-more (suc n) (a ∷ rest) (x ∷ ps) p prefix l e = (prefix.0, prefix.1, IsNext-more n rest ps p prefix.2 (omega arith) e)

  module _ {K T : Type 0} {eqk : K → K → Bool} (keys : IsEquivalence eqk) where
    -- any two entries of a tree under one key fit
    pub Fit-from_tree : (es : List (Stored K C R T)) (i j : ℕ) (d : Stored K C R T) → IsTree eq same eqk es → i < length es → j < length es → IsTrue (eqk (get_or es i d).key (get_or es j d).key) → Fit (get_or es i d).path (get_or es j d).path
    Fit-from_tree es i j d t l m e =
        elim (cases_eq i j) [ inl s ↦ let P : ℕ → Type 0 = λ k. Fit (get_or es i d).path (get_or es k d).path in subst P s (Fit-itself (get_or es i d).path) | inr n ↦ Fit-from_parts _ _ (t.parted i j d l m n e) ]

    fits : (es : List (Stored K C R T)) (j : ℕ) (d : Stored K C R T) (i : ℕ) (e : Stored K C R T) → IsTree eq same eqk es → j < length es → i < length es → get_or es i e ≡ e → IsTrue (eqk e.key (get_or es j d).key) → Fit e.path (get_or es j d).path
    fits es j d i e tree l m at k =
        let is : get_or es i d ≡ e = get_or_same es i d e m ∙ at in
        subst (λ (x : Stored K C R T). Fit x.path (get_or es j d).path) is (Fit-from_tree es i j d tree m l (ap (λ (x : Stored K C R T). eqk x.key (get_or es j d).key) is ∙ k))

    -- a step of a look-up: the entry at i is e, whose path is ps, and n pairs were asked
    module _ (es : List (Stored K C R T)) (i n : ℕ) (key : K) (e : Stored K C R T) (asked ps : List (C × R)) (l : i < length es) (at : e ≡ get_or es i e) (k : IsTrue (eqk (get_or es i e).key key)) (prefix : IsSamePath eq same asked (take n (get_or es i e).path)) (own : ps ≡ e.path) where
      own_key : IsTrue (eqk e.key key)
      own_key = ap (λ (x : Stored K C R T). eqk x.key key) at ∙ k

      asked_own : IsSamePath eq same asked (take n ps)
      asked_own =
          let P : List (C × R) → Type 0 = λ qs. IsSamePath eq same asked (take n qs) in
          subst P (ap (λ (x : Stored K C R T). x.path) (sym at) ∙ sym own) prefix

      -- the path at hand was asked to its end
      pub whole_path : n ≡ length ps → IsSamePath eq same asked e.path
      whole_path whole =
          let P : List (C × R) → Type 0 = λ ps. IsSamePath eq same asked ps in
          subst P (ap (λ (x : Stored K C R T). take n x.path) (sym at) ∙ take_all n e.path (omega (arith, ap length own))) prefix

      pub found : (v : T) → n ≡ length ps → e.value ≡ v → Any (λ x. IsSamePath eq same asked x.path × (x.value ≡ v)) (under eqk es key)
      found v whole is = Any-under eqk es key (λ x. IsSamePath eq same asked x.path × (x.value ≡ v)) (i, e, l, sym at, (own_key, (whole_path whole, is)))

      module _ (p : C × R) (deep : n < length ps) (is : p ≡ get_or ps n p) where
        next_own : IsNext eq same asked p.0 e.path
        next_own = subst (λ qs. IsNext eq same asked p.0 qs) own (IsNext-more n asked ps p asked_own deep is)

        -- the path's next call is a stored one
        pub is_stored : IsStoredCall (under eqk es key) p.0
        is_stored =
            let P : List (C × R) → Type 0 = λ qs. Any (λ q. q.0 ≡ p.0) qs in
            Any-under eqk es key (λ x. P x.path) (i, e, l, sym at, (own_key, subst P own (n, p, deep, sym is, refl)))

        -- the answer was refused
        pub refused : IsRefused eq same (under eqk es key) asked p.0
        refused = Any-under eqk es key (λ x. IsNext eq same asked p.0 x.path) (i, e, l, sym at, (own_key, next_own))

        -- no path goes on with the answer that was given
        pub missed : (answer : R) → All (λ x. IsTrue (eqk x.key key) → ¬ Follows same x.path ps n answer) es → IsAsked eq same (under eqk es key) (asked ++ (p.0, answer) ∷ []) None
        missed answer none = (
          All-under eqk es key (λ x. ¬ IsPrefix eq same (asked ++ (p.0, answer) ∷ []) x.path) (λ j d m h f. none j d m h (Follows-from_prefix n asked ps (get_or es j d).path p.0 answer asked_own deep f)),
          inr (record { prefix = asked; last = (p.0, answer); splits = refl; next = refused }),
        )

        -- what was asked is the prefix of the path to go on with
        pub stepped : (j : ℕ) (answer : R) → IsTree eq same eqk es → j < length es → HoldsAt (λ x. IsTrue (eqk x.key key) × Follows same x.path ps n answer) es j → (d : Stored K C R T) → IsSamePath eq same (asked ++ (p.0, answer) ∷ []) (take (n + 1) (get_or es j d).path)
        stepped j answer tree m f d =
            let Q : List (C × R) → Type 0 = λ qs. Fit qs (get_or es j d).path in
            rw add-one (IsSamePath-more n asked ps (get_or es j d).path p answer asked_own deep is (subst Q (sym own) (fits es j d i e tree m l (sym at) (joined keys e.key key (get_or es j d).key own_key (turned keys (get_or es j d).key key (f d).0)))) (f d).1)

  module _ (m : C → R) (respects : Respects eq same m) where
    pub Agrees-same : (ps qs : List (C × R)) → IsSamePath eq same ps qs → Agrees same m ps → Agrees same m qs
    Agrees-same [] [] s a = tt
    Agrees-same [] (q ∷ qs) s a = absurd s
    Agrees-same (p ∷ ps) [] s a = absurd s
    Agrees-same (p ∷ ps) (q ∷ qs) s a = (joined answers _ _ _ (turned answers _ _ (respects p.0 q.0 s.0)) (joined answers _ _ _ a.0 s.1), Agrees-same ps qs s.2 a.1)

    answered_alike : (x q : C × R) → IsTrue (eq x.0 q.0) → IsTrue (same (m x.0) x.1) → IsTrue (same (m q.0) q.1) → IsTrue (same x.1 q.1)
    answered_alike x q e a b = joined answers x.1 (m x.0) q.1 (turned answers (m x.0) x.1 a) (joined answers (m x.0) (m q.0) q.1 (respects x.0 q.0 e) b)

    -- what was asked along one path is a prefix of each path that fits it and agrees with the answers
    IsPrefix-agreeing : (prefix ps qs : List (C × R)) (last : C × R) → IsNext eq same prefix last.0 ps → Fit ps qs → Agrees same m (prefix ++ last ∷ []) → Agrees same m qs → IsPrefix eq same (prefix ++ last ∷ []) qs
    IsPrefix-agreeing [] [] qs last k f a b = absurd k
    IsPrefix-agreeing [] (p ∷ ps) [] last k f a b = absurd f
    IsPrefix-agreeing [] (p ∷ ps) (q ∷ qs) last k f a b =
        let e : IsTrue (eq last.0 q.0) = joined calls last.0 p.0 q.0 k f.0 in
        (e, answered_alike last q e a.0 b.0, tt)
    IsPrefix-agreeing (x ∷ prefix) [] qs last k f a b = absurd k
    IsPrefix-agreeing (x ∷ prefix) (p ∷ ps) [] last k f a b = absurd f
    IsPrefix-agreeing (x ∷ prefix) (p ∷ ps) (q ∷ qs) last k f a b =
        let e : IsTrue (eq x.0 q.0) = joined calls x.0 p.0 q.0 k.0 f.0 in
        let h : IsTrue (same x.1 q.1) = answered_alike x q e a.0 b.0 in
        (e, h, IsPrefix-agreeing prefix ps qs last k.2 (f.1 (joined answers p.1 x.1 q.1 (turned answers x.1 p.1 k.1) h)) a.1 b.1)

    -- a look-up whose answers are those of m finds what agrees with m
    pub FindsAgreeing-from_asked : {K T : Type 0} {eqk : K → K → Bool} (keys : IsEquivalence eqk) (es : List (Stored K C R T)) (key : K) (asked : List (C × R)) (r : Option T) → IsTree eq same eqk es → Agrees same m asked → IsAsked eq same (under eqk es key) asked r → FindsAgreeing eq same (under eqk es key) m r
    FindsAgreeing-from_asked keys es key asked (Some v) tree a k =
        (k.0, k.1, k.2, k.3, (Agrees-same asked k.1.path k.4.0 a, k.4.1))
    FindsAgreeing-from_asked {K} {T} {eqk} keys es key asked None tree a k =
        let none = All-from_under eqk es key (λ x. ¬ IsPrefix eq same asked x.path) k.0 in
        All-under eqk es key (λ x. ¬ Agrees same m x.path) (λ j d l e b.
        let path = (get_or es j d).path in
        elim k.1 [
          | inl is ↦ none j d l e (subst (λ xs. IsPrefix eq same xs path) (sym is) tt)
          | inr along ↦
              let some = Any-from_under eqk es key (λ x. IsNext eq same along.prefix along.last.0 x.path) along.next in
              let fit = fits keys es j d some.0 some.1 tree l some.2 some.3 (joined keys some.1.key key (get_or es j d).key some.4.0 (turned keys (get_or es j d).key key e)) in
              none j d l e (subst (λ xs. IsPrefix eq same xs path) (sym along.splits) (IsPrefix-agreeing along.prefix some.1.path path along.last some.4.1 fit (subst (λ xs. Agrees same m xs) along.splits a) b))
        ])

    -- so does one that gives the path too
    pub FindsAgreeingPath-from_asked : {K T : Type 0} (us : List (Stored K C R T)) (asked path : List (C × R)) (v : T) → Agrees same m asked → IsAsked eq same us asked (Some v) → IsSamePath eq same asked path → FindsAgreeingPath eq same us m (Some (path, v))
    FindsAgreeingPath-from_asked us asked path v a k s =
        (k.0, k.1, k.2, k.3, (Agrees-same asked k.1.path k.4.0 a, IsSamePath-joined calls answers path asked k.1.path (IsSamePath-turned calls answers asked path s) k.4.0, k.4.1))

-- each pair was answered as the oracle answers
pub Agrees-asked : {F C R : Type 0} (g : Mut F (Bor C × Unit {0}) (Result R AllocError)) (same : R → R → Bool) (m : C → R) (f f' : F) (asked : List (C × R)) → AnswersAs g same m f → Answered g f asked f' → Agrees same m asked
Agrees-asked g same m f f' [] at k = tt
Agrees-asked g same m f f' (x ∷ asked) at k =
    let c = k.1 in
    (ap (λ z. same (m z) x.1) (sym c.shows) ∙ (at.at ((c.shown, tt) ∷ []) (Ok x.1) k.0 c.called).0, Agrees-asked g same m k.0 f' asked (record { at = λ xs. (at.at ((c.shown, tt) ∷ xs) (Ok x.1) k.0 c.called).1 }) k.2)

-- an oracle that refuses nothing answers the next call too
pub answers_next : {F C R : Type 0} (g : Mut F (Bor C × Unit {0}) (Result R AllocError)) (f f' f'' : F) (asked : List (C × R)) (c : C) (e : AllocError) → AlwaysReturns g (λ a r. IsOk r) f → Answered g f asked f' → CalledAt g f' c (Err e) f'' → ⊥
answers_next g f f' f'' [] c e at k h =
    subst (λ x. CalledAt g x c (Err e) f'' → ⊥) k (λ h. let z : false ≡ true = (at.at ((h.shown, tt) ∷ []) (Err e) f'' h.called).0 in cc) h
answers_next g f f' f'' (x ∷ asked) c e at k h =
    answers_next g k.0 f' f'' asked c e (record { at = λ xs. (at.at ((k.1.shown, tt) ∷ xs) (Ok x.1) k.0 k.1.called).1 }) k.2 h
