-- What holds for the entries under a key, as a property of all entries that tests the key.
use Rattle.std.proofs.Common.{◌≡◌, ◌∙◌, ◌<◌, ◌⊎◌, ℕ, zero, suc, Bool, true, false, cond, subst, List, [], ◌∷◌, length, get_or, refl, sym, ap, inl, inr, arith, IsTrue}
use Rattle.std.proofs.lemmas.Bool.{cases_Bool}
use Rattle.std.proofs.lemmas.List.Elements.{All-cons, All-head, All-tail}
use Rattle.std.specs.List.{All, Any, filter}
use Rattle.std.specs.Cmp.{IsEquivalence}
use Rattle.comemo_base.specs.Tree.{Stored}
use Rattle.comemo_base.specs.Lookup.{under}

module _ {X : Type 0} (P : X → Type 0) where
  pub Any-here : (x : X) (xs : List X) → P x → Any P (x ∷ xs)
  Any-here x xs h = (0, x, omega arith, refl, h)

  pub Any-later : (x : X) (xs : List X) → Any P xs → Any P (x ∷ xs)
  Any-later x xs h = (suc h.0, h.1, omega (arith, h.2), h.3, h.4)

  pub Any-weaker : (Q : X → Type 0) → ((x : X) → P x → Q x) → (xs : List X) → Any P xs → Any Q xs
  Any-weaker Q f xs h = (h.0, h.1, h.2, h.3, f h.1 h.4)

  pub Any-split : (x : X) (xs : List X) → Any P (x ∷ xs) → P x ⊎ Any P xs
  Any-split x xs (zero, y, l, at, h) = inl (subst P (sym at) h)
  Any-split x xs (suc k, y, l, at, h) = inr (k, y, omega arith, at, h)

  pub none-from_nothing : {xs : List X} → xs ≡ [] → Any P xs → ⊥
  none-from_nothing e h = let l = h.2 in absurd (omega (arith, ap length e, l))

module _ {X : Type 0} (test : X → Bool) (P : X → Type 0) where
  kept_at : (xs : List X) (k : ℕ) (x : X) → k < length xs → get_or xs k x ≡ x → IsTrue (test x) → P x → Any P (filter test xs)
  kept_at [] k x l at t h = absurd (omega arith)
  kept_at (y ∷ ys) zero x l at t h = let e : test y ≡ true = ap test at ∙ t in rw e (Any-here P y (filter test ys) (subst P (sym at) h))
  kept_at (y ∷ ys) (suc k) x l at t h =
      let rest = kept_at ys k x (omega arith) at t h in
      elim (cases_Bool (test y)) [ inl a ↦ rw a (Any-later P y (filter test ys) rest) | inr a ↦ rw a rest ]

  pub Any-filter : (xs : List X) → Any (λ x. IsTrue (test x) × P x) xs → Any P (filter test xs)
  Any-filter xs h = kept_at xs h.0 h.1 h.2 h.3 h.4.0 h.4.1

  pub Any-from_filter : (xs : List X) → Any P (filter test xs) → Any (λ x. IsTrue (test x) × P x) xs
  Any-from_filter [] h = absurd (omega (arith, h.2))
  Any-from_filter (y ∷ ys) h =
      let Q : X → Type 0 = λ x. IsTrue (test x) × P x in
      elim (cases_Bool (test y)) [
        | inl a ↦ elim (Any-split P y (filter test ys) (rw a at h)) [ inl here ↦ Any-here Q y ys (a, here) | inr later ↦ Any-later Q y ys (Any-from_filter ys later) ]
        | inr a ↦ Any-later Q y ys (Any-from_filter ys (rw a at h))
      ]

  pub All-filtered : (xs : List X) → All (λ x. IsTrue (test x) → P x) xs → All P (filter test xs)
  All-filtered [] h = λ k d l. absurd (omega arith)
  All-filtered (y ∷ ys) h =
      let rest = All-filtered ys (All-tail (λ x. IsTrue (test x) → P x) y ys h) in
      elim (cases_Bool (test y)) [
        | inl a ↦ rw a (All-cons P y (filter test ys) (All-head (λ x. IsTrue (test x) → P x) y ys h a) rest)
        | inr a ↦ rw a rest
      ]

  pub All-from_filtered : (xs : List X) → All P (filter test xs) → All (λ x. IsTrue (test x) → P x) xs
  All-from_filtered [] h = λ k d l. absurd (omega arith)
  All-from_filtered (y ∷ ys) h =
      let Q : X → Type 0 = λ x. IsTrue (test x) → P x in
      elim (cases_Bool (test y)) [
        | inl a ↦
            let kept = rw a at h in
            All-cons Q y ys (λ _. All-head P y (filter test ys) kept) (All-from_filtered ys (All-tail P y (filter test ys) kept))
        | inr a ↦ All-cons Q y ys (λ b. let f : true ≡ false = sym b ∙ a in cc) (All-from_filtered ys (rw a at h))
      ]

filter-same : {X : Type 0} (p q : X → Bool) → ((x : X) → p x ≡ q x) → (xs : List X) → filter p xs ≡ filter q xs
filter-same p q e [] = refl
filter-same p q e (x ∷ xs) = λ i. cond (e x i) (x ∷ filter-same p q e xs i) (filter-same p q e xs i)

filter-none : {X : Type 0} (p : X → Bool) (xs : List X) → All (λ x. ¬ IsTrue (p x)) xs → filter p xs ≡ []
filter-none p [] h = refl
filter-none p (x ∷ xs) h =
    let rest = filter-none p xs (All-tail (λ x. ¬ IsTrue (p x)) x xs h) in
    elim (cases_Bool (p x)) [ inl a ↦ absurd (All-head (λ x. ¬ IsTrue (p x)) x xs h a) | inr a ↦ rw a rest ]

module _ {K C R T : Type 0} (eqk : K → K → Bool) (es : List (Stored K C R T)) (key : K) where
  -- no entry is under the key
  pub under-none : All (λ e. ¬ IsTrue (eqk e.key key)) es → under eqk es key ≡ []
  under-none h = filter-none (λ e. eqk e.key key) es h

  -- equal keys have the same entries
  pub under-alike : IsEquivalence eqk → (other : K) → IsTrue (eqk key other) → under eqk es key ≡ under eqk es other
  under-alike keys other e =
      filter-same (λ (e : Stored K C R T). eqk e.key key) (λ e. eqk e.key other) (λ x. keys.symm x.key key ∙ keys.congr key other x.key e ∙ keys.symm other x.key) es

  module _ (P : Stored K C R T → Type 0) where
    pub Any-under : Any (λ e. IsTrue (eqk e.key key) × P e) es → Any P (under eqk es key)
    Any-under h = Any-filter (λ e. eqk e.key key) P es h

    pub Any-from_under : Any P (under eqk es key) → Any (λ e. IsTrue (eqk e.key key) × P e) es
    Any-from_under h = Any-from_filter (λ e. eqk e.key key) P es h

    pub All-under : All (λ e. IsTrue (eqk e.key key) → P e) es → All P (under eqk es key)
    All-under h = All-filtered (λ e. eqk e.key key) P es h

    pub All-from_under : All P (under eqk es key) → All (λ e. IsTrue (eqk e.key key) → P e) es
    All-from_under h = All-from_filtered (λ e. eqk e.key key) P es h
