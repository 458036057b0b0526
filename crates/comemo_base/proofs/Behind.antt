-- Look-ups in a list of places followed by a map's entries.
use Rattle.std.proofs.Common.{◌≡◌, ℕ, zero, suc, ◌<◌, Bool, true, false, cond, List, [], ◌∷◌, ◌++◌, length, remove, Some, None, refl, sym, ap, ◌∙◌, inl, inr, arith}
use Rattle.std.proofs.lemmas.Bool.{cases_Bool}
use Rattle.std.specs.Cmp.{IsEquivalence}
use Rattle.std.specs.List.{All, AllWithin, HoldsAt}
use Rattle.std.specs.Prelude.{slice_index_or}
use Rattle.std.specs.Map.{lookup}

module _ {K X : Type 0} (test : K → Bool) where
  -- where none of the list passes, the look-up goes on behind it
  pub lookup-past : (xs ys : List (K × X)) → All (λ e. test e.0 ≡ false) xs → lookup test (xs ++ ys) ≡ lookup test ys
  lookup-past [] ys none = refl
  lookup-past (x ∷ xs) ys none = rw (none 0 x (omega arith)) (lookup-past xs ys (λ k d l. none (suc k) d (omega arith)))

  -- the first that passes is found
  pub lookup-first : (xs ys : List (K × X)) (i : ℕ) (d : K × X) → i < length xs → AllWithin (λ e. test e.0 ≡ false) xs 0 i → HoldsAt (λ e. test e.0 ≡ true) xs i → lookup test (xs ++ ys) ≡ Some (slice_index_or xs i d).1
  lookup-first [] ys i d l none here = absurd (omega arith)
  lookup-first (x ∷ xs) ys zero d l none here = rw (here x) refl
  lookup-first (x ∷ xs) ys (suc i) d l none here = rw (none 0 x (omega arith) (omega arith)) (lookup-first xs ys i d (omega arith) (λ k e low high. none (suc k) e (omega arith) (omega arith)) here)

  -- what is found behind the list decides
  pub lookup-behind : (xs ys zs : List (K × X)) → lookup test zs ≡ lookup test ys → lookup test (xs ++ zs) ≡ lookup test (xs ++ ys)
  lookup-behind [] ys zs e = e
  lookup-behind (x ∷ xs) ys zs e = ap (λ o. cond (test x.0) (Some x.1) o) (lookup-behind xs ys zs e)

  -- one that doesn't pass may go
  pub lookup-without : (xs ys : List (K × X)) (i : ℕ) → i < length xs → HoldsAt (λ e. test e.0 ≡ false) xs i → lookup test (remove xs i ++ ys) ≡ lookup test (xs ++ ys)
  lookup-without [] ys i l other = absurd (omega arith)
  lookup-without (x ∷ xs) ys zero l other = rw (other x) refl
  lookup-without (x ∷ xs) ys (suc i) l other = ap (λ o. cond (test x.0) (Some x.1) o) (lookup-without xs ys i (omega arith) other)

module _ {K X : Type 0} {eq : K → K → Bool} (laws : IsEquivalence eq) (key : K) (value : X) where
  unlike : (x q : K) → eq key x ≡ false → eq q x ≡ true → eq key q ≡ false
  unlike x q apart alike =
      elim (cases_Bool (eq key q)) [
        | inl s ↦ let f : true ≡ false = sym alike ∙ sym (laws.congr key q x s) ∙ apart in cc
        | inr s ↦ s
      ]

  -- a key that is put at the end of the list, where none is equal to it
  pub lookup-put : (xs ys : List (K × X)) (q : K) → lookup (eq key) (xs ++ ys) ≡ None → lookup (eq q) ((xs ++ (key, value) ∷ []) ++ ys) ≡ cond (eq key q) (Some value) (lookup (eq q) (xs ++ ys))
  lookup-put [] ys q absent = rw (laws.symm q key) refl
  lookup-put (x ∷ xs) ys q absent =
      elim (cases_Bool (eq key x.0)) [
        | inl s ↦ let f : Some x.1 ≡ None = rw s at absent in cc
        | inr s ↦
            let rest = lookup-put xs ys q (rw s at absent) in
            elim (cases_Bool (eq q x.0)) [
              | inl t ↦ rw (t, unlike x.0 q s t) refl
              | inr t ↦ rw t rest
            ]
      ]

  -- the same behind the list
  pub lookup-put_behind : (xs ys zs : List (K × X)) (q : K) → lookup (eq key) (xs ++ ys) ≡ None → lookup (eq q) zs ≡ cond (eq key q) (Some value) (lookup (eq q) ys) → lookup (eq q) (xs ++ zs) ≡ cond (eq key q) (Some value) (lookup (eq q) (xs ++ ys))
  lookup-put_behind [] ys zs q absent put = put
  lookup-put_behind (x ∷ xs) ys zs q absent put =
      elim (cases_Bool (eq key x.0)) [
        | inl s ↦ let f : Some x.1 ≡ None = rw s at absent in cc
        | inr s ↦
            let rest = lookup-put_behind xs ys zs q (rw s at absent) put in
            elim (cases_Bool (eq q x.0)) [
              | inl t ↦ rw (t, unlike x.0 q s t) refl
              | inr t ↦ rw t rest
            ]
      ]

-- what is equal to a key isn't equal to one that differs from it
pub other_passes : {K : Type 0} {eq : K → K → Bool} → IsEquivalence eq → (k q x : K) → eq k q ≡ false → eq k x ≡ true → eq q x ≡ false
other_passes laws k q x apart alike = laws.symm q x ∙ sym (laws.congr k x q alike) ∙ apart
