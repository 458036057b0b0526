-- The entries of a slab with one more.
use Rattle.std.proofs.Common.{◌≡◌, ◌≢◌, ◌+◌, ℕ, zero, suc, List, [], ◌∷◌, Option, Some, None, refl, sym, ap, subst, ◌∙◌, arith, get_or}
use Rattle.std.specs.List.Sorted.{IsPermutation}
use Rattle.std.proofs.lemmas.List.Sorted.{IsPermutation-refl, IsPermutation-cons, IsPermutation-trans, IsPermutation-middle}
use Rattle.slab.specs.Slab as slab
use Rattle.slab.specs.Slab.{entries_from}

module _ {X : Type 0} where
  no_entries : (first : ℕ) (ys : List (Option X)) → ((j : ℕ) → get_or ys j None ≡ None) → entries_from first ys ≡ []
  no_entries first [] e = refl
  no_entries first (None ∷ ys) e = no_entries (first + 1) ys (λ j. e (suc j))
  no_entries first (Some y ∷ ys) e = let l : Some y ≡ None = e zero in cc

  same_entries : (first : ℕ) (xs ys : List (Option X)) → ((j : ℕ) → get_or ys j None ≡ get_or xs j None) → entries_from first ys ≡ entries_from first xs
  same_entries first [] ys e = no_entries first ys e
  same_entries first (x ∷ xs) [] e = sym (no_entries first (x ∷ xs) (λ j. sym (e j)))
  same_entries first (None ∷ xs) (None ∷ ys) e = same_entries (first + 1) xs ys (λ j. e (suc j))
  same_entries first (None ∷ xs) (Some y ∷ ys) e = let l : Some y ≡ None = e zero in cc
  same_entries first (Some x ∷ xs) (None ∷ ys) e = let l : None ≡ Some x = e zero in cc
  same_entries first (Some x ∷ xs) (Some y ∷ ys) e =
      let l : Some y ≡ Some x = e zero in
      let one : y ≡ x = cc in
      ap (λ z. (first, z) ∷ entries_from (first + 1) ys) one ∙ ap (λ zs. (first, x) ∷ zs) (same_entries (first + 1) xs ys (λ j. e (suc j)))

  under_first : (first : ℕ) (x y : Option X) (xs ys : List (Option X)) (p : ℕ × X) → y ≡ x → IsPermutation (p ∷ entries_from (first + 1) xs) (entries_from (first + 1) ys) → IsPermutation (p ∷ entries_from first (x ∷ xs)) (entries_from first (y ∷ ys))
  under_first first None y xs ys p e later = rw e later
  under_first first (Some x) y xs ys p e later =
      rw e (IsPermutation-trans _ _ _ (IsPermutation-middle (p ∷ []) (first, x) (entries_from (first + 1) xs)) (IsPermutation-cons (first, x) _ _ later))

  -- a value at a key that had none is one more entry
  one_more : (first : ℕ) (xs ys : List (Option X)) (id : ℕ) (v : X) → get_or xs id None ≡ None → get_or ys id None ≡ Some v → ((j : ℕ) → j ≢ id → get_or ys j None ≡ get_or xs j None) → IsPermutation ((first + id, v) ∷ entries_from first xs) (entries_from first ys)
  one_more first xs [] id v n s e = let l : None ≡ Some v = s in cc
  one_more first [] (Some y ∷ ys) (suc id) v n s e = let l : Some y ≡ None = e zero (λ z. absurd (omega (arith, z))) in cc
  one_more first [] (None ∷ ys) (suc id) v n s e =
      let shift : first + suc id ≡ first + 1 + id = omega arith in
      rw shift (one_more (first + 1) [] ys id v n s (λ j d. e (suc j) (λ z. d (omega (arith, z)))))
  one_more first [] (y ∷ ys) zero v n s e =
      let rest : entries_from (first + 1) ys ≡ [] = no_entries (first + 1) ys (λ j. e (suc j) (λ z. absurd (omega (arith, z)))) in
      let shift : first + zero ≡ first = omega arith in
      rw (s, shift, rest) (IsPermutation-refl _)
  one_more first (x ∷ xs) (y ∷ ys) zero v n s e =
      let rest : entries_from (first + 1) ys ≡ entries_from (first + 1) xs = same_entries (first + 1) xs ys (λ j. e (suc j) (λ z. absurd (omega (arith, z)))) in
      let shift : first + zero ≡ first = omega arith in
      rw (n, s, shift, rest) (IsPermutation-refl _)
  one_more first (x ∷ xs) (y ∷ ys) (suc id) v n s e =
      let shift : first + suc id ≡ first + 1 + id = omega arith in
      let later : IsPermutation ((first + suc id, v) ∷ entries_from (first + 1) xs) (entries_from (first + 1) ys) = rw shift (one_more (first + 1) xs ys id v n s (λ j d. e (suc j) (λ z. d (omega (arith, z))))) in
      under_first first x y xs ys (first + suc id, v) (e zero (λ z. absurd (omega (arith, z)))) later

  pub entries-added : (old new : slab.Slab X) (id : ℕ) (v : X) → slab.get old id ≡ None → slab.Updates old new id (Some v) → IsPermutation ((id, v) ∷ slab.entries old) (slab.entries new)
  entries-added old new id v n u =
      let shift : 0 + id ≡ id = omega arith in
      subst (λ k. IsPermutation ((k, v) ∷ slab.entries old) (slab.entries new)) shift (one_more 0 old.slots new.slots id v n u.changed (λ j d. u.others j d))
