-- Lemmas on counts of runs by age.
use Rattle.std.proofs.Common.{◌≡◌, ◌∙◌, ◌+◌, ◌≤◌, ◌==◌, ℕ, Bool, true, false, cond, List, [], ◌∷◌, map, length, min, count_by, slice_index, slice_set, inl, inr, refl, sym, ap, arith}
use Rattle.std.proofs.lemmas.Bool.{cases_eq}
use Rattle.std.proofs.lemmas.Grind.{common_steps}
use Rattle.std.proofs.lemmas.List.Sums.{sum_by-cons}
use Rattle.comemo_cache.specs.Cache.{Kept}

-- a count over a list of parts
pub count_by-map : {X Y : Type 0} (p : Y → Bool) (f : X → Y) (xs : List X) → count_by p (map f xs) ≡ count_by (λ x. p (f x)) xs
count_by-map p f [] = refl
count_by-map p f (x ∷ xs) =
    sum_by-cons (λ y. cond (p y) 1 0) (f x) (map f xs) ∙ ap (λ n. cond (p (f x)) 1 0 + n) (count_by-map p f xs) ∙ sym (sum_by-cons (λ z. cond (p (f z)) 1 0) x xs)

-- one more is counted in the place of its age
pub counted : (ages : List ℕ) (age place rest total : ℕ) → length ages ≡ 8 → age ≤ 7 → slice_index ages place + (cond (age == place) 1 0 + rest) ≡ total → slice_index (slice_set ages age (slice_index ages age + 1)) place + rest ≡ total
counted ages age place rest total len le e =
    elim (cases_eq age place) [
      | inl same ↦ grind (arith, common_steps, same, e)
      | inr other ↦ grind (arith, common_steps, other, e)
    ]

same_place : (n : ℕ) → (n == n) ≡ true
same_place n = grind (arith, common_steps)

fits : (b : Bool) (x rest total : ℕ) → b ≡ true → x + (cond b 1 0 + rest) ≡ total → x + 1 ≤ total
fits true x rest total t e = omega (arith, e)
fits false x rest total t e = cc

-- one more fits
pub room : (ages : List ℕ) (age rest total : ℕ) → slice_index ages age + (cond (age == age) 1 0 + rest) ≡ total → slice_index ages age + 1 ≤ total
room ages age rest total e = fits (age == age) (slice_index ages age) rest total (same_place age) e

module _ {O C : Type 0} where
  -- whether the age of a run has this place
  abbrev pub is_at : ℕ → Kept O C → Bool
  is_at place k = min k.age 7 == place

  -- the first of the runs left is one of them
  pub first_left : (ages : List ℕ) (age place total : ℕ) (k : Kept O C) (left rest : List (Kept O C)) → left ≡ k ∷ rest → age ≡ min k.age 7 → slice_index ages place + count_by (is_at place) left ≡ total → slice_index ages place + (cond (age == place) 1 0 + count_by (is_at place) rest) ≡ total
  first_left ages age place total k left rest is own e =
      ap (λ n. slice_index ages place + n) (ap (λ (a : ℕ). cond (a == place) 1 0 + count_by (is_at place) rest) own ∙ sym (sum_by-cons (λ x. cond (is_at place x) 1 0) k rest) ∙ sym (ap (count_by (is_at place)) is)) ∙ e
