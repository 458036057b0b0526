-- Lemmas on the numbers of what a cache holds.
use Rattle.std.proofs.Common.{◌≡◌, ◌+◌, ◌<◌, ◌≤◌, ◌==◌, ℕ, zero, suc, Bool, cond, List, [], ◌∷◌, map, length, min, sum, slice_index, get_or, IsTrue, refl, arith}
use Rattle.std.proofs.lemmas.List.{length-map}
use Rattle.std.proofs.lemmas.List.Sums.{sum_by-cons}
use Rattle.std.specs.Cmp.{IsEquivalence}
use Rattle.comemo_base.specs.Tree.{Stored}
use Rattle.comemo_base.proofs.Paths.{turned, joined}
use Rattle.comemo_base.proofs.Under.{Any-weaker}
use Rattle.comemo_tree.proofs.Counts.{no_more, Any-map}
use Rattle.comemo_cache.specs.Cache.{Entries, Kept}
use Rattle.comemo_cache.specs.Contents.{count_at, HasKeys}

-- 1 if the numbers are equal
abbrev one_if : ℕ → ℕ → ℕ
one_if m place = cond (m == place) 1 0

one_of_eight : (m : ℕ) → m ≤ 7 → one_if m 0 + (one_if m 1 + (one_if m 2 + (one_if m 3 + (one_if m 4 + (one_if m 5 + (one_if m 6 + one_if m 7)))))) ≡ suc zero
one_of_eight zero l = refl
one_of_eight (suc zero) l = refl
one_of_eight (suc (suc zero)) l = refl
one_of_eight (suc (suc (suc zero))) l = refl
one_of_eight (suc (suc (suc (suc zero)))) l = refl
one_of_eight (suc (suc (suc (suc (suc zero))))) l = refl
one_of_eight (suc (suc (suc (suc (suc (suc zero)))))) l = refl
one_of_eight (suc (suc (suc (suc (suc (suc (suc zero))))))) l = refl
one_of_eight (suc (suc (suc (suc (suc (suc (suc (suc n)))))))) l = absurd (omega (arith, l))

module _ {K C R O : Type 0} where
  one_more : (e : Stored K C R (Kept O C)) (es : Entries K C R O) (place : ℕ) → count_at (e ∷ es) place ≡ one_if (min e.value.age 7) place + count_at es place
  one_more e es place = sum_by-cons (λ (x : Stored K C R (Kept O C)). cond (min x.value.age 7 == place) 1 0) e es

  -- each entry is counted in one place
  all_counted : (es : Entries K C R O) → count_at es 0 + (count_at es 1 + (count_at es 2 + (count_at es 3 + (count_at es 4 + (count_at es 5 + (count_at es 6 + count_at es 7)))))) ≡ length es
  all_counted [] = refl
  all_counted (e ∷ es) =
      let one = one_of_eight (min e.value.age 7) (omega arith) in
      omega (arith, one, all_counted es, one_more e es 0, one_more e es 1, one_more e es 2, one_more e es 3, one_more e es 4, one_more e es 5, one_more e es 6, one_more e es 7)

  -- the counts sum to the number of entries
  pub ages_sum : (es : Entries K C R O) (ages : List ℕ) → length ages ≡ 8 → ((place : ℕ) → place < 8 → slice_index ages place ≡ count_at es place) → sum ages ≡ length es
  ages_sum es (a ∷ b ∷ c ∷ d ∷ e ∷ f ∷ g ∷ h ∷ []) len at =
      omega (arith, all_counted es, at 0 (omega arith), at 1 (omega arith), at 2 (omega arith), at 3 (omega arith), at 4 (omega arith), at 5 (omega arith), at 6 (omega arith), at 7 (omega arith))
  ages_sum es [] len at = absurd (omega (arith, len))
  ages_sum es (a ∷ []) len at = absurd (omega (arith, len))
  ages_sum es (a ∷ b ∷ []) len at = absurd (omega (arith, len))
  ages_sum es (a ∷ b ∷ c ∷ []) len at = absurd (omega (arith, len))
  ages_sum es (a ∷ b ∷ c ∷ d ∷ []) len at = absurd (omega (arith, len))
  ages_sum es (a ∷ b ∷ c ∷ d ∷ e ∷ []) len at = absurd (omega (arith, len))
  ages_sum es (a ∷ b ∷ c ∷ d ∷ e ∷ f ∷ []) len at = absurd (omega (arith, len))
  ages_sum es (a ∷ b ∷ c ∷ d ∷ e ∷ f ∷ g ∷ []) len at = absurd (omega (arith, len))
  ages_sum es (a ∷ b ∷ c ∷ d ∷ e ∷ f ∷ g ∷ h ∷ i ∷ more) len at = absurd (omega (arith, len))

  -- there are no more keys than entries
  pub few_keys : (eqk : K → K → Bool) (keys : IsEquivalence eqk) (es : Entries K C R O) (n : ℕ) → HasKeys es eqk n → n ≤ length es
  few_keys eqk keys es n a =
      let le = no_more (λ k l. IsTrue (eqk k l)) (turned keys) (joined keys) a.things (map (λ (x : Stored K C R (Kept O C)). x.key) es) a.apart (λ i d l.
      let k = get_or a.things i d in
      Any-map (λ (x : Stored K C R (Kept O C)). x.key) (λ z. IsTrue (eqk k z)) es (Any-weaker (λ (x : Stored K C R (Kept O C)). IsTrue (eqk x.key k)) (λ x. IsTrue (eqk k x.key)) (λ x e. turned keys x.key k e) es (a.only i d l))) in
      omega (arith, le, a.many, length-map es (λ (x : Stored K C R (Kept O C)). x.key))

-- sums of lists, and of the sums at each place, each cut to a number
capped : (most : ℕ) (xs ys zs : List ℕ) → length ys ≡ length xs → length zs ≡ length xs → ((i : ℕ) → i < length xs → slice_index zs i ≡ min (slice_index xs i + slice_index ys i) most) → min (sum zs) most ≡ min (sum xs + sum ys) most
capped most [] [] [] l m at = refl
capped most [] (y ∷ ys) zs l m at = absurd (omega (arith, l))
capped most [] [] (z ∷ zs) l m at = absurd (omega (arith, m))
capped most (x ∷ xs) [] zs l m at = absurd (omega (arith, l))
capped most (x ∷ xs) (y ∷ ys) [] l m at = absurd (omega (arith, m))
capped most (x ∷ xs) (y ∷ ys) (z ∷ zs) l m at =
    let head : z ≡ min (x + y) most = at 0 (omega arith) in
    let rest = capped most xs ys zs (omega (arith, l)) (omega (arith, m)) (λ i k. at (suc i) (omega (arith, k))) in
    omega (arith, head, rest, sum_by-cons (λ n. n) x xs, sum_by-cons (λ n. n) y ys, sum_by-cons (λ n. n) z zs)

-- the numbers of two caches fit each other if those of each do
pub sums_fit : (most : ℕ) (xs ys zs : List ℕ) (m n p : ℕ) → length xs ≡ 8 → length ys ≡ 8 → length zs ≡ 8 → ((i : ℕ) → i < 8 → slice_index zs i ≡ min (slice_index xs i + slice_index ys i) most) → m ≡ min (sum xs) most → n ≡ sum ys → p ≡ min (m + n) most → p ≡ min (sum zs) most
sums_fit most xs ys zs m n p lx ly lz at em en ep =
    let both = capped most xs ys zs (omega (arith, lx, ly)) (omega (arith, lx, lz)) (λ i k. at i (omega (arith, k, lx))) in
    omega (arith, both, em, en, ep)
