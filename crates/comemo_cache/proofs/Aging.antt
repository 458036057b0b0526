-- The entries after a touch or an eviction, and that they stay legal.
use Rattle.std.proofs.Common.{◌≡◌, ◌∙◌, ◌+◌, ℕ, Bool, true, false, cond, List, [], ◌∷◌, IsTrue, map, filter, get_or, inl, inr, refl, sym, ap, subst}
use Rattle.std.proofs.lemmas.Bool.{cases_Bool}
use Rattle.std.proofs.lemmas.List.Elements.{All-head, All-tail, All-map, All-filter}
use Rattle.std.proofs.lemmas.List.Sorted.{All-permutation, IsPermutation-sym}
use Rattle.std.specs.Prelude.{nat_lt}
use Rattle.std.specs.List.{All}
use Rattle.std.specs.List.Sorted.{IsPermutation}
use Rattle.comemo_base.specs.Tree.{Stored, stored}
use Rattle.comemo_base.specs.Lookup.{under}
use Rattle.comemo_tree.specs.Change.{HasAnswers, Changes}
use Rattle.comemo_tree.specs.Retain.{Leaves, Retains}
use Rattle.comemo_cache.specs.Meaning.{Meaning}
use Rattle.comemo_cache.specs.Cache.{Kept, Entries, IsLegal, TouchesAt, Evicts, older, aged}
use Rattle.comemo_cache.proofs.Entries.{All-cons}

-- what a change leaves, told otherwise
Changes-known : {K C R T : Type 0} {same : R → R → Bool} {eqk : K → K → Bool} {f g : T → T → Type 0} (key : K) (answers : List R) (old new : List (Stored K C R T)) → ((x y : T) → f x y → g x y) → Changes same eqk f key answers old new → Changes same eqk g key answers old new
Changes-known key answers old new known c = record {
  entry = c.entry;
  others = c.others;
  before = c.before;
  under_key = c.under_key;
  has_answers = c.has_answers;
  value = c.value;
  left = known c.entry.value c.value c.left;
  after = c.after;
}

module _ {K C R O : Type 0} where
  -- what a change says, told as what a touch does
  pub touches : (same : R → R → Bool) (eqk : K → K → Bool) (key : K) (answers : List R) (es es' : Entries K C R O) (leaves : Kept O C → Kept O C → Type 0) → ((x y : Kept O C) → leaves x y → y ≡ record x { age = 0 }) → (r : Bool) → (IsTrue r → Changes same eqk leaves key answers es es') → (r ≡ false → (es' ≡ es) × All (λ e. ¬ HasAnswers same e.path answers) (under eqk es key)) → TouchesAt same eqk key answers es es'
  touches same eqk key answers es es' leaves known r changed absent =
      elim (cases_Bool r) [
        | inl t ↦ inl (Changes-known key answers es es' known (changed t))
        | inr f ↦ let h = absent f in inr (h.1, h.0)
      ]

  -- what a retention by age leaves
  module _ (bound : ℕ) (keeps : Kept O C → Bool → Kept O C → Type 0) (known : (x : Kept O C) (b : Bool) (x' : Kept O C) → keeps x b x' → (b ≡ nat_lt x.age bound) × (b ≡ true → x' ≡ record x { age = x.age + 1 })) where
    one_aged : (e : Stored K C R (Kept O C)) (value : Kept O C) (rest others : Entries K C R O) → rest ≡ aged bound others → (t b : Bool) → b ≡ t → (b ≡ true → value ≡ record e.value { age = e.value.age + 1 }) → cond b (stored e.key e.path value ∷ rest) rest ≡ map older (cond t (e ∷ filter (λ x. nat_lt x.value.age bound) others) (filter (λ x. nat_lt x.value.age bound) others))
    one_aged e value rest others later true true same older = ap (λ v. stored e.key e.path v ∷ rest) (older refl) ∙ ap (λ xs. stored e.key e.path (record e.value { age = e.value.age + 1 }) ∷ xs) later
    one_aged e value rest others later false false same older = later
    one_aged e value rest others later true false same older = cc
    one_aged e value rest others later false true same older = cc

    left_aged : (es left : Entries K C R O) → Leaves keeps es left → left ≡ aged bound es
    left_aged [] left l = l
    left_aged (e ∷ es) left (stays, value, kept, rest, more, is) =
        let own = known e.value stays value kept in
        is ∙ one_aged e value rest es (left_aged es rest more) (nat_lt e.value.age bound) stays own.0 own.1

    pub evicts : (es es' : Entries K C R O) → Retains keeps es es' → Evicts bound es es'
    evicts es es' r = subst (λ left. IsPermutation left es') (left_aged es r.0 r.1) r.2

module _ {K C R O : Type 0} (M : Meaning K C R O) where
  -- an entry that is legal is so at every age
  at_age : (e : Stored K C R (Kept O C)) (n : ℕ) → IsLegal M e → IsLegal M (record e { value = record e.value { age = n } })
  at_age e n legal = record { stands = legal.stands; reads = legal.reads; written = legal.written; settled = legal.settled }

  pub legal_touched : (key : K) (answers : List R) (es es' : Entries K C R O) → TouchesAt M.same_answer M.same_key key answers es es' → All (IsLegal M) es → All (IsLegal M) es'
  legal_touched key answers es es' (inl c) legal =
      let all = All-permutation (IsLegal M) es (c.entry ∷ c.others) (IsPermutation-sym (c.entry ∷ c.others) es c.before) legal in
      let own = subst (λ v. IsLegal M (record c.entry { value = v })) (sym c.left) (at_age c.entry 0 (All-head (IsLegal M) c.entry c.others all)) in
      All-permutation (IsLegal M) (record c.entry { value = c.value } ∷ c.others) es' c.after (All-cons (IsLegal M) (record c.entry { value = c.value }) c.others own (All-tail (IsLegal M) c.entry c.others all))
  legal_touched key answers es es' (inr none) legal = subst (λ xs. All (IsLegal M) xs) (sym none.1) legal

  pub legal_evicted : (bound : ℕ) (es es' : Entries K C R O) → Evicts bound es es' → All (IsLegal M) es → All (IsLegal M) es'
  legal_evicted bound es es' left legal =
      let young_ones = All-filter (λ (e : Stored K C R (Kept O C)). nat_lt e.value.age bound) (IsLegal M) es legal in
      let older = All-map (IsLegal M) older (filter (λ e. nat_lt e.value.age bound) es) (λ k d l. at_age (get_or (filter (λ e. nat_lt e.value.age bound) es) k d) ((get_or (filter (λ e. nat_lt e.value.age bound) es) k d).value.age + 1) (young_ones k d l)) in
      All-permutation (IsLegal M) (aged bound es) es' left older
