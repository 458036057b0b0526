-- What the keys that are reached have so far, and what stays where a key isn't reached.
use Rattle.std.proofs.Common.{◌≡◌, ◌∙◌, ◌<◌, ◌≤◌, ◌+◌, ℕ, Bool, true, false, ◌||◌, not, List, [], ◌∷◌, length, get_or, drop, None, Some, Bor, refl, sym, ap, inl, inr}
use Rattle.std.specs.Cmp.{IsEquivalence}
use Rattle.std.specs.HashMap.{HashMap, get}
use Rattle.std.specs.HashSet.{HashSet, PutsKey, contains, contains_by}
use Rattle.std.specs.List.{list_any}
use Rattle.std.proofs.lemmas.Bool.{cases_Bool, not-false, or_cases, or_left, or_right}
use Rattle.std.proofs.lemmas.List.{at_drop_all, at_drop_more}
use Rattle.std.proofs.lemmas.List.Sorted.{list_any-IsPermutation}
use Rattle.comemo_dependents.specs.Dependents.{KeepsAnswers, is_listed, rests_on, rests_on_one}
use Rattle.comemo_dependents.specs.Lists.{index_of, is_in}
use Rattle.comemo_dependents.proofs.Listing.{lookup_alike, rests_on-index_of}
use Rattle.comemo_dependents.proofs.Truths.{take_step}

-- a key is among these references
abbrev pub has_key : {K S : Type 0} → (K → K → Bool) → HashSet (Bor K) S → K → Bool
has_key eq reached key = contains_by (λ r. eq key r.now) reached

-- the keys of a set that are taken in, and those that are left, beside what was there
pub record Taken {K S : Type 0} (eq : K → K → Bool) (first now : HashSet (Bor K) S) (left all : List K) : Type 0 where
  pub same : (k : K) → (has_key eq now k || list_any (eq k) left) ≡ (has_key eq first k || list_any (eq k) all)

-- the keys of the calls so far, and those of the calls that are left
pub record Reached {K C S : Type 0} (eqk : K → K → Bool) (eqc : C → C → Bool) (index : List (C × List K)) (now : HashSet (Bor K) S) (left all : List C) : Type 0 where
  pub same : (k : K) → (has_key eqk now k || rests_on_one eqk eqc index k left) ≡ rests_on_one eqk eqc index k all

any_alike : {K : Type 0} {eq : K → K → Bool} (laws : IsEquivalence eq) (a b : K) → eq a b ≡ true → (rs : List (Bor K)) → list_any (λ r. eq a r.now) rs ≡ list_any (λ r. eq b r.now) rs
any_alike laws a b h [] = refl
any_alike {K} {eq} laws a b h (r ∷ rs) =
    ap (λ x. x || list_any (λ (q : Bor K). eq a q.now) rs) (laws.congr a b r.now h) ∙ ap (λ x. eq b r.now || x) (any_alike laws a b h rs)

module _ {K S : Type 0} {eq : K → K → Bool} (laws : IsEquivalence eq) where
  -- a reference was put in
  pub has_more : (s n : HashSet (Bor K) S) (key : Bor K) (added : Bool) → added ≡ not (contains (λ (x y : Bor K). eq x.now y.now) s key) → PutsKey s n key added → (k : K) → has_key eq n k ≡ (eq k key.now || has_key eq s k)
  has_more s n key true new puts k = sym (list_any-IsPermutation (λ (r : Bor K). eq k r.now) (key ∷ s.keys) n.keys puts)
  has_more s n key false new puts k = ap (λ ks. list_any (λ (r : Bor K). eq k r.now) ks) puts ∙ elim (cases_Bool (eq k key.now)) [
    | inl e ↦ (any_alike laws k key.now e s.keys ∙ not-false _ (sym new)) ∙ ap (λ b. b || has_key eq s k) (sym e)
    | inr e ↦ ap (λ b. b || has_key eq s k) (sym e)
  ]

  pub Taken-step : (first now next : HashSet (Bor K) S) (left rest all : List K) (key : Bor K) (added : Bool) → Taken eq first now left all → left ≡ key.now ∷ rest → added ≡ not (contains (λ (x y : Bor K). eq x.now y.now) now key) → PutsKey now next key added → Taken eq first next rest all
  Taken-step first now next left rest all key added so_far parts new puts = record {
    same = λ k.
        ap (λ x. x || list_any (eq k) rest) (has_more now next key added new puts k) ∙ take_step (has_key eq now k) (eq k key.now) (list_any (eq k) rest) ∙ ap (λ ks. has_key eq now k || list_any (eq k) ks) (sym parts) ∙ so_far.same k;
  }

module _ {K C S T U : Type 0} {eqk : K → K → Bool} {eqc : C → C → Bool} (lists : HashMap C (HashSet K S) T) (calls : List C) (i : ℕ) (call : C) (l : i < length calls) (is : call ≡ get_or calls i call) (now : HashSet (Bor K) U) (so_far : Reached eqk eqc (index_of lists) now (drop i calls) calls) where
  part : (k : K) → rests_on_one eqk eqc (index_of lists) k (drop i calls) ≡ (is_in eqk (get eqc lists call) k || rests_on_one eqk eqc (index_of lists) k (drop (i + 1) calls))
  part k =
      let rest = rests_on_one eqk eqc (index_of lists) k (drop (i + 1) calls) in
      at_drop_more (rests_on_one eqk eqc (index_of lists) k) calls i call l ∙ ap (λ c. rests_on eqk eqc (index_of lists) k c || rest) (sym is) ∙ ap (λ b. b || rest) (rests_on-index_of eqk eqc lists k call)

  pub Reached-step : (next : HashSet (Bor K) U) (keys : HashSet K S) → get eqc lists call ≡ Some keys → ((k : K) → has_key eqk next k ≡ (has_key eqk now k || contains eqk keys k)) → Reached eqk eqc (index_of lists) next (drop (i + 1) calls) calls
  Reached-step next keys there more = record {
    same = λ k.
        let rest = rests_on_one eqk eqc (index_of lists) k (drop (i + 1) calls) in
        ap (λ x. x || rest) (more k) ∙ turned (has_key eqk now k) (contains eqk keys k) rest ∙ ap (λ o. has_key eqk now k || (is_in eqk o k || rest)) (sym there) ∙ ap (λ x. has_key eqk now k || x) (sym (part k)) ∙ so_far.same k;
  }
    where
      turned : (a b c : Bool) → ((a || b) || c) ≡ (a || (b || c))
      turned true b c = refl
      turned false b c = refl

  pub Reached-skip : get eqc lists call ≡ None → Reached eqk eqc (index_of lists) now (drop (i + 1) calls) calls
  Reached-skip none = record {
    same = λ k.
        ap (λ o. has_key eqk now k || (is_in eqk o k || rests_on_one eqk eqc (index_of lists) k (drop (i + 1) calls))) (sym none) ∙ ap (λ x. has_key eqk now k || x) (sym (part k)) ∙ so_far.same k;
  }

-- all keys were taken in
pub Reached-end : {K C U : Type 0} {eqk : K → K → Bool} {eqc : C → C → Bool} (index : List (C × List K)) (now : HashSet (Bor K) U) (calls : List C) (i : ℕ) → length calls ≤ i → Reached eqk eqc index now (drop i calls) calls → (k : K) → has_key eqk now k ≡ rests_on_one eqk eqc index k calls
Reached-end {eqk = eqk} {eqc} index now calls i end so_far k = or_none (has_key eqk now k) ∙ ap (λ b. has_key eqk now k || b) (sym (at_drop_all (rests_on_one eqk eqc index k) calls i end)) ∙ so_far.same k
  where
    or_none : (b : Bool) → b ≡ (b || false)
    or_none true = refl
    or_none false = refl

module _ {K C : Type 0} (eqk : K → K → Bool) {eqc : C → C → Bool} (same_call : IsEquivalence eqc) (index : List (C × List K)) (key : K) where
  -- a key that rests on one of the calls is found by an equal call
  by_call : (call : C) (calls : List C) → list_any (eqc call) calls ≡ true → rests_on eqk eqc index key call ≡ true → rests_on_one eqk eqc index key calls ≡ true
  by_call call [] h rests = h
  by_call call (c ∷ calls) h rests = elim (or_cases (eqc call c) (list_any (eqc call) calls) h) [
    | inl e ↦ or_left (rests_on eqk eqc index key c) (rests_on_one eqk eqc index key calls) (ap (λ o. is_listed eqk o key) (sym (lookup_alike same_call call c e index)) ∙ rests)
    | inr e ↦ or_right (rests_on eqk eqc index key c) (rests_on_one eqk eqc index key calls) (by_call call calls e rests)
  ]

  pub unreached : (calls : List C) → rests_on_one eqk eqc index key calls ≡ false → KeepsAnswers eqc calls (rests_on eqk eqc index key)
  unreached calls none keeps kept call rests = elim (cases_Bool (list_any (eqc call) calls)) [
    | inl e ↦ (let two : true ≡ false = sym (by_call call calls e rests) ∙ none in cc)
    | inr e ↦ kept call e
  ]
