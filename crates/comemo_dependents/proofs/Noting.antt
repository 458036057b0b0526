-- What an index has after a key was taken out, and after reads were noted of it.
use Rattle.std.proofs.Common.{◌≡◌, ◌∙◌, Bool, true, false, cond, ◌&&◌, ◌||◌, not, List, None, Some, sym, ap, inl, inr}
use Rattle.std.specs.Cmp.{IsEquivalence}
use Rattle.std.specs.Global.{Vec}
use Rattle.std.specs.HashMap.{HashMap, get}
use Rattle.std.specs.HashSet.{HashSet}
use Rattle.std.specs.List.{list_any}
use Rattle.std.proofs.lemmas.Bool.{cases_Bool}
use Rattle.std.specs.Map.{lookup}
use Rattle.comemo_dependents.specs.Dependents.{Forgets, rests_on}
use Rattle.comemo_dependents.specs.Lists.{AreNoted, index_of, is_noted, lists_key}
use Rattle.comemo_dependents.proofs.Listing.{lookup_alike, rests_on-index_of}
use Rattle.comemo_dependents.proofs.Truths.{forget_step, note_step, or_false, same_unless}

module _ {K C S T U : Type 0} {eqk : K → K → Bool} {eqc : C → C → Bool} (keys : IsEquivalence eqk) (m n : HashMap C (HashSet K S) T) (calls later : HashMap K (Vec C) U) (noted : AreNoted eqk eqc m calls) (key : K) where
  module _ (taken : (c : C) (k : K) → lists_key eqk eqc n c k ≡ (lists_key eqk eqc m c k && not (eqk k key && is_noted eqc (get eqk calls key) c))) where
    -- the key was in the sets of its calls only
    was_noted : (c : C) (k : K) → eqk k key ≡ true → lists_key eqk eqc m c k ≡ true → is_noted eqc (get eqk calls key) c ≡ true
    was_noted c k e h = ap (λ o. is_noted eqc o c) (sym (lookup_alike keys k key e calls.entries)) ∙ noted.noted c k h

    -- it is in no set now, and each other key in those where it was
    pub forgot : (k : K) (c : C) → lists_key eqk eqc n c k ≡ cond (eqk k key) false (lists_key eqk eqc m c k)
    forgot k c = taken c k ∙ forget_step (lists_key eqk eqc m c k) (eqk k key) (is_noted eqc (get eqk calls key) c) (was_noted c k)

  -- a key that was in no set was put in the sets of some of these calls, which were noted of it
  pub noted_more : (own : K) (v : Vec C) (asks : C → Bool) → eqk key own ≡ true → ((c : C) → list_any (eqc c) v.items ≡ asks c) → ((k : K) → get eqk later k ≡ cond (eqk own k) (Some v) (get eqk calls k)) → ((k : K) (c : C) → eqk k key ≡ true → lists_key eqk eqc m c k ≡ false) → ((c : C) (k : K) → lists_key eqk eqc n c k ≡ true → (lists_key eqk eqc m c k || (eqk k key && asks c)) ≡ true) → AreNoted eqk eqc n later
  noted_more own v asks clone has put free within = record {
    noted = λ c k h. elim (cases_Bool (eqk k key)) [
      | inl e ↦ (let here : eqk own k ≡ true = sym (keys.congr key own k clone) ∙ keys.symm key k ∙ e in
          let asked : asks c ≡ true = sym (ap (λ b. b || (eqk k key && asks c)) (free k c e) ∙ ap (λ b. b && asks c) e) ∙ within c k h in
          ap (λ o. is_noted eqc o c) (put k ∙ ap (λ b. cond b (Some v) (get eqk calls k)) here) ∙ has c ∙ asked)
      | inr e ↦ (let here : eqk own k ≡ false = sym (keys.congr key own k clone) ∙ keys.symm key k ∙ e in
          let was : lists_key eqk eqc m c k ≡ true = sym (or_false (eqk k key) (lists_key eqk eqc m c k) (asks c) e) ∙ within c k h in
          ap (λ o. is_noted eqc o c) (put k ∙ ap (λ b. cond b (Some v) (get eqk calls k)) here) ∙ noted.noted c k was)
    ];
  }

module _ {K C S T : Type 0} (eqk : K → K → Bool) (eqc : C → C → Bool) (key : K) where
  pub Forgets-index_of : (m n : HashMap C (HashSet K S) T) → ((k : K) (c : C) → lists_key eqk eqc n c k ≡ cond (eqk k key) false (lists_key eqk eqc m c k)) → Forgets eqk eqc key (index_of m) (index_of n)
  Forgets-index_of m n forgot k c = rests_on-index_of eqk eqc n k c ∙ forgot k c ∙ ap (λ l. cond (eqk k key) false l) (sym (rests_on-index_of eqk eqc m k c))

  -- the key was taken out of an index, whose sets are these now
  module _ (old new : List (C × List K)) (lists : HashMap C (HashSet K S) T) (shown : index_of lists ≡ new) (forgets : Forgets eqk eqc key old new) where
    lists_after : (c : C) (k : K) → lists_key eqk eqc lists c k ≡ cond (eqk k key) false (rests_on eqk eqc old k c)
    lists_after c k = sym (rests_on-index_of eqk eqc lists k c) ∙ ap (λ index. rests_on eqk eqc index k c) shown ∙ forgets k c

    pub free_after : (k : K) (c : C) → eqk k key ≡ true → lists_key eqk eqc lists c k ≡ false
    free_after k c e = lists_after c k ∙ ap (λ b. cond b false (rests_on eqk eqc old k c)) e

    -- it was put in the sets of the calls of which the test holds
    pub noted_after : (next : HashMap C (HashSet K S) T) (asks : C → Bool) → ((c : C) (k : K) → lists_key eqk eqc next c k ≡ (lists_key eqk eqc lists c k || (eqk k key && asks c))) → (k : K) (c : C) → rests_on eqk eqc (index_of next) k c ≡ cond (eqk k key) (asks c) (rests_on eqk eqc old k c)
    noted_after next asks put k c = rests_on-index_of eqk eqc next k c ∙ put c k ∙ ap (λ l. l || (eqk k key && asks c)) (lists_after c k) ∙ note_step (eqk k key) (rests_on eqk eqc old k c) (asks c)

    -- it was put in some of them, and taken out again
    pub forgets_again : (next : HashMap C (HashSet K S) T) (last : List (C × List K)) → ((c : C) (k : K) → eqk k key ≡ false → lists_key eqk eqc next c k ≡ lists_key eqk eqc lists c k) → Forgets eqk eqc key (index_of next) last → Forgets eqk eqc key old last
    forgets_again next last others again k c =
        again k c ∙ same_unless (eqk k key) (rests_on eqk eqc (index_of next) k c) (rests_on eqk eqc old k c) (λ e. rests_on-index_of eqk eqc next k c ∙ others c k e ∙ lists_after c k ∙ ap (λ b. cond b false (rests_on eqk eqc old k c)) e)
