-- What the loops over reads and over calls keep.
use Rattle.std.proofs.Common.{◌≡◌, ◌∙◌, ◌<◌, ◌+◌, ℕ, Bool, true, ◌&&◌, ◌||◌, not, List, length, get_or, drop, Option, Some, sym, ap}
use Rattle.std.specs.Cmp.{IsEquivalence}
use Rattle.std.specs.HashMap.{HashMap}
use Rattle.std.specs.HashSet.{HashSet}
use Rattle.std.specs.List.{list_any}
use Rattle.comemo_base.specs.Sequence.{held, remaining}
use Rattle.comemo_dependents.specs.Lists.{lists_key}
use Rattle.comemo_dependents.proofs.Listing.{held_slot}
use Rattle.comemo_dependents.proofs.Truths.{link_step}

-- keys that are equal to equal keys
pub alike_right : {K : Type 0} {eq : K → K → Bool} (laws : IsEquivalence eq) (x y z : K) → eq x y ≡ true → eq z y ≡ eq z x
alike_right laws x y z h = laws.symm z y ∙ sym (laws.congr x y z h) ∙ laws.symm x z

-- the clones of the calls so far, and the calls in the slots that are left, are those in all slots
pub record Copied {C R : Type 0} (eq : C → C → Bool) (clones : List C) (left all : List (Option (C × R))) : Type 0 where
  pub same : (call : C) → (list_any (eq call) clones || held eq (remaining left) call) ≡ held eq (remaining all) call

-- the key is in the sets of the calls so far: all that is new in n, beside m
pub record Linked {K C R S T : Type 0} (eqk : K → K → Bool) (eqc : C → C → Bool) (m n : HashMap C (HashSet K S) T) (key : K) (left all : List (Option (C × R))) : Type 0 where
  pub same : (c : C) (k : K) → (lists_key eqk eqc n c k || (eqk k key && held eqc (remaining left) c)) ≡ (lists_key eqk eqc m c k || (eqk k key && held eqc (remaining all) c))

-- the key is in no set of the calls so far: all that is gone in n, beside m
pub record Unlinked {K C S T : Type 0} (eqk : K → K → Bool) (eqc : C → C → Bool) (m n : HashMap C (HashSet K S) T) (key : K) (left all : List C) : Type 0 where
  pub same : (c : C) (k : K) → (lists_key eqk eqc n c k && not (eqk k key && list_any (eqc c) left)) ≡ (lists_key eqk eqc m c k && not (eqk k key && list_any (eqc c) all))

module _ {K C R S T : Type 0} {eqk : K → K → Bool} {eqc : C → C → Bool} (keys : IsEquivalence eqk) (slots : List (Option (C × R))) (i : ℕ) (slot : Option (C × R)) (l : i < length slots) (is : slot ≡ get_or slots i slot) where
  pub Linked-step : (first now : HashMap C (HashSet K S) T) (key : K) → Linked eqk eqc first now key (drop i slots) slots → (next : HashMap C (HashSet K S) T) (p : C × R) (own : K) → slot ≡ Some p → eqk key own ≡ true → ((c : C) (k : K) → lists_key eqk eqc next c k ≡ ((eqc c p.0 && eqk k own) || lists_key eqk eqc now c k)) → Linked eqk eqc first next key (drop (i + 1) slots) slots
  Linked-step first now key so_far next p own there equal put = record {
    same = λ c k.
        let rest = held eqc (remaining (drop (i + 1) slots)) c in
        let old = lists_key eqk eqc now c k in
        ap (λ x. x || (eqk k key && rest)) (put c k ∙ ap (λ b. (eqc c p.0 && b) || old) (alike_right keys key own k equal)) ∙ link_step (eqc c p.0) (eqk k key) old rest ∙ ap (λ h. old || (eqk k key && h)) (sym (held_slot eqc slots i slot l is p there c)) ∙ so_far.same c k;
  }
