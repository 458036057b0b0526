-- What the sets of keys of an index have, and what they have after one of them changed.
use Rattle.std.proofs.Common.{◌≡◌, ◌∙◌, ◌<◌, ◌+◌, ℕ, Bool, true, false, cond, ◌&&◌, ◌||◌, not, List, [], ◌∷◌, length, get_or, drop, Option, None, Some, is_some, refl, sym, ap, inl, inr}
use Rattle.std.specs.Cmp.{IsEquivalence}
use Rattle.std.specs.HashMap.{HashMap, get}
use Rattle.std.specs.HashSet.{HashSet}
use Rattle.std.specs.Map.{lookup}
use Rattle.std.specs.Option.{option_map}
use Rattle.std.proofs.lemmas.Bool.{cases_Bool}
use Rattle.std.proofs.lemmas.List.{at_drop_more}
use Rattle.std.proofs.lemmas.Map.Made.{lookup-map_values}
use Rattle.comemo_base.specs.Sequence.{held, remaining}
use Rattle.comemo_dependents.specs.Dependents.{is_listed, rests_on}
use Rattle.comemo_dependents.specs.Lists.{index_of, is_in, lists_key}
use Rattle.comemo_dependents.proofs.Truths.{and-true, and-false}

-- equal keys find the same
pub lookup_alike : {K X : Type 0} {eq : K → K → Bool} (laws : IsEquivalence eq) (a b : K) → eq a b ≡ true → (es : List (K × X)) → lookup (eq a) es ≡ lookup (eq b) es
lookup_alike laws a b h [] = refl
lookup_alike {X = X} {eq} laws a b h (e ∷ es) =
    ap (λ t. cond t (Some e.1) (lookup (eq a) es)) (laws.congr a b e.0 h) ∙ ap (λ (o : Option X). cond (eq b e.0) (Some e.1) o) (lookup_alike laws a b h es)

-- a call is the first of the pairs, or among the others
pub held-cons : {C R : Type 0} (eq : C → C → Bool) (p : C × R) (ps : List (C × R)) (call : C) → held eq (p ∷ ps) call ≡ (eq call p.0 || held eq ps call)
held-cons {R = R} eq p ps call = either (eq call p.0) (lookup (eq call) ps)
  where
    either : (b : Bool) (o : Option R) → is_some (cond b (Some p.1) o) ≡ (b || is_some o)
    either true o = refl
    either false o = refl

module _ {C R : Type 0} (eq : C → C → Bool) (slots : List (Option (C × R))) (i : ℕ) (slot : Option (C × R)) (l : i < length slots) (is : slot ≡ get_or slots i slot) where
  -- the pair in a slot is the first of those that remain there
  pub held_slot : (p : C × R) → slot ≡ Some p → (call : C) → held eq (remaining (drop i slots)) call ≡ (eq call p.0 || held eq (remaining (drop (i + 1) slots)) call)
  held_slot p there call =
      at_drop_more (λ s. held eq (remaining s) call) slots i slot l ∙ ap (λ s. held eq (remaining (s ∷ drop (i + 1) slots)) call) (sym is ∙ there) ∙ held-cons eq p (remaining (drop (i + 1) slots)) call

is_listed-keys : {K S : Type 0} (eq : K → K → Bool) (o : Option (HashSet K S)) (k : K) → is_listed eq (option_map (λ (s : HashSet K S). s.keys) o) k ≡ is_in eq o k
is_listed-keys eq None k = refl
is_listed-keys eq (Some s) k = refl

module _ {K C S T : Type 0} (eqk : K → K → Bool) (eqc : C → C → Bool) where
  -- what a contract sees is what the sets have
  pub rests_on-index_of : (lists : HashMap C (HashSet K S) T) (k : K) (c : C) → rests_on eqk eqc (index_of lists) k c ≡ lists_key eqk eqc lists c k
  rests_on-index_of lists k c =
      ap (λ o. is_listed eqk o k) (lookup-map_values (λ (s : HashSet K S). s.keys) (eqc c) lists.entries) ∙ is_listed-keys eqk (get eqc lists c) k

module _ {K C S T : Type 0} {eqk : K → K → Bool} {eqc : C → C → Bool} (keys : IsEquivalence eqk) (calls : IsEquivalence eqc) (m n : HashMap C (HashSet K S) T) (call : C) (key : K) (o w : Option (HashSet K S)) (was : get eqc m call ≡ o) (is : (q : C) → get eqc n q ≡ cond (eqc call q) w (get eqc m q)) where
  -- the set of the call was o, and is w now
  at_call : (c : C) (k : K) → eqc c call ≡ true → (lists_key eqk eqc m c k ≡ is_in eqk o k) × (lists_key eqk eqc n c k ≡ is_in eqk w k)
  at_call c k e = (
    ap (λ x. is_in eqk x k) (lookup_alike calls c call e m.entries ∙ was),
    ap (λ x. is_in eqk x k) (is c ∙ ap (λ b. cond b w (get eqc m c)) (calls.symm call c ∙ e)),
  )

  -- the set of another call stays
  elsewhere : (c : C) (k : K) → eqc c call ≡ false → lists_key eqk eqc n c k ≡ lists_key eqk eqc m c k
  elsewhere c k e = ap (λ x. is_in eqk x k) (is c ∙ ap (λ b. cond b w (get eqc m c)) (calls.symm call c ∙ e))

  -- the key was put in
  pub linked : ((k : K) → is_in eqk w k ≡ cond (eqk key k) true (is_in eqk o k)) → (c : C) (k : K) → lists_key eqk eqc n c k ≡ ((eqc c call && eqk k key) || lists_key eqk eqc m c k)
  linked has c k = elim (cases_Bool (eqc c call)) [
    | inl e ↦ (let at = at_call c k e in
        at.1 ∙ has k ∙ ap (λ b. cond b true (is_in eqk o k)) (keys.symm key k) ∙ either (eqk k key) (is_in eqk o k) ∙ ap (λ l. eqk k key || l) (sym at.0) ∙ ap (λ x. (x && eqk k key) || lists_key eqk eqc m c k) (sym e))
    | inr e ↦ elsewhere c k e ∙ ap (λ x. (x && eqk k key) || lists_key eqk eqc m c k) (sym e)
  ]
    where
      either : (b x : Bool) → cond b true x ≡ (b || x)
      either true x = refl
      either false x = refl

  -- the key was taken out
  pub unlinked : ((k : K) → is_in eqk w k ≡ cond (eqk key k) false (is_in eqk o k)) → (c : C) (k : K) → lists_key eqk eqc n c k ≡ (lists_key eqk eqc m c k && not (eqc c call && eqk k key))
  unlinked has c k = elim (cases_Bool (eqc c call)) [
    | inl e ↦ (let at = at_call c k e in
        at.1 ∙ has k ∙ ap (λ b. cond b false (is_in eqk o k)) (keys.symm key k) ∙ without (eqk k key) (is_in eqk o k) ∙ ap (λ l. l && not (eqk k key)) (sym at.0) ∙ ap (λ x. lists_key eqk eqc m c k && not (x && eqk k key)) (sym e))
    | inr e ↦ elsewhere c k e ∙ and-true (lists_key eqk eqc m c k) ∙ ap (λ x. lists_key eqk eqc m c k && not (x && eqk k key)) (sym e)
  ]
    where
      without : (b x : Bool) → cond b false x ≡ (x && not b)
      without true x = and-false x
      without false x = and-true x
