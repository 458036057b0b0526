-- What stays where a change doesn't reach.
use Rattle.std.proofs.Common.{◌≡◌, ◌∙◌, ◌<◌, ℕ, Bool, true, false, ◌||◌, List, [], ◌∷◌, length, get_or, sym, ap, subst, inl, inr, IsTrue}
use Rattle.std.specs.Cmp.{IsEquivalence}
use Rattle.std.specs.List.{All, Any}
use Rattle.std.proofs.lemmas.Bool.{cases_Bool}
use Rattle.comemo_base.specs.Answers.{Agrees}
use Rattle.comemo_base.specs.Lookup.{under}
use Rattle.comemo_base.specs.Tree.{Stored}
use Rattle.comemo_base.proofs.Paths.{turned, joined, get_or_same}
use Rattle.comemo_base.proofs.Under.{Any-under, Any-from_under}
use Rattle.comemo_tree.specs.Reach.{is_one, asks_one}
use Rattle.comemo_cache.specs.Meaning.{Meaning, Run, invocation}
use Rattle.comemo_cache.specs.Cache.{Kept, Entries, FunctionLaws, IsLegal, IsEntryOf, HasAged}
use Rattle.comemo_cache.specs.Reaching.{DiffersAt, StaysUnreached}

module _ {C R : Type 0} (eq : C → C → Bool) {same : R → R → Bool} (answers : IsEquivalence same) (calls : List C) where
  DiffersAt-turned : (m n : C → R) → DiffersAt eq same calls m n → DiffersAt eq same calls n m
  DiffersAt-turned m n d = λ call h. turned answers (m call) (n call) (d call h)

  -- answers that differ at none of the asked calls agree alike
  Agrees-unreached : (m n : C → R) → DiffersAt eq same calls m n → (ps : List (C × R)) → asks_one eq calls ps ≡ false → Agrees same m ps → Agrees same n ps
  Agrees-unreached m n d [] none a = tt
  Agrees-unreached m n d (p ∷ ps) none a = elim (cases_Bool (is_one eq calls p.0)) [
    | inl b ↦ (let two : true ≡ false = sym (ap (λ x. x || asks_one eq calls ps) b) ∙ none in cc)
    | inr b ↦ (let rest : asks_one eq calls ps ≡ false = sym (ap (λ x. x || asks_one eq calls ps) b) ∙ none in
        (joined answers (n p.0) (m p.0) p.1 (turned answers (m p.0) (n p.0) (d p.0 b)) a.0, Agrees-unreached m n d ps rest a.1))
  ]

module _ {K C R O B : Type 0} (M : Meaning K C R O) (answers : IsEquivalence M.same_answer) (keys : IsEquivalence M.same_key) {key_clone : K → K → Type 0} (laws : FunctionLaws M.same_call M.same_answer M.same_key key_clone M.is_clone M.right) (calls : List C) (es : Entries K C R O) (legal : All (IsLegal M) es) (shown : B → K) (found : List B) (all : All (λ e. IsTrue (asks_one M.same_call calls e.path) → Any (λ k. IsTrue (M.same_key e.key (shown k))) found) es) (key : K) (none : All (λ k. M.same_key key (shown k) ≡ false) found) where
  -- the entry asks none of the calls
  asks_none : (i : ℕ) (e : Stored K C R (Kept O C)) → i < length es → get_or es i e ≡ e → IsTrue (M.same_key e.key key) → asks_one M.same_call calls e.path ≡ false
  asks_none i e l at k = elim (cases_Bool (asks_one M.same_call calls e.path)) [
    | inl b ↦ (let a = all i e l (ap (λ (x : Stored K C R (Kept O C)). asks_one M.same_call calls x.path) at ∙ b) in
        let own : IsTrue (M.same_key e.key (shown a.1)) = ap (λ (x : Stored K C R (Kept O C)). M.same_key x.key (shown a.1)) (sym at) ∙ a.4 in
        let there = joined keys key e.key (shown a.1) (turned keys e.key key k) own in
        let other : M.same_key key (shown a.1) ≡ false = ap (λ x. M.same_key key (shown x)) (sym a.3) ∙ none a.0 a.1 a.2 in
        let two : true ≡ false = sym there ∙ other in
        cc)
    | inr b ↦ b
  ]

  any_moved : (P Q : Stored K C R (Kept O C) → Type 0) → ((e : Stored K C R (Kept O C)) → asks_one M.same_call calls e.path ≡ false → P e → Q e) → Any P (under M.same_key es key) → Any Q (under M.same_key es key)
  any_moved P Q f h =
      let a = Any-from_under M.same_key es key P h in
      Any-under M.same_key es key Q (a.0, a.1, a.2, a.3, (a.4.0, f a.1 (asks_none a.0 a.1 a.2 a.3 a.4.0) a.4.1))

  hit : (m n : C → R) → DiffersAt M.same_call M.same_answer calls m n → (ran : Run K C R O) (age : ℕ) → HasAged M es (invocation key m true) ran age → HasAged M es (invocation key n true) ran age
  hit m n d ran age h =
      any_moved (λ e. IsEntryOf M m ran e × (e.value.age ≡ age)) (λ e. IsEntryOf M n ran e × (e.value.age ≡ age)) (λ e free is. ((Agrees-unreached M.same_call answers calls m n d e.path free is.0.0, is.0.1, is.0.2, is.0.3), is.1)) h

  pub unreached : StaysUnreached M calls es key
  unreached = record {
    hit = hit;
    miss = λ m n d h k e l a. (let us = under M.same_key es key in
        let own = get_or us k e in
        let one : Any (λ (x : Stored K C R (Kept O C)). Agrees M.same_answer n x.path) us = (k, own, l, get_or_same us k own e l, a) in
        let two = any_moved (λ x. Agrees M.same_answer n x.path) (λ x. Agrees M.same_answer m x.path) (λ x free is. Agrees-unreached M.same_call answers calls n m (DiffersAt-turned M.same_call answers calls m n d) x.path free is) one in
        h two.0 two.1 two.2 (subst (λ (x : Stored K C R (Kept O C)). Agrees M.same_answer m x.path) (sym two.3) two.4));
    right = λ m n d r ran age h. (let a = Any-from_under M.same_key es key _ (hit m n d ran age h) in
        let e = a.1 in
        let is = a.4.1.0 in
        let own : IsLegal M e = subst (λ x. IsLegal M x) a.3 (legal a.0 e a.2) in
        laws.writes key n ran.output e.value.writes ran.writes r is.3 (laws.outputs key n e.value.output ran.output e.value.writes r is.2 (laws.keys e.key key n e.value.output e.value.writes r a.4.0 (own.stands n r is.0))));
  }
