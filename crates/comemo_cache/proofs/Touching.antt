-- What a touch does to the entry that a look-up found.
use Rattle.std.proofs.Common.{◌≡◌, ◌∙◌, ◌+◌, ℕ, ◌<◌, Bool, List, [], ◌∷◌, ◌++◌, IsTrue, get_or, length, take, remove, inl, inr, arith, sym, ap, subst}
use Rattle.std.proofs.lemmas.Bool.{cases_eq}
use Rattle.std.proofs.lemmas.List.{take_more}
use Rattle.std.proofs.lemmas.List.Sorted.{IsPermutation-remove, IsPermutation-sym, All-permutation}
use Rattle.std.specs.List.{All}
use Rattle.std.specs.List.Sorted.{IsPermutation}
use Rattle.std.specs.Cmp.{IsEquivalence}
use Rattle.comemo_base.specs.Answers.{Agrees}
use Rattle.comemo_base.specs.Tree.{Stored, IsSamePath, IsTree, Parts}
use Rattle.comemo_base.proofs.Paths.{turned, joined, get_or_same}
use Rattle.comemo_base.proofs.Under.{Any-from_under}
use Rattle.comemo_tree.specs.Change.{HasAnswers}
use Rattle.comemo_cache.specs.Meaning.{Meaning, Invocation, Run, invocation}
use Rattle.comemo_cache.specs.Cache.{Kept, Entries, HasAged, Touches, young}
use Rattle.comemo_cache.specs.Found.{TouchesFound}

module _ {C R : Type 0} (same : R → R → Bool) where
  -- a path that goes on has the next answer too
  has_next : (ps : List (C × R)) (rs : List R) (p : C × R) (r : R) → IsTrue (same p.1 r) → HasAnswers same ps rs → HasAnswers same (ps ++ p ∷ []) (rs ++ r ∷ [])
  has_next [] [] p r s h = (s, tt)
  has_next [] (x ∷ rs) p r s h = absurd h
  has_next (q ∷ ps) [] p r s h = absurd h
  has_next (q ∷ ps) (x ∷ rs) p r s h = (h.0, has_next ps rs p r s h.1)

  -- a loop's step: the answer of the pair at i comes to those before it
  pub has_more : (xs : List (C × R)) (i : ℕ) (p : C × R) (rs all : List R) (r : R) → i < length xs → p ≡ get_or xs i p → all ≡ rs ++ r ∷ [] → IsTrue (same p.1 r) → HasAnswers same (take i xs) rs → HasAnswers same (take (i + 1) xs) all
  has_more xs i p rs all r low is complete s h =
      let parts : take (i + 1) xs ≡ take i xs ++ p ∷ [] = take_more xs i p low ∙ ap (λ x. take i xs ++ x ∷ []) (sym is) in
      subst (λ ys. HasAnswers same (take (i + 1) xs) ys) (sym complete) (subst (λ ps. HasAnswers same ps (rs ++ r ∷ [])) (sym parts) (has_next (take i xs) rs p r s h))

module _ {C R : Type 0} (eq : C → C → Bool) {same : R → R → Bool} (answers : IsEquivalence same) where
  -- a path that is the same as one with these answers has them too
  has_same : (ps qs : List (C × R)) (rs : List R) → IsSamePath eq same ps qs → HasAnswers same ps rs → HasAnswers same qs rs
  has_same [] [] rs s h = h
  has_same [] (q ∷ qs) rs s h = absurd s
  has_same (p ∷ ps) [] rs s h = absurd s
  has_same (p ∷ ps) (q ∷ qs) [] s h = absurd h
  has_same (p ∷ ps) (q ∷ qs) (r ∷ rs) s h = (joined answers q.1 p.1 r (turned answers p.1 q.1 s.1) h.0, has_same ps qs rs s.2 h.1)

  -- paths with the same answers don't part
  not_parted : (ps qs : List (C × R)) (rs : List R) → HasAnswers same ps rs → HasAnswers same qs rs → Parts eq same ps qs → ⊥
  not_parted [] qs rs h k d = d
  not_parted (p ∷ ps) [] rs h k d = d
  not_parted (p ∷ ps) (q ∷ qs) [] h k d = h
  not_parted (p ∷ ps) (q ∷ qs) (r ∷ rs) h k d = not_parted ps qs rs h.1 k.1 (d.1 (joined answers p.1 r q.1 h.0 (turned answers q.1 r k.0)))

-- an entry of age 0 is as it was touched
pub young_touched : {K C R O : Type 0} (M : Meaning K C R O) (es : Entries K C R O) (call : Invocation K C R) (ran : Run K C R O) (age : ℕ) → age ≡ 0 → HasAged M es call ran age → Touches M es call es
young_touched M es call ran age none found =
    let h = Any-from_under M.same_key es call.key _ found in
    let own : young h.1 ≡ h.1 = ap (λ n. record h.1 { value = record h.1.value { age = n } }) (sym (h.4.1.1 ∙ none)) in
    let here = IsPermutation-sym es (h.1 ∷ remove es h.0) (IsPermutation-remove es h.0 h.1 h.2 (sym h.3)) in
    record {
      entry = h.1;
      others = remove es h.0;
      before = here;
      has_key = h.4.0;
      agrees = h.4.1.0.0;
      after = subst (λ x. IsPermutation (x ∷ remove es h.0) es) (sym own) here;
    }

module _ {K C R O : Type 0} (M : Meaning K C R O) (answers : IsEquivalence M.same_answer) (keys : IsEquivalence M.same_key) (es es' : Entries K C R O) (call : Invocation K C R) (tree : IsTree M.same_call M.same_answer M.same_key es) where
  -- an entry under the key that has the answers of one that agrees, agrees
  agrees_too : (i : ℕ) (e : Stored K C R (Kept O C)) → i < length es → get_or es i e ≡ e → IsTrue (M.same_key e.key call.key) → Agrees M.same_answer call.answers e.path → (rs : List R) → HasAnswers M.same_answer e.path rs → All (λ x. IsTrue (M.same_key x.key call.key) → HasAnswers M.same_answer x.path rs → Agrees M.same_answer call.answers x.path) es
  agrees_too i e l at key a rs h = λ j d m key' h'.
      let here : get_or es i d ≡ e = get_or_same es i d e l ∙ at in
      elim (cases_eq i j) [
        | inl is ↦ subst (λ n. Agrees M.same_answer call.answers (get_or es n d).path) is (subst (λ x. Agrees M.same_answer call.answers x.path) (sym here) a)
        | inr differ ↦
            let alike = subst (λ x. IsTrue (M.same_key x.key (get_or es j d).key)) (sym here) (joined keys e.key call.key (get_or es j d).key key (turned keys (get_or es j d).key call.key key')) in
            absurd (not_parted M.same_call answers (get_or es i d).path (get_or es j d).path rs (subst (λ x. HasAnswers M.same_answer x.path rs) (sym here) h) h' (tree.parted i j d l m differ alike))
      ]

  -- what a touch by the answers of a path that was found does
  pub touched_by : (ran : Run K C R O) (age : ℕ) → HasAged M es call ran age → TouchesFound M.same_answer M.same_key call.key ran.pairs age es es' → Touches M es call es'
  touched_by ran age found (inl old) = subst (λ xs. Touches M es call xs) (sym old.1) (young_touched M es call ran age old.0 found)
  touched_by ran age found (inr (rs, has, inl changes)) =
      let h = Any-from_under M.same_key es call.key _ found in
      let own = has_same M.same_call answers ran.pairs h.1.path rs h.4.1.0.1 has in
      let all = All-permutation (λ x. IsTrue (M.same_key x.key call.key) → HasAnswers M.same_answer x.path rs → Agrees M.same_answer call.answers x.path) es (changes.entry ∷ changes.others) (IsPermutation-sym (changes.entry ∷ changes.others) es changes.before) (agrees_too h.0 h.1 h.2 h.3 h.4.0 h.4.1.0.0 rs own) in
      record {
        entry = changes.entry;
        others = changes.others;
        before = changes.before;
        has_key = changes.under_key;
        agrees = all 0 changes.entry (omega arith) changes.under_key changes.has_answers;
        after = subst (λ v. IsPermutation (record changes.entry { value = v } ∷ changes.others) es') changes.left changes.after;
      }
  touched_by ran age found (inr (rs, has, inr absent)) =
      absurd (absent.0 found.0 found.1 found.2 (subst (λ x. HasAnswers M.same_answer x.path rs) (sym found.3) (has_same M.same_call answers ran.pairs found.1.path rs found.4.0.1 has)))

-- a touch for a call is one for a call with an equal key
pub Touches-alike : {K C R O : Type 0} (M : Meaning K C R O) → IsEquivalence M.same_key → (es es' : Entries K C R O) (j k : K) → IsTrue (M.same_key j k) → (m : C → R) (b c : Bool) → Touches M es (invocation j m b) es' → Touches M es (invocation k m c) es'
Touches-alike M keys es es' j k alike m b c touched = record {
  entry = touched.entry;
  others = touched.others;
  before = touched.before;
  has_key = joined keys touched.entry.key j k touched.has_key alike;
  agrees = touched.agrees;
  after = touched.after;
}
