-- From the nodes that were added to the clauses of an insertion.
use Rattle.std.proofs.Common.{◌≡◌, ◌∙◌, ℕ, Bool, true, false, not, is_some, List, [], ◌∷◌, ◌++◌, length, Some, None, Result, Ok, Err, IfErr, refl, sym, ap, subst, inl, inr, arith, IsTrue, append_assoc, length-append}
use Rattle.std.specs.Prelude.{option_map, IsErrAnd}
use Rattle.std.specs.Cmp.{IsEquivalence}
use Rattle.std.specs.HashMap.{HashMap, get}
use Rattle.std.specs.HashMap.Eq.{lookup_congr}
use Rattle.std.specs.List.{filter}
use Rattle.std.specs.Map.{lookup}
use Rattle.std.proofs.lemmas.Bool.{cases_Bool}
use Rattle.slab.specs.Slab as slab
use Rattle.comemo_base.specs.Sequence.{HasDistinctCalls}
use Rattle.comemo_base.specs.Tree.{Stored, IsSamePath}
use Rattle.comemo_base.specs.Lookup.{under}
use Rattle.comemo_base.specs.Insertion.{outside, AllAmong, LacksNextCall, Exists, Misses, IsStem}
use Rattle.comemo_base.proofs.Under.{under-none, none-from_nothing}
use Rattle.comemo_base.proofs.Steps.{outside-nothing, AllAmong-same}
use Rattle.comemo_base.specs.Insertion.{Adds}
use Rattle.comemo_tree.specs.Growth.{CanGrow, Grown}
use Rattle.comemo_tree.specs.Nodes.{LeadsFrom, contents, IsForest, Forks}
use Rattle.comemo_tree.specs.declared.children.Node.TheVariants.{Inner}
use Rattle.comemo_tree.specs.declared.tree.InnerNode.{InnerNode}
use Rattle.comemo_tree.specs.declared.tree.LeafNode.{LeafNode}
use Rattle.comemo_tree.specs.declared.tree.Start.{Start}
use Rattle.comemo_tree.proofs.Forest.{first_alike, all_entries, refused_at, IsSamePath-itself, IsSamePath-push}
use Rattle.comemo_tree.proofs.Walks.{same_length}

-- what holds of an error holds of the error that it is passed on as
pub IfErr-passed : {A E : Type 0} (r : Result A E) (e : E) (Q : E → Type 0) → IsErrAnd r (λ x. x ≡ e) → Q e → IfErr r Q
IfErr-passed (Ok x) e Q h q = tt
IfErr-passed (Err x) e Q h q = subst Q (sym h) q

module _ {C : Type 0} {eq : C → C → Bool} (calls : IsEquivalence eq) where
  -- equal calls pass the same test
  turned_test : (c a b : C) → IsTrue (eq a b) → eq c a ≡ eq c b
  turned_test c a b e = calls.symm c a ∙ calls.congr a b c e ∙ calls.symm b c

module _ {C R : Type 0} {eq : C → C → Bool} (calls : IsEquivalence eq) (same : R → R → Bool) where
  held_same : (c : C) (xs ys : List (C × R)) → IsSamePath eq same xs ys → is_some (lookup (eq c) xs) ≡ is_some (lookup (eq c) ys)
  held_same c [] [] h = refl
  held_same c [] (y ∷ ys) h = absurd h
  held_same c (x ∷ xs) [] h = absurd h
  held_same c (x ∷ xs) (y ∷ ys) h =
      let test : eq c x.0 ≡ eq c y.0 = turned_test calls c x.0 y.0 h.0 in
      elim (cases_Bool (eq c x.0)) [
        | inl t ↦ let u : eq c y.0 ≡ true = sym test ∙ t in rw (t, u) refl
        | inr f ↦ let u : eq c y.0 ≡ false = sym test ∙ f in rw (f, u) (held_same c xs ys h.2)
      ]

  -- equal paths leave the same pairs outside
  outside-same : (xs ys s : List (C × R)) → IsSamePath eq same xs ys → outside eq xs s ≡ outside eq ys s
  outside-same xs ys s h = λ i. filter (λ p. not (held_same p.0 xs ys h i)) s

  none_moved : (a b : C) → IsTrue (eq a b) → (xs ys zs : List (C × R)) → IsSamePath eq same xs ys → lookup (eq a) (xs ++ zs) ≡ None → lookup (eq b) (ys ++ zs) ≡ None
  none_moved a b e [] [] zs h n = sym (lookup_congr eq calls.congr zs a b e) ∙ n
  none_moved a b e [] (y ∷ ys) zs h n = absurd h
  none_moved a b e (x ∷ xs) [] zs h n = absurd h
  none_moved a b e (x ∷ xs) (y ∷ ys) zs h n =
      let test : eq b y.0 ≡ eq a x.0 = sym (calls.congr a b y.0 e) ∙ sym (turned_test calls a x.0 y.0 h.0) in
      elim (cases_Bool (eq a x.0)) [
        | inl t ↦ let no : Some x.1 ≡ None = rw t at n in cc
        | inr f ↦ let u : eq b y.0 ≡ false = test ∙ f in rw u (none_moved a b e xs ys zs h.2 (rw f at n))
      ]

  distinct_moved : (xs ys zs : List (C × R)) → IsSamePath eq same xs ys → HasDistinctCalls eq (xs ++ zs) → HasDistinctCalls eq (ys ++ zs)
  distinct_moved [] [] zs h d = d
  distinct_moved [] (y ∷ ys) zs h d = absurd h
  distinct_moved (x ∷ xs) [] zs h d = absurd h
  distinct_moved (x ∷ xs) (y ∷ ys) zs h d = (none_moved x.0 y.0 h.0 xs ys zs h.2 d.0, distinct_moved xs ys zs h.2 d.1)

module _ {C R : Type 0} {eq : C → C → Bool} {same : R → R → Bool} (calls : IsEquivalence eq) (answers : IsEquivalence same) {K T S : Type 0} {eqk : K → K → Bool} (keys : IsEquivalence eqk) {inner : slab.Slab (InnerNode C R)} {leaves : slab.Slab (LeafNode K T)} {starts : HashMap K Start S} (forest : IsForest eq same eqk None inner leaves starts) (key : K) (s : List (C × R)) where
  -- ---- a key that the tree lacks
  module _ (none : get eqk starts key ≡ None) where
    nothing_under : under eqk (contents inner leaves) key ≡ []
    nothing_under = under-none eqk (contents inner leaves) key (all_entries inner leaves (λ (e : Stored K C R T). ¬ IsTrue (eqk e.key key)) (λ at leaf e k.
        let lead = forest.led at leaf e in
        let no : Some lead.0 ≡ None = sym lead.1 ∙ first_alike keys starts leaf.key.value key k ∙ ap (option_map (λ (start : Start). start.first)) none in
        cc))

    pub not_Exists-new : ¬ Exists eq same (under eqk (contents inner leaves) key) s
    not_Exists-new some = none-from_nothing (λ (e : Stored K C R T). AllAmong eq same s e.path) nothing_under some

    pub not_Misses-new : ¬ Misses eq same (under eqk (contents inner leaves) key) s
    not_Misses-new some = none-from_nothing (λ (e : Stored K C R T). LacksNextCall eq same s e.path) nothing_under some

    pub Adds-new : {inner' : slab.Slab (InnerNode C R)} {leaves' : slab.Slab (LeafNode K T)} {starts' : HashMap K Start S} (value : T) → Grown eq same eqk inner leaves inner' leaves' starts' key s value → Adds eq same eqk (contents inner leaves) key s value (contents inner' leaves')
    Adds-new value grown = record {
      own = key;
      is_key = keys.refl key;
      path = s;
      is_new = ([], inl (nothing_under, refl), sym (outside-nothing eq s));
      entries = grown.entries;
    }

  -- ---- a key that it has
  module _ (at : ℕ) (answer : R) (left : List (C × R)) (forks : Forks eq same eqk inner leaves starts key s at answer left) (own : K) (equal : IsTrue (eqk own key)) where
    pub lead-own : LeadsFrom inner eqk starts own forks.done (Inner at)
    lead-own = (forks.lead.0, first_alike keys starts own key equal ∙ forks.lead.1, forks.lead.2)

    pub CanGrow-forks : CanGrow eq same eqk inner leaves starts own at answer left
    CanGrow-forks = record {
      tip = None;
      forest = forest;
      only = λ u e. cc;
      node = forks.node;
      is = forks.is;
      none = forks.none;
      done = forks.done;
      lead = lead-own;
      distinct = distinct_moved calls same forks.asked forks.done ((forks.node.call, answer) ∷ left) forks.same_prefix (rw append_assoc at forks.distinct);
    }

    -- the prefix as it is stored
    abbrev prefix : List (C × R)
    prefix = forks.done ++ (forks.node.call, answer) ∷ []

    same_prefixes : IsSamePath eq same (forks.asked ++ (forks.node.call, answer) ∷ []) prefix
    same_prefixes = IsSamePath-push calls answers forks.asked forks.done (forks.node.call, answer) (forks.node.call, answer) forks.same_prefix (calls.refl forks.node.call) (answers.refl answer)

    stem-stored : IsStem eq same (under eqk (contents inner leaves) key) s prefix
    stem-stored = elim forks.stem [
      | inl h ↦ absurd (omega (arith, ap length h.1, length-append forks.asked ((forks.node.call, answer) ∷ [])))
      | inr h ↦ inr (
        AllAmong-same calls answers s (forks.asked ++ (forks.node.call, answer) ∷ []) prefix same_prefixes h.0,
        record {
          prefix = forks.done;
          last = (forks.node.call, answer);
          splits = refl;
          next = refused_at calls answers keys forest key forks.done forks.done at forks.node forks.lead forks.is (IsSamePath-itself calls answers forks.done);
        },
        λ other among asked. omega (arith, h.2 other among asked, same_length eq same (forks.asked ++ (forks.node.call, answer) ∷ []) prefix same_prefixes),
      )
    ]

    pub Adds-forks : {inner' : slab.Slab (InnerNode C R)} {leaves' : slab.Slab (LeafNode K T)} (value : T) → Grown eq same eqk inner leaves inner' leaves' starts own (forks.done ++ (forks.node.call, answer) ∷ left) value → Adds eq same eqk (contents inner leaves) key s value (contents inner' leaves')
    Adds-forks value grown = record {
      own = own;
      is_key = equal;
      path = forks.done ++ (forks.node.call, answer) ∷ left;
      is_new = (prefix, stem-stored, sym (append_assoc forks.done ((forks.node.call, answer) ∷ []) left) ∙ ap (λ xs. prefix ++ xs) (forks.rest ∙ outside-same calls same (forks.asked ++ (forks.node.call, answer) ∷ []) prefix s same_prefixes));
      entries = grown.entries;
    }
