-- One step of an insertion's walk.
use Rattle.std.proofs.Common.{◌≡◌, ◌<◌, ℕ, zero, suc, Bool, true, false, cond, List, [], ◌∷◌, ◌++◌, length, take, get_or, Option, Some, None, refl, sym, ap, subst, ◌∙◌, arith, IsTrue, length-append, append_assoc}
use Rattle.std.proofs.Math.Seq.{take-append_seam, get_or-append_seam}
use Rattle.std.specs.Cmp.{IsEquivalence}
use Rattle.std.specs.List.{Any}
use Rattle.std.specs.Map.{lookup, remove_entry}
use Rattle.std.specs.HashMap.{HashMap}
use Rattle.slab.specs.Slab as slab
use Rattle.comemo_base.specs.Sequence.{HasDistinctCalls}
use Rattle.comemo_base.specs.Lookup.{under}
use Rattle.comemo_base.specs.Insertion.{AllAmong, outside, Exists, Misses}
use Rattle.comemo_base.specs.Tree.{Stored, IsSamePath, IsPrefix, IsTree}
use Rattle.comemo_base.specs.Steps.{Follows}
use Rattle.comemo_base.proofs.Paths.{turned, joined, Fit, Fit-from_tree, get_or_same, IsSamePath-more}
use Rattle.comemo_base.proofs.Under.{Any-under}
use Rattle.comemo_base.proofs.Steps.{Walked, AllAmong-same, AllAmong-more, Misses-at, lookup-outside, outside-more, HasDistinctCalls-moved, not_Exists, not_Misses, stem}
use Rattle.comemo_tree.specs.Nodes.{LeadsFrom, contents, IsForest, Forks}
use Rattle.comemo_tree.specs.declared.children.Node.TheVariants.{Inner, Leaf}
use Rattle.comemo_tree.specs.declared.tree.InnerNode.{InnerNode}
use Rattle.comemo_tree.specs.declared.tree.LeafNode.{LeafNode}
use Rattle.comemo_tree.specs.declared.tree.Start.{Start}
use Rattle.comemo_tree.proofs.Forest.{leaf_at, leaf_below, any_entry, not_prefix, IsTree-from_forest}

pub same_length : {C R : Type 0} (eq : C → C → Bool) (same : R → R → Bool) (xs ys : List (C × R)) → IsSamePath eq same xs ys → length xs ≡ length ys
same_length eq same [] [] h = refl
same_length eq same [] (y ∷ ys) h = absurd h
same_length eq same (x ∷ xs) [] h = absurd h
same_length eq same (x ∷ xs) (y ∷ ys) h = omega (arith, same_length eq same xs ys h.2)

IsPrefix-taken : {C R : Type 0} (eq : C → C → Bool) (same : R → R → Bool) (xs qs : List (C × R)) (n : ℕ) → IsSamePath eq same xs (take n qs) → IsPrefix eq same xs qs
IsPrefix-taken eq same [] qs n h = tt
IsPrefix-taken eq same (x ∷ xs) qs zero h = absurd h
IsPrefix-taken eq same (x ∷ xs) [] (suc n) h = absurd h
IsPrefix-taken eq same (x ∷ xs) (q ∷ qs) (suc n) h = (h.0, h.1, IsPrefix-taken eq same xs qs n h.2)

found_in : {R : Type 0} (b : Bool) (o : Option R) (answer : R) → Some answer ≡ cond b None o → o ≡ Some answer
found_in true o answer e = cc
found_in false o answer e = sym e

module _ {C R : Type 0} {eq : C → C → Bool} {same : R → R → Bool} (calls : IsEquivalence eq) (answers : IsEquivalence same) {K T S : Type 0} {eqk : K → K → Bool} (keys : IsEquivalence eqk) {inner : slab.Slab (InnerNode C R)} {leaves : slab.Slab (LeafNode K T)} {starts : HashMap K Start S} (forest : IsForest eq same eqk None inner leaves starts) (key : K) (s asked done : List (C × R)) (same_prefix : IsSamePath eq same asked done) (among : AllAmong eq same s asked) where
  -- a path of which all pairs are among the sequence's
  pub Exists-at_leaf : (at : ℕ) → LeadsFrom inner eqk starts key done (Leaf at) → Exists eq same (under eqk (contents inner leaves) key) s
  Exists-at_leaf at lead =
      let f = leaf_at calls answers keys forest key done at lead in
      Any-under eqk (contents inner leaves) key (λ e. AllAmong eq same s e.path) (any_entry inner leaves (λ (e : Stored K C R T). IsTrue (eqk e.key key) × AllAmong eq same s e.path) at f.0 f.1 (f.2, subst (λ ps. AllAmong eq same s ps) (sym f.3) (AllAmong-same calls answers s asked done same_prefix among)))

  module _ (at : ℕ) (node : InnerNode C R) (lead : LeadsFrom inner eqk starts key done (Inner at)) (is : slab.get inner at ≡ Some node) (left : List (C × R)) (k : left ≡ outside eq asked s) where
    -- an entry whose path goes on from here
    abbrev GoesOn : Stored K C R T → Type 0
    GoesOn e = IsTrue (eqk e.key key) × (p : C × R) × (rest : List (C × R)) × (e.path ≡ done ++ p ∷ rest) × (node.call ≡ p.0)

    goes_on : Any GoesOn (contents inner leaves)
    goes_on =
        let b = leaf_below calls answers keys forest key done at node lead is in
        any_entry inner leaves GoesOn b.0 b.1 b.4 (b.5, b.2, b.3, b.6, b.7)

    -- its next pair, and its path
    abbrev pair : C × R
    pair = (node.call, goes_on.4.1.1)

    abbrev path : List (C × R)
    path = done ++ pair ∷ goes_on.4.2

    own : path ≡ goes_on.1.path
    own = ap (λ c. done ++ (c, goes_on.4.1.1) ∷ goes_on.4.2) goes_on.4.4 ∙ sym goes_on.4.3

    len : length asked ≡ length done
    len = same_length eq same asked done same_prefix

    deep : length asked < length path
    deep = omega (arith, len, length-append done (pair ∷ goes_on.4.2))

    here : pair ≡ get_or path (length asked) pair
    here = sym (ap (λ n. get_or path n pair) len ∙ get_or-append_seam done pair goes_on.4.2 pair)

    prefix : IsSamePath eq same asked (take (length asked) path)
    prefix = subst (λ ps. IsSamePath eq same asked ps) (sym (ap (λ n. take n path) len ∙ take-append_seam done (pair ∷ goes_on.4.2))) same_prefix

    tree : IsTree eq same eqk (contents inner leaves)
    tree = IsTree-from_forest calls answers keys forest

    there : (d : Stored K C R T) → get_or (contents inner leaves) goes_on.0 d ≡ goes_on.1
    there d = get_or_same (contents inner leaves) goes_on.0 d goes_on.1 goes_on.2 ∙ goes_on.3

    walked : (d : Stored K C R T) → Walked eq same eqk key s asked (get_or (contents inner leaves) goes_on.0 d)
    walked d = subst (λ x. Walked eq same eqk key s asked x) (sym (there d)) (record {
      under = goes_on.4.0;
      deep = omega (arith, deep, ap length own);
      prefix = subst (λ ps. IsSamePath eq same asked (take (length asked) ps)) own prefix;
      among = among;
    })

    pub misses : None ≡ lookup (eq node.call) left → Misses eq same (under eqk (contents inner leaves) key) s
    misses none = Misses-at calls answers keys (contents inner leaves) tree key s goes_on.0 (length asked) goes_on.1 asked path goes_on.2 (sym goes_on.3) walked own refl deep pair here left k none

    module _ (answer : R) (some : Some answer ≡ lookup (eq node.call) left) where
      pub among' : AllAmong eq same s (asked ++ (node.call, answer) ∷ [])
      among' = AllAmong-more calls answers s asked node.call answer among (found_in _ _ answer (some ∙ ap (λ xs. lookup (eq node.call) xs) k ∙ lookup-outside calls asked s node.call))

      pub left' : HasDistinctCalls eq s → remove_entry (eq node.call) left ≡ outside eq (asked ++ (node.call, answer) ∷ []) s
      left' d = ap (λ xs. remove_entry (eq node.call) xs) k ∙ outside-more calls asked s node.call node.call answer d (calls.refl node.call)

      pub distinct' : HasDistinctCalls eq (asked ++ left) → HasDistinctCalls eq ((asked ++ (node.call, answer) ∷ []) ++ remove_entry (eq node.call) left)
      distinct' d = rw append_assoc (HasDistinctCalls-moved calls asked left node.call node.call answer d (sym some) (calls.refl node.call))

      module _ (none : lookup (same answer) node.children ≡ None) where
        fit : (j : ℕ) (d : Stored K C R T) → j < length (contents inner leaves) → IsTrue (eqk (get_or (contents inner leaves) j d).key key) → Fit calls answers path (get_or (contents inner leaves) j d).path
        fit j d l u =
            let e = get_or (contents inner leaves) j d in
            let alike = joined keys goes_on.1.key key e.key goes_on.4.0 (turned keys e.key key u) in
            subst (λ ps. Fit calls answers ps e.path) (ap (λ (x : Stored K C R T). x.path) (there d) ∙ sym own) (Fit-from_tree calls answers keys (contents inner leaves) goes_on.0 j d tree goes_on.2 l (ap (λ (x : Stored K C R T). eqk x.key e.key) (there d) ∙ alike))

        -- no path follows the one that goes on from here, and has the answer
        nothing_follows : (j : ℕ) (d : Stored K C R T) → j < length (contents inner leaves) → IsTrue (eqk (get_or (contents inner leaves) j d).key key) → Follows same (get_or (contents inner leaves) j d).path path (length asked) answer → ⊥
        nothing_follows j d l u f =
            let qs = (get_or (contents inner leaves) j d).path in
            not_prefix calls answers keys forest key asked done at node answer lead is same_prefix none j d l u (IsPrefix-taken eq same (asked ++ (node.call, answer) ∷ []) qs (suc (length asked)) (IsSamePath-more calls answers (length asked) asked path qs pair answer prefix deep here (fit j d l u) f))

        pub forks : (rest : List (C × R)) → rest ≡ remove_entry (eq node.call) left → HasDistinctCalls eq s → HasDistinctCalls eq (asked ++ left) → Forks eq same eqk inner leaves starts key s at answer rest
        forks rest cut d d' = record {
          node = node;
          is = is;
          none = none;
          done = done;
          lead = lead;
          asked = asked;
          same_prefix = same_prefix;
          stem = stem calls answers keys (contents inner leaves) tree key s goes_on.0 (length asked) goes_on.1 asked path goes_on.2 (sym goes_on.3) walked own refl deep pair here left k answer node.call some (calls.refl node.call) nothing_follows;
          rest = cut ∙ left' d;
          distinct = subst (λ xs. HasDistinctCalls eq ((asked ++ (node.call, answer) ∷ []) ++ xs)) (sym cut) (distinct' d');
          not_there = not_Exists calls answers keys (contents inner leaves) tree key s goes_on.0 (length asked) goes_on.1 asked path goes_on.2 (sym goes_on.3) walked own refl deep pair here left k answer node.call some (calls.refl node.call) nothing_follows;
          not_missing = not_Misses calls answers keys (contents inner leaves) tree key s goes_on.0 (length asked) goes_on.1 asked path goes_on.2 (sym goes_on.3) walked own refl deep pair here left k answer node.call some (calls.refl node.call) nothing_follows;
        }
