-- Lemmas on a tree in which one leaf's value was changed.
use Rattle.std.proofs.Common.{◌≡◌, ◌∙◌, ◌<◌, ◌+◌, ℕ, Bool, List, ◌∷◌, ◌++◌, length, set, take, drop, map, suc, Option, Some, None, sym, ap, subst, refl, IsTrue, inl, inr, arith}
use Rattle.std.proofs.lemmas.Bool.{cases_eq}
use Rattle.std.proofs.lemmas.List.{set-get_or, set_split, length-take-le}
use Rattle.std.proofs.lemmas.List.Sorted.{IsPermutation-middle, IsPermutation-sym, IsPermutation-map}
use Rattle.std.specs.List.Sorted.{IsPermutation}
use Rattle.std.specs.Cmp.{IsEquivalence}
use Rattle.std.specs.HashMap.{HashMap}
use Rattle.slab.specs.Slab as slab
use Rattle.slab.specs.Slab.{entries_from}
use Rattle.slab.proofs.SlabLemmas.{Updates-with_value, ContainsKey-within, entries_from-append}
use Rattle.comemo_base.specs.Sequence.{HasDistinctCalls}
use Rattle.comemo_tree.specs.Change.{HasAnswers, Changes}
use Rattle.comemo_tree.specs.Reached.{LeadsByAnswers}
use Rattle.comemo_tree.specs.Nodes.{LeadsFrom, IsAt, path_of, entry_of, contents, IsForest}
use Rattle.comemo_tree.specs.declared.children.Node.{Node}
use Rattle.comemo_tree.specs.declared.children.Node.TheVariants.{Inner, Leaf}
use Rattle.comemo_tree.specs.declared.tree.InnerNode.{InnerNode}
use Rattle.comemo_tree.specs.declared.tree.LeafNode.{LeafNode}
use Rattle.comemo_tree.specs.declared.tree.Start.{Start}
use Rattle.comemo_tree.proofs.Forest.{leaf_at}

-- the entries before and after one of a slab, where it alone is written
entries_around : {X : Type 0} (s : slab.Slab X) (at : ℕ) (x y : X) → slab.get s at ≡ Some x → at < length s.slots → (prefix back : List (ℕ × X)) × (slab.entries s ≡ prefix ++ (at, x) ∷ back) × (slab.entries (slab.with_value s at y) ≡ prefix ++ (at, y) ∷ back)
entries_around s at x y is within =
    let before = take at s.slots in
    let after = drop (suc at) s.slots in
    let key : 0 + length before ≡ at = omega (arith, length-take-le at s.slots (omega arith)) in
    let old : s.slots ≡ before ++ Some x ∷ after = sym (ap (set s.slots at) (sym is) ∙ set-get_or s.slots at None) ∙ set_split s.slots at (Some x) within in
    let new : set s.slots at (Some y) ≡ before ++ Some y ∷ after = set_split s.slots at (Some y) within in (
      entries_from 0 before,
      entries_from (at + 1) after,
      ap (entries_from 0) old ∙ entries_from-append 0 before (Some x ∷ after) ∙ ap (λ n. entries_from 0 before ++ entries_from n (Some x ∷ after)) key,
      ap (entries_from 0) new ∙ entries_from-append 0 before (Some y ∷ after) ∙ ap (λ n. entries_from 0 before ++ entries_from n (Some y ∷ after)) key,
    )

module _ {K T : Type 0} (leaves : slab.Slab (LeafNode K T)) (at : ℕ) (leaf : LeafNode K T) (value : T) (is : slab.get leaves at ≡ Some leaf) where
  -- the leaves, with that value at one of them
  abbrev pub valued : slab.Slab (LeafNode K T)
  valued = slab.with_value leaves at (record leaf { value = value })

  here : slab.ContainsKey leaves at
  here = rw is refl

  -- each leaf is as it was but for its value
  was : (i : ℕ) (x : LeafNode K T) → slab.get valued i ≡ Some x → (y : LeafNode K T) × (slab.get leaves i ≡ Some y) × (y.key ≡ x.key) × (y.parent ≡ x.parent) × (y.depth ≡ x.depth)
  was i x e =
      let u = Updates-with_value leaves at (record leaf { value = value }) here in
      elim (cases_eq i at) [
        | inl same ↦
            let one : Some (record leaf { value = value }) ≡ Some x = sym u.changed ∙ ap (slab.get valued) (sym same) ∙ e in
            let x' : record leaf { value = value } ≡ x = cc in
            (leaf, ap (slab.get leaves) same ∙ is, ap (λ (l : LeafNode K T). l.key) x', ap (λ (l : LeafNode K T). l.parent) x', ap (λ (l : LeafNode K T). l.depth) x')
        | inr other ↦ (x, sym (u.others i other) ∙ e, refl, refl, refl)
      ]

  module _ {C R : Type 0} (inner : slab.Slab (InnerNode C R)) where
    -- each node is where it was
    IsAt-valued : (node : Node) (parent : Option ℕ) (depth : ℕ) → IsAt inner leaves node parent depth → IsAt inner valued node parent depth
    IsAt-valued (Inner i) parent depth h = h
    IsAt-valued (Leaf i) parent depth h =
        let u = Updates-with_value leaves at (record leaf { value = value }) here in
        elim (cases_eq i at) [
          | inl same ↦
              let one : Some h.0 ≡ Some leaf = sym h.1 ∙ ap (slab.get leaves) same ∙ is in
              let h' : leaf ≡ h.0 = cc in
              (record leaf { value = value }, ap (slab.get valued) same ∙ u.changed, ap (λ (l : LeafNode K T). l.parent) h' ∙ h.2, ap (λ (l : LeafNode K T). l.depth) h' ∙ h.3)
          | inr other ↦ (h.0, u.others i other ∙ h.1, h.2, h.3)
        ]

    -- and so is each path
    path-valued : (i : ℕ) (x y : LeafNode K T) → (y.parent ≡ x.parent) → (y.depth ≡ x.depth) → path_of inner i y ≡ path_of inner i x
    path-valued i x y p d = rw (p, d) refl

    pub IsForest-valued : {S : Type 0} {eq : C → C → Bool} {same : R → R → Bool} {eqk : K → K → Bool} {starts : HashMap K Start S} → IsForest eq same eqk None inner leaves starts → IsForest eq same eqk None inner valued starts
    IsForest-valued {eq = eq} {eqk = eqk} {starts = starts} forest = record {
      answers = forest.answers;
      child = λ i node answer next e p. (let h = forest.child i node answer next e p in (IsAt-valued next (Some i) (suc node.depth) h.0, h.1));
      start = λ key first e. IsAt-valued first None 0 (forest.start key first e);
      apart = forest.apart;
      led = λ i x e.
          let y = was i x e in
          let own = forest.led i y.0 y.1 in
          let lead = subst (λ ps. LeadsFrom inner eqk starts y.0.key.value ps (Leaf i)) (path-valued i x y.0 y.3 y.4) own in
          subst (λ k. LeadsFrom inner eqk starts k.value (path_of inner i x) (Leaf i)) y.2 lead;
      below = forest.below;
      distinct = λ i x e. (let y = was i x e in subst (HasDistinctCalls eq) (path-valued i x y.0 y.3 y.4) (forest.distinct i y.0 y.1));
      unmarked = forest.unmarked;
    }

    -- what the entries are then
    pub Changes-valued : {S : Type 0} {eq : C → C → Bool} {same : R → R → Bool} {eqk : K → K → Bool} (calls : IsEquivalence eq) (answers : IsEquivalence same) (keys : IsEquivalence eqk) {starts : HashMap K Start S} (forest : IsForest eq same eqk None inner leaves starts) (left : T → T → Type 0) (key : K) (given : List R) → LeadsByAnswers same eqk inner starts key given at → left leaf.value value → Changes same eqk left key given (contents inner leaves) (contents inner valued)
    Changes-valued {same = same} {eqk = eqk} calls answers keys forest left key given lead called =
        let a = entries_around leaves at leaf (record leaf { value = value }) is (ContainsKey-within leaves at here) in
        let prefix = a.0 in
        let back = a.1 in
        let leaf' : LeafNode K T = record leaf { value = value } in
        let f = leaf_at calls answers keys forest key lead.0 at lead.1 in
        let one : Some f.0 ≡ Some leaf = sym f.1 ∙ is in
        let leaf_is : f.0 ≡ leaf = cc in
        let path : lead.0 ≡ path_of inner at leaf = sym f.3 ∙ ap (path_of inner at) leaf_is in
        record {
          entry = entry_of inner (at, leaf);
          others = map (entry_of inner) (prefix ++ back);
          before = subst (λ es. IsPermutation (map (entry_of inner) ((at, leaf) ∷ (prefix ++ back))) (map (entry_of inner) es)) (sym a.2) (moved (at, leaf) prefix back);
          under_key = subst (λ (l : LeafNode K T). IsTrue (eqk l.key.value key)) leaf_is f.2;
          has_answers = subst (λ ps. HasAnswers same ps given) path lead.2;
          value = value;
          left = called;
          after = subst (λ es. IsPermutation (map (entry_of inner) ((at, leaf') ∷ (prefix ++ back))) (map (entry_of inner) es)) (sym a.3) (moved (at, leaf') prefix back);
        }
      where
        moved : (e : ℕ × LeafNode K T) (prefix back : List (ℕ × LeafNode K T)) → IsPermutation (map (entry_of inner) (e ∷ (prefix ++ back))) (map (entry_of inner) (prefix ++ e ∷ back))
        moved e prefix back = IsPermutation-map (entry_of inner) (e ∷ (prefix ++ back)) (prefix ++ e ∷ back) (IsPermutation-sym (prefix ++ e ∷ back) (e ∷ (prefix ++ back)) (IsPermutation-middle prefix e back))
