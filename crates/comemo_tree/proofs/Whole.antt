-- If no leaf is dropped there is nothing to prune: the tree is unchanged.
use Rattle.std.proofs.Common.{◌≡◌, ◌≤◌, ℕ, zero, suc, Bool, true, false, cond, List, [], ◌∷◌, get_or, Option, Some, None, refl, sym, ap, subst, ◌∙◌, arith, is_some, filter, length}
use Rattle.std.proofs.lemmas.List.Sorted.{IsPermutation-refl}
use Rattle.std.proofs.lemmas.List.Sums.{length-filter}
use Rattle.std.specs.HashMap.{HashMap}
use Rattle.slab.specs.Slab as slab
use Rattle.slab.specs.Slab.{slab_len}
use Rattle.comemo_tree.specs.Nodes.{IsAt, IsForest, contents}
use Rattle.comemo_tree.specs.Retain.{Retains}
use Rattle.comemo_tree.specs.Marks.{RetainsLeaves}
use Rattle.comemo_tree.specs.declared.children.Node.{Node}
use Rattle.comemo_tree.specs.declared.children.Node.TheVariants.{Inner, Leaf}
use Rattle.comemo_tree.specs.declared.tree.InnerNode.{InnerNode}
use Rattle.comemo_tree.specs.declared.tree.LeafNode.{LeafNode}
use Rattle.comemo_tree.specs.declared.tree.Start.{Start}
use Rattle.comemo_tree.proofs.Passes.{some_of}
use Rattle.comemo_tree.proofs.Pruned.{AreOf-retained, Leaves-retained, led_was}

-- ---- the leaves
-- how many there are
abbrev number : {X : Type 0} → List (Option X) → ℕ
number slots = length (filter is_some slots)

module _ {K T : Type 0} (keeps : T → Bool → T → Type 0) where
  -- there are no more of them
  no_more : (slots left : List (Option (LeafNode K T))) → RetainsLeaves keeps slots left → number left ≤ number slots
  no_more [] left r = rw r (omega arith)
  no_more (None ∷ slots) left r = rw r.1 (no_more slots r.0 r.2)
  no_more (Some leaf ∷ slots) left r = subst (λ xs. number xs ≤ suc (number slots)) (sym r.4) (by r.0 (no_more slots r.3 r.5))
    where
      by : (b : Bool) → number r.3 ≤ number slots → number (cond b (Some r.1) None ∷ r.3) ≤ suc (number slots)
      by true h = let k : suc (number r.3) ≤ suc (number slots) = omega (h, arith) in k
      by false h = let k : number r.3 ≤ suc (number slots) = omega (h, arith) in k

  -- where there are as many, each is there
  each_left : (slots left : List (Option (LeafNode K T))) → RetainsLeaves keeps slots left → number left ≡ number slots → (at : ℕ) → is_some (get_or left at None) ≡ is_some (get_or slots at None)
  each_left [] left r e at = ap (λ xs. is_some (get_or xs at None)) r
  each_left (None ∷ slots) left r e zero = ap (λ xs. is_some (get_or xs 0 None)) r.1
  each_left (None ∷ slots) left r e (suc at) =
      ap (λ xs. is_some (get_or xs (suc at) None)) r.1 ∙ each_left slots r.0 r.2 (sym (ap number r.1) ∙ e) at
  each_left (Some leaf ∷ slots) left r e at = ap (λ xs. is_some (get_or xs at None)) r.4 ∙ by r.0 (λ f i. each_left slots r.3 r.5 f i) (no_more slots r.3 r.5) (sym (ap number r.4) ∙ e) at
    where
      by : (b : Bool) → (number r.3 ≡ number slots → (i : ℕ) → is_some (get_or r.3 i None) ≡ is_some (get_or slots i None)) → number r.3 ≤ number slots → number (cond b (Some r.1) None ∷ r.3) ≡ suc (number slots) → (at : ℕ) → is_some (get_or (cond b (Some r.1) None ∷ r.3) at None) ≡ is_some (get_or (Some leaf ∷ slots) at None)
      by true rest h f zero = refl
      by true rest h f (suc at) = let g : suc (number r.3) ≡ suc (number slots) = f in rest (omega (g, arith)) at
      by false rest h f at = let g : number r.3 ≡ suc (number slots) = f in absurd (omega (g, h, arith))

-- ---- the tree stands
module _ {C R : Type 0} {eq : C → C → Bool} {same : R → R → Bool} {K T S : Type 0} {eqk : K → K → Bool} {inner : slab.Slab (InnerNode C R)} {before : slab.Slab (LeafNode K T)} {starts : HashMap K Start S} (forest : IsForest eq same eqk None inner before starts) (leaves : slab.Slab (LeafNode K T)) (keeps : T → Bool → T → Type 0) (retained : RetainsLeaves keeps before.slots leaves.slots) (as_many : slab_len leaves ≡ slab_len before) where
  -- a node is where it was
  at_still : (node : Node) (parent : Option ℕ) (depth : ℕ) → IsAt inner before node parent depth → IsAt inner leaves node parent depth
  at_still (Inner at) parent depth h = h
  at_still (Leaf at) parent depth h =
      let n = some_of (slab.get leaves at) (each_left keeps before.slots leaves.slots retained (length-filter is_some leaves.slots ∙ as_many ∙ sym (length-filter is_some before.slots)) at ∙ ap is_some h.1) in
      let w = (AreOf-retained keeps before leaves retained).was at n.0 n.1 in
      let two : Some w.0 ≡ Some h.0 = sym w.1 ∙ h.1 in
      let one : w.0 ≡ h.0 = cc in
      (n.0, n.1, w.3 ∙ ap (λ (m : LeafNode K T). m.parent) one ∙ h.2, w.4 ∙ ap (λ (m : LeafNode K T). m.depth) one ∙ h.3)

  pub IsForest-whole : IsForest eq same eqk None inner leaves starts
  IsForest-whole =
      let of = AreOf-retained keeps before leaves retained in
      record {
        answers = forest.answers;
        child = λ at node answer next is points. (let c = forest.child at node answer next is points in (at_still next (Some at) (suc node.depth) c.0, c.1));
        start = λ key first e. at_still first None 0 (forest.start key first e);
        apart = forest.apart;
        led = λ at leaf is. (led_was forest leaves of at leaf is).0;
        below = forest.below;
        distinct = λ at leaf is. (led_was forest leaves of at leaf is).1;
        unmarked = forest.unmarked;
      }

  pub Retains-whole : Retains keeps (contents inner before) (contents inner leaves)
  Retains-whole = (contents inner leaves, Leaves-retained inner keeps 0 before.slots leaves.slots retained, IsPermutation-refl _)
