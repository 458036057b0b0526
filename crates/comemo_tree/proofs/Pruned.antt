-- What a pruning preserves: the nodes still form a tree after leaves are dropped, with all nodes that have no leaf below.
use Rattle.std.proofs.Common.{◌≡◌, ◌≢◌, ◌⊎◌, ◌+◌, ℕ, zero, suc, Bool, true, false, cond, List, [], ◌∷◌, length, map, Option, Some, None, refl, sym, ap, subst, ◌∙◌, inl, inr, arith, is_some, filter, Contains, IsPermutation}
use Rattle.std.proofs.lemmas.Bool.{cases_Bool}
use Rattle.std.proofs.lemmas.Map.Made.{IsDistinct-keys_filter}
use Rattle.std.proofs.lemmas.Map.Entries.{lookup-filter-values, option_filter}
use Rattle.std.proofs.lemmas.List.Sorted.{IsPermutation-refl}
use Rattle.std.specs.Prelude.{option_map}
use Rattle.std.specs.Cmp.{IsEquivalence}
use Rattle.std.specs.List.{slice_get, IsDistinct}
use Rattle.std.specs.Map.{keys_of, lookup}
use Rattle.std.specs.HashMap as hash
use Rattle.std.specs.HashMap.{HashMap}
use Rattle.slab.specs.Slab as slab
use Rattle.slab.specs.Slab.{entries_from}
use Rattle.slab.proofs.SlabLemmas.{Contains-cons, Contains-entries}
use Rattle.comemo_base.specs.Sequence.{HasDistinctCalls}
use Rattle.comemo_base.specs.Tree.{stored}
use Rattle.comemo_tree.specs.Node.{node_eq}
use Rattle.comemo_tree.specs.Nodes.{answer_to, Points, origin, Leads, LeadsFrom, path_of, entry_of, contents, first_of, IsAt, IsEnd, IsForest}
use Rattle.comemo_tree.specs.Retain.{Leaves, Retains}
use Rattle.comemo_tree.specs.Marks.{RetainsLeaves, AreOf, has_node, linked, HasChild, IsRooted, IsPruned}
use Rattle.comemo_tree.specs.declared.children.Node.{Node}
use Rattle.comemo_tree.specs.declared.children.Node.TheVariants.{Inner, Leaf}
use Rattle.comemo_tree.specs.declared.tree.InnerNode.{InnerNode}
use Rattle.comemo_tree.specs.declared.tree.LeafNode.{LeafNode}
use Rattle.comemo_tree.specs.declared.tree.Start.{Start}
use Rattle.comemo_tree.proofs.Forest.{knows_led}
use Rattle.comemo_tree.proofs.Attach.{node_eq-false, no_points}
use Rattle.comemo_tree.proofs.Passes.{some_of, was_leaf}

-- ---- the leaves
pub AreOf-retained : {K T : Type 0} (keeps : T → Bool → T → Type 0) (before leaves : slab.Slab (LeafNode K T)) → RetainsLeaves keeps before.slots leaves.slots → AreOf before leaves
AreOf-retained keeps before leaves r = record { was = λ at leaf e. was_leaf keeps before.slots leaves.slots r at leaf e }

module _ {K C R T : Type 0} (inner : slab.Slab (InnerNode C R)) (keeps : T → Bool → T → Type 0) where
  -- the entries of what is left, where the paths stay
  pub Leaves-retained : (key : ℕ) (slots left : List (Option (LeafNode K T))) → RetainsLeaves keeps slots left → Leaves keeps (map (entry_of inner) (entries_from key slots)) (map (entry_of inner) (entries_from key left))
  Leaves-retained key [] left r = ap (λ xs. map (entry_of inner) (entries_from key xs)) r
  Leaves-retained key (None ∷ slots) left r =
      subst (λ xs. Leaves keeps (map (entry_of inner) (entries_from (key + 1) slots)) (map (entry_of inner) (entries_from key xs))) (sym r.1) (Leaves-retained (key + 1) slots r.0 r.2)
  Leaves-retained key (Some leaf ∷ slots) left r =
      let rest = map (entry_of inner) (entries_from (key + 1) r.3) in
      (r.0, r.1.value, r.2.kept, rest, Leaves-retained (key + 1) slots r.3 r.5, ap (λ xs. map (entry_of inner) (entries_from key xs)) r.4 ∙ by r.0)
    where
      same : entry_of inner (key, r.1) ≡ stored leaf.key.value (path_of inner key leaf) r.1.value
      same = rw (r.2.key, r.2.parent, r.2.depth) refl

      by : (b : Bool) → map (entry_of inner) (entries_from key (cond b (Some r.1) None ∷ r.3)) ≡ cond b (stored leaf.key.value (path_of inner key leaf) r.1.value ∷ map (entry_of inner) (entries_from (key + 1) r.3)) (map (entry_of inner) (entries_from (key + 1) r.3))
      by true = ap (λ e. e ∷ map (entry_of inner) (entries_from (key + 1) r.3)) same
      by false = refl

map_agree : {X Y : Type 0} (f g : X → Y) (xs : List X) → ((x : X) → Contains xs x → f x ≡ g x) → map f xs ≡ map g xs
map_agree f g [] h = refl
map_agree f g (x ∷ xs) h = ap (λ y. y ∷ map f xs) (h x (0, omega arith, refl)) ∙ ap (λ ys. g x ∷ ys) (map_agree f g xs (λ y c. h y (Contains-cons x y xs c)))

-- ---- ways
module _ {C R : Type 0} (inner : slab.Slab (InnerNode C R)) where
  -- the last step of a way
  pub record Last (from to : Node) : Type 0 where
    pub at : ℕ
    pub node : InnerNode C R
    pub answer : R
    pub prefix : List (C × R)
    pub leads : Leads inner from prefix (Inner at)
    pub is : slab.get inner at ≡ Some node
    pub points : Points node.children answer to

  pub last_step : (from to : Node) (ps : List (C × R)) → Leads inner from ps to → (from ≡ to) ⊎ Last from to
  last_step from to [] h = inl h
  last_step from to (p ∷ ps) h = elim (last_step h.2 to ps h.7) [
    | inl e ↦ inr (record { at = h.0; node = h.1; answer = p.1; prefix = []; leads = h.3; is = h.4; points = subst (λ n. Points h.1.children p.1 n) e h.6 })
    | inr l ↦ inr (record { at = l.at; node = l.node; answer = l.answer; prefix = p ∷ l.prefix; leads = (h.0, h.1, h.2, h.3, h.4, h.5, h.6, l.leads); is = l.is; points = l.points })
  ]

at_parent : {K C R T : Type 0} (inner : slab.Slab (InnerNode C R)) (leaves : slab.Slab (LeafNode K T)) (node : Node) (p q : Option ℕ) (d e : ℕ) → IsAt inner leaves node p d → IsAt inner leaves node q e → (p ≡ q) × (d ≡ e)
at_parent inner leaves (Inner at) p q d e h k =
    let two : Some h.0 ≡ Some k.0 = sym h.1 ∙ k.1 in
    let one : h.0 ≡ k.0 = cc in
    (sym h.2 ∙ ap (λ (n : InnerNode _ _). n.parent) one ∙ k.2, sym h.3 ∙ ap (λ (n : InnerNode _ _). n.depth) one ∙ k.3)
at_parent inner leaves (Leaf at) p q d e h k =
    let two : Some h.0 ≡ Some k.0 = sym h.1 ∙ k.1 in
    let one : h.0 ≡ k.0 = cc in
    (sym h.2 ∙ ap (λ (n : LeafNode _ _). n.parent) one ∙ k.2, sym h.3 ∙ ap (λ (n : LeafNode _ _). n.depth) one ∙ k.3)

-- ---- a tree's nodes are children of their parents
module _ {C R : Type 0} {eq : C → C → Bool} {same : R → R → Bool} {K T S : Type 0} {eqk : K → K → Bool} {inner : slab.Slab (InnerNode C R)} {before : slab.Slab (LeafNode K T)} {starts : HashMap K Start S} (forest : IsForest eq same eqk None inner before starts) where
  -- some way leads to the node
  abbrev Reached : Node → Type 0
  Reached node = (key : K) × (ps : List (C × R)) × LeadsFrom inner eqk starts key ps node

  parent_reached : (next : Node) (at depth : ℕ) → Reached next → IsAt inner before next (Some at) depth → Reached (Inner at) × HasChild inner at next
  parent_reached next at depth r h = elim (last_step inner r.2.0 next r.1 r.2.2) [
    | inl e ↦ (let top = subst (λ n. IsAt inner before n None 0) e (forest.start r.0 r.2.0 r.2.1) in
        let two = (at_parent inner before next None (Some at) 0 depth top h).0 in
        cc)
    | inr l ↦ (let two = (at_parent inner before next (Some l.at) (Some at) (suc l.node.depth) depth (forest.child l.at l.node l.answer next l.is l.points).0 h).0 in
        let one : l.at ≡ at = cc in (
          (r.0, l.prefix, (r.2.0, r.2.1, subst (λ x. Leads inner r.2.0 l.prefix (Inner x)) one l.leads)),
          (l.node, l.answer, ap (slab.get inner) (sym one) ∙ l.is, l.points),
        ))
  ]

  -- what leads to a node that is reached, is reached
  reached_back : (from to : Node) (ps : List (C × R)) → Leads inner from ps to → Reached to → Reached from
  reached_back from to [] h r = subst Reached (sym h) r
  reached_back from to (p ∷ ps) h r =
      let next = reached_back h.2 to ps h.7 r in
      subst Reached (sym h.3) (parent_reached h.2 h.0 (suc h.1.depth) next (forest.child h.0 h.1 p.1 h.2 h.4 h.6).0).0

  inner_reached : (at : ℕ) (node : InnerNode C R) → slab.get inner at ≡ Some node → Reached (Inner at)
  inner_reached at node is = let b = forest.below at node is in by b.0 b.1 b.2 b.3
    where
      by : (to : Node) (ps : List (C × R)) → Leads inner (Inner at) ps to → IsEnd None to → Reached (Inner at)
      by (Inner u) ps h end = cc
      by (Leaf low) ps h end = elim (last_step inner (Inner at) (Leaf low) ps h) [
        | inl e ↦ cc
        | inr l ↦ (let child = (forest.child l.at l.node l.answer (Leaf low) l.is l.points).0 in
            reached_back (Inner at) (Leaf low) ps h (child.0.key.value, path_of inner low child.0, forest.led low child.0 child.1))
      ]

  -- what is below a node is so where leaves go
  pub IsRooted-from_forest : (leaves : slab.Slab (LeafNode K T)) → AreOf before leaves → IsRooted inner leaves
  IsRooted-from_forest leaves of = record {
    leaf_child = λ low leaf at is parent. (let w = of.was low leaf is in
        (parent_reached (Leaf low) at w.0.depth (w.0.key.value, path_of inner low w.0, forest.led low w.0 w.1) (w.0, w.1, sym w.3 ∙ parent, refl)).1);
    inner_child = λ below node at is parent. (parent_reached (Inner below) at node.depth (inner_reached below node is) (node, is, parent, refl)).1;
    deeper = λ below node at above is parent e. (let h = (parent_reached (Inner below) at node.depth (inner_reached below node is) (node, is, parent, refl)).1 in
        let two : Some h.0 ≡ Some above = sym h.2 ∙ e in
        let one : h.0 ≡ above = cc in
        (at_parent inner before (Inner below) (Some at) (Some at) node.depth (suc h.0.depth) (node, is, parent, refl) (forest.child at h.0 h.1 (Inner below) h.2 h.3).0).1 ∙ ap (λ (n : InnerNode C R). suc n.depth) one);
    unmarked = forest.unmarked;
  }

-- ---- children that are there
module _ {K C R T : Type 0} (inner : slab.Slab (InnerNode C R)) (leaves : slab.Slab (LeafNode K T)) where
  pub points_linked : (xs : List (R × Node)) (r : R) (next : Node) → Points xs r next → has_node inner leaves next ≡ true → Points (linked inner leaves xs) r next
  points_linked [] r next p t = no_points r next p
  points_linked (x ∷ xs) r next (zero, e) t =
      let one : x ≡ (r, next) = cc in
      let test : has_node inner leaves x.1 ≡ true = ap (λ (y : R × Node). has_node inner leaves y.1) one ∙ t in
      rw test (zero, ap Some one)
  points_linked (x ∷ xs) r next (suc k, e) t =
      let p = points_linked xs r next (k, e) t in
      elim (cases_Bool (has_node inner leaves x.1)) [
        | inl b ↦ rw b (suc p.0, p.1)
        | inr b ↦ rw b p
      ]

  pub points_unlinked : (xs : List (R × Node)) (r : R) (next : Node) → Points (linked inner leaves xs) r next → Points xs r next × (has_node inner leaves next ≡ true)
  points_unlinked [] r next p = no_points r next p
  points_unlinked (x ∷ xs) r next p = elim (cases_Bool (has_node inner leaves x.1)) [
    | inl b ↦ here (λ k e. points_unlinked xs r next (k, e)) b (rw b at p)
    | inr b ↦ (let q = points_unlinked xs r next (rw b at p) in ((suc q.0.0, q.0.1), q.1))
  ]
    where
      here : ((k : ℕ) → slice_get (linked inner leaves xs) k ≡ Some (r, next) → Points xs r next × (has_node inner leaves next ≡ true)) → has_node inner leaves x.1 ≡ true → Points (x ∷ linked inner leaves xs) r next → Points (x ∷ xs) r next × (has_node inner leaves next ≡ true)
      here later b (zero, e) =
          let one : x ≡ (r, next) = cc in
          ((zero, e), ap (λ (y : R × Node). has_node inner leaves y.1) (sym one) ∙ b)
      here later b (suc k, e) = let q = later k e in ((suc q.0.0, q.0.1), q.1)

  pub answer_to-linked : (xs : List (R × Node)) (next : Node) → has_node inner leaves next ≡ true → answer_to next (linked inner leaves xs) ≡ answer_to next xs
  answer_to-linked [] next t = refl
  answer_to-linked (x ∷ xs) next t = elim (cases_Bool (has_node inner leaves x.1)) [
    | inl b ↦ rw b (ap (λ o. cond (node_eq x.1 next) (Some x.0) o) (answer_to-linked xs next t))
    | inr b ↦ (let other : x.1 ≢ next = λ e. (let two : true ≡ false = sym t ∙ ap (has_node inner leaves) (sym e) ∙ b in cc) in
        rw (b, node_eq-false x.1 next other) (answer_to-linked xs next t))
  ]

-- ---- the starts
module _ {K C R T S : Type 0} {eqk : K → K → Bool} (keys : IsEquivalence eqk) (inner : slab.Slab (InnerNode C R)) (leaves : slab.Slab (LeafNode K T)) (starts starts' : HashMap K Start S) (unique : hash.IsUnique eqk starts) (entries : starts'.entries ≡ filter (λ e. has_node inner leaves e.1.first) starts.entries) where
  get_kept : (key : K) → hash.get eqk starts' key ≡ option_filter (λ (s : Start). has_node inner leaves s.first) (hash.get eqk starts key)
  get_kept key = ap (λ es. lookup (eqk key) es) entries ∙ lookup-filter-values keys (λ (s : Start). has_node inner leaves s.first) key starts.entries unique

  -- a key that is left is as it was, and its first node is there
  pub start_was : (key : K) (start : Start) → hash.get eqk starts' key ≡ Some start → (hash.get eqk starts key ≡ Some start) × (has_node inner leaves start.first ≡ true)
  start_was key start e = by (hash.get eqk starts key) refl
    where
      by : (o : Option Start) → hash.get eqk starts key ≡ o → (hash.get eqk starts key ≡ Some start) × (has_node inner leaves start.first ≡ true)
      by None f = let two : None ≡ Some start = sym (get_kept key ∙ ap (option_filter (λ (s : Start). has_node inner leaves s.first)) f) ∙ e in cc
      by (Some s) f = elim (cases_Bool (has_node inner leaves s.first)) [
        | inl b ↦ (let two : Some s ≡ Some start = sym (get_kept key ∙ ap (option_filter (λ (s : Start). has_node inner leaves s.first)) f ∙ ap (λ x. cond x (Some s) None) b) ∙ e in
            let one : s ≡ start = cc in
            (f ∙ ap Some one, ap (λ (x : Start). has_node inner leaves x.first) (sym one) ∙ b))
        | inr b ↦ (let two : None ≡ Some start = sym (get_kept key ∙ ap (option_filter (λ (s : Start). has_node inner leaves s.first)) f ∙ ap (λ x. cond x (Some s) None) b) ∙ e in cc)
      ]

  pub first_was : (key : K) (first : Node) → first_of eqk starts' key ≡ Some first → (first_of eqk starts key ≡ Some first) × (has_node inner leaves first ≡ true)
  first_was key first e = by (hash.get eqk starts' key) refl
    where
      by : (o : Option Start) → hash.get eqk starts' key ≡ o → (first_of eqk starts key ≡ Some first) × (has_node inner leaves first ≡ true)
      by None f = let two : None ≡ Some first = sym (ap (option_map (λ (s : Start). s.first)) f) ∙ e in cc
      by (Some s) f =
          let two : Some s.first ≡ Some first = sym (ap (option_map (λ (s : Start). s.first)) f) ∙ e in
          let one : s.first ≡ first = cc in
          let w = start_was key s f in
          (ap (option_map (λ (s : Start). s.first)) w.0 ∙ two, ap (has_node inner leaves) (sym one) ∙ w.1)

  -- a key whose first node is there is left
  pub first_kept : (key : K) (first : Node) → first_of eqk starts key ≡ Some first → has_node inner leaves first ≡ true → first_of eqk starts' key ≡ Some first
  first_kept key first e t = by (hash.get eqk starts key) refl
    where
      by : (o : Option Start) → hash.get eqk starts key ≡ o → first_of eqk starts' key ≡ Some first
      by None f = let two : None ≡ Some first = sym (ap (option_map (λ (s : Start). s.first)) f) ∙ e in cc
      by (Some s) f =
          let two : Some s.first ≡ Some first = sym (ap (option_map (λ (s : Start). s.first)) f) ∙ e in
          let one : s.first ≡ first = cc in
          let b : has_node inner leaves s.first ≡ true = ap (has_node inner leaves) one ∙ t in
          ap (option_map (λ (s : Start). s.first)) (get_kept key ∙ ap (option_filter (λ (s : Start). has_node inner leaves s.first)) f ∙ ap (λ x. cond x (Some s) None) b) ∙ two

-- ---- the paths of the leaves that stay
module _ {C R : Type 0} {eq : C → C → Bool} {same : R → R → Bool} {K T S : Type 0} {eqk : K → K → Bool} {inner : slab.Slab (InnerNode C R)} {before : slab.Slab (LeafNode K T)} {starts : HashMap K Start S} (forest : IsForest eq same eqk None inner before starts) (leaves : slab.Slab (LeafNode K T)) (of : AreOf before leaves) where
  -- before anything is pruned they are as they were
  pub led_was : (at : ℕ) (leaf : LeafNode K T) → slab.get leaves at ≡ Some leaf → LeadsFrom inner eqk starts leaf.key.value (path_of inner at leaf) (Leaf at) × HasDistinctCalls eq (path_of inner at leaf)
  led_was at leaf is =
      let w = of.was at leaf is in
      let path : path_of inner at w.0 ≡ path_of inner at leaf = ap (λ n. (origin inner n (Leaf at) w.0.parent).1) (sym w.4) ∙ ap (λ o. (origin inner leaf.depth (Leaf at) o).1) (sym w.3) in (
        subst (λ ps. LeadsFrom inner eqk starts leaf.key.value ps (Leaf at)) path (subst (λ k. LeadsFrom inner eqk starts k.value (path_of inner at w.0) (Leaf at)) (sym w.2) (forest.led at w.0 w.1)),
        subst (λ ps. HasDistinctCalls eq ps) path (forest.distinct at w.0 w.1),
      )

-- ---- the tree stands
module _ {C R : Type 0} {eq : C → C → Bool} {same : R → R → Bool} {K T S : Type 0} {eqk : K → K → Bool} (keys : IsEquivalence eqk) {inner : slab.Slab (InnerNode C R)} {before : slab.Slab (LeafNode K T)} {starts : HashMap K Start S} (forest : IsForest eq same eqk None inner before starts) (leaves : slab.Slab (LeafNode K T)) (of : AreOf before leaves) (inner' : slab.Slab (InnerNode C R)) (pruned : IsPruned inner inner' leaves) (starts' : HashMap K Start S) (unique : hash.IsUnique eqk starts) (entries : starts'.entries ≡ filter (λ e. has_node inner' leaves e.1.first) starts.entries) where
  -- a node that is there is where it was
  at_kept : (node : Node) (parent : Option ℕ) (depth : ℕ) → IsAt inner before node parent depth → has_node inner' leaves node ≡ true → IsAt inner' leaves node parent depth
  at_kept (Inner at) parent depth h t =
      let n = some_of (slab.get inner' at) t in
      let w = pruned.was at n.0 n.1 in
      let two : Some w.0 ≡ Some h.0 = sym w.1 ∙ h.1 in
      let one : w.0 ≡ h.0 = cc in
      (n.0, n.1, ap (λ (m : InnerNode C R). m.parent) w.2 ∙ ap (λ (m : InnerNode C R). m.parent) one ∙ h.2, ap (λ (m : InnerNode C R). m.depth) w.2 ∙ ap (λ (m : InnerNode C R). m.depth) one ∙ h.3)
  at_kept (Leaf at) parent depth h t =
      let n = some_of (slab.get leaves at) t in
      let w = of.was at n.0 n.1 in
      let two : Some w.0 ≡ Some h.0 = sym w.1 ∙ h.1 in
      let one : w.0 ≡ h.0 = cc in
      (n.0, n.1, w.3 ∙ ap (λ (m : LeafNode K T). m.parent) one ∙ h.2, w.4 ∙ ap (λ (m : LeafNode K T). m.depth) one ∙ h.3)

  -- the node above one that is there is there
  above_kept : (at depth : ℕ) (next : Node) → IsAt inner' leaves next (Some at) depth → has_node inner' leaves (Inner at) ≡ true
  above_kept at depth (Inner x) h = pruned.inner_above x h.0 at h.1 h.2
  above_kept at depth (Leaf x) h = pruned.leaf_above x h.0 at h.1 h.2

  -- a way to a node that is there stays
  leads_kept : (from : Node) (ps : List (C × R)) (to : Node) → Leads inner from ps to → has_node inner' leaves to ≡ true → (has_node inner' leaves from ≡ true) × Leads inner' from ps to
  leads_kept from [] to h t = (ap (has_node inner' leaves) h ∙ t, h)
  leads_kept from (p ∷ ps) to h t =
      let rest = leads_kept h.2 ps to h.7 t in
      let child = at_kept h.2 (Some h.0) (suc h.1.depth) (forest.child h.0 h.1 p.1 h.2 h.4 h.6).0 rest.0 in
      let there = above_kept h.0 (suc h.1.depth) h.2 child in
      let n = some_of (slab.get inner' h.0) there in
      let w = pruned.was h.0 n.0 n.1 in
      let two : Some w.0 ≡ Some h.1 = sym w.1 ∙ h.4 in
      let one : w.0 ≡ h.1 = cc in
      let children : n.0.children ≡ linked inner' leaves h.1.children = ap (λ (m : InnerNode C R). m.children) w.2 ∙ ap (λ (m : InnerNode C R). linked inner' leaves m.children) one in (
        ap (has_node inner' leaves) h.3 ∙ there,
        (h.0, n.0, h.2, h.3, n.1, ap (λ (m : InnerNode C R). m.call) w.2 ∙ ap (λ (m : InnerNode C R). m.call) one ∙ h.5, subst (λ xs. Points xs p.1 h.2) (sym children) (points_linked inner' leaves h.1.children p.1 h.2 h.6 rest.0), rest.1),
      )

  child' : (at : ℕ) (node : InnerNode C R) (answer : R) (next : Node) → slab.get inner' at ≡ Some node → Points node.children answer next → IsAt inner' leaves next (Some at) (suc node.depth) × (answer_to next node.children ≡ Some answer)
  child' at node answer next is points =
      let w = pruned.was at node is in
      let children : node.children ≡ linked inner' leaves w.0.children = ap (λ (m : InnerNode C R). m.children) w.2 in
      let deep : node.depth ≡ w.0.depth = ap (λ (m : InnerNode C R). m.depth) w.2 in
      let p = points_unlinked inner' leaves w.0.children answer next (subst (λ xs. Points xs answer next) children points) in
      let c = forest.child at w.0 answer next w.1 p.0 in
      (subst (λ d. IsAt inner' leaves next (Some at) (suc d)) (sym deep) (at_kept next (Some at) (suc w.0.depth) c.0 p.1), ap (answer_to next) children ∙ answer_to-linked inner' leaves w.0.children next p.1 ∙ c.1)

  start' : (key : K) (first : Node) → first_of eqk starts' key ≡ Some first → IsAt inner' leaves first None 0
  start' key first e = let w = first_was keys inner' leaves starts starts' unique entries key first e in at_kept first None 0 (forest.start key first w.0) w.1

  leads_from_kept : (key : K) (ps : List (C × R)) (to : Node) → LeadsFrom inner eqk starts key ps to → has_node inner' leaves to ≡ true → LeadsFrom inner' eqk starts' key ps to
  leads_from_kept key ps to h t = let k = leads_kept h.0 ps to h.2 t in (h.0, first_kept keys inner' leaves starts starts' unique entries key h.0 h.1 k.0, k.1)

  -- what leads to a leaf is its path
  path_led : (key : K) (ps : List (C × R)) (at : ℕ) (leaf : LeafNode K T) → LeadsFrom inner' eqk starts' key ps (Leaf at) → slab.get leaves at ≡ Some leaf → path_of inner' at leaf ≡ ps
  path_led key ps at leaf lead is =
      let k = knows_led inner' leaves child' lead.0 lead.0 (Leaf at) [] ps (None, start' key lead.0 lead.1, refl) lead.2 in
      let two : Some leaf ≡ Some k.1.0 = sym is ∙ k.1.1 in
      let one : leaf ≡ k.1.0 = cc in
      ap (λ (x : LeafNode K T). path_of inner' at x) one ∙ ap (λ n. (origin inner' n (Leaf at) k.1.0.parent).1) k.1.3 ∙ ap (λ o. (origin inner' (length ps) (Leaf at) o).1) k.1.2 ∙ ap (λ (x : Node × List (C × R)). x.1) k.2

  leaf_there : (at : ℕ) (leaf : LeafNode K T) → slab.get leaves at ≡ Some leaf → has_node inner' leaves (Leaf at) ≡ true
  leaf_there at leaf is = ap is_some is

  path_kept : (at : ℕ) (leaf : LeafNode K T) → slab.get leaves at ≡ Some leaf → path_of inner' at leaf ≡ path_of inner at leaf
  path_kept at leaf is =
      path_led leaf.key.value (path_of inner at leaf) at leaf (leads_from_kept leaf.key.value (path_of inner at leaf) (Leaf at) (led_was forest leaves of at leaf is).0 (leaf_there at leaf is)) is

  pub IsForest-pruned : IsForest eq same eqk None inner' leaves starts'
  IsForest-pruned = record {
    answers = λ at node is. (let w = pruned.was at node is in
        subst (λ xs. IsDistinct same (keys_of xs)) (sym (ap (λ (m : InnerNode C R). m.children) w.2)) (IsDistinct-keys_filter same (λ p. has_node inner' leaves p.1) w.0.children (forest.answers at w.0 w.1)));
    child = child';
    start = start';
    apart = λ k l first e f. forest.apart k l first (first_was keys inner' leaves starts starts' unique entries k first e).0 (first_was keys inner' leaves starts starts' unique entries l first f).0;
    led = λ at leaf is. subst (λ ps. LeadsFrom inner' eqk starts' leaf.key.value ps (Leaf at)) (sym (path_kept at leaf is)) (leads_from_kept leaf.key.value (path_of inner at leaf) (Leaf at) (led_was forest leaves of at leaf is).0 (leaf_there at leaf is));
    below = λ at node is. (let a = pruned.grounded at node is in (Leaf a.low, a.pairs, (leads_kept (Inner at) a.pairs (Leaf a.low) a.leads (leaf_there a.low a.leaf a.there)).1, tt));
    distinct = λ at leaf is. subst (λ ps. HasDistinctCalls eq ps) (sym (path_kept at leaf is)) (led_was forest leaves of at leaf is).1;
    unmarked = λ at node is. (let w = pruned.was at node is in ap (λ (m : InnerNode C R). m.kept) w.2 ∙ forest.unmarked at w.0 w.1);
  }

  pub contents-pruned : contents inner' leaves ≡ contents inner leaves
  contents-pruned = map_agree (entry_of inner') (entry_of inner) (slab.entries leaves) (λ e c. by e.0 e.1 ((Contains-entries leaves e.0 e.1).0 c))
    where
      by : (at : ℕ) (leaf : LeafNode K T) → slab.get leaves at ≡ Some leaf → entry_of inner' (at, leaf) ≡ entry_of inner (at, leaf)
      by at leaf is = ap (λ ps. stored leaf.key.value ps leaf.value) (path_kept at leaf is)

  pub Retains-pruned : (keeps : T → Bool → T → Type 0) → RetainsLeaves keeps before.slots leaves.slots → Retains keeps (contents inner before) (contents inner' leaves)
  Retains-pruned keeps r = (
    contents inner leaves,
    Leaves-retained inner keeps 0 before.slots leaves.slots r,
    subst (λ xs. IsPermutation (contents inner leaves) xs) (sym contents-pruned) (IsPermutation-refl _),
  )
