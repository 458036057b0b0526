-- What each pass of a pruning does.
use Rattle.std.proofs.Common.{◌≡◌, ◌≢◌, ◌⊎◌, ◌<◌, ◌≤◌, ◌+◌, ℕ, zero, suc, Bool, true, false, cond, List, [], ◌∷◌, ◌++◌, length, get_or, set, Option, Some, None, refl, sym, ap, subst, ◌∙◌, inl, inr, arith, is_some, filter, MutBor, IsSome}
use Rattle.std.proofs.lemmas.Bool.{cases_eq, cases_Bool}
use Rattle.std.proofs.lemmas.List.{get_or_past}
use Rattle.std.proofs.lemmas.List.Elements.{filter_agree}
use Rattle.std.specs.Prelude.{option_map}
use Rattle.std.specs.declared.cmp.Ordering.{Ordering}
use Rattle.std.specs.List.{AllByRecursion}
use Rattle.std.specs.List.Sorted.{IsStrictlySortedBy}
use Rattle.std.specs.Map.{keys_of}
use Rattle.std.specs.Option.{option_to_list}
use Rattle.slab.specs.Slab as slab
use Rattle.slab.specs.Slab.{CalledAt, RetainsFrom}
use Rattle.comemo_tree.specs.Nodes.{Leads}
use Rattle.comemo_tree.specs.Marks.{KeepsLeaf, RetainsLeaves, has_node, linked, IsAboveLeaf, bare, kept_only, HasChild, IsMarked, height, rank, IsRooted, IsMarking, AreMarkedBelow, IsMarkedAbove, pruned_node, IsUnlinking, IsPruned, IsMarkingUp, linked_option}
use Rattle.comemo_tree.specs.declared.children.Node.{Node}
use Rattle.comemo_tree.specs.declared.children.Node.TheVariants.{Inner, Leaf}
use Rattle.comemo_tree.specs.declared.tree.InnerNode.{InnerNode}
use Rattle.comemo_tree.specs.declared.tree.LeafNode.{LeafNode}

pub some_of : {X : Type 0} (o : Option X) → is_some o ≡ true → (x : X) × (o ≡ Some x)
some_of None e = cc
some_of (Some x) e = (x, refl)

pub is_some-map : {X Y : Type 0} (f : X → Y) (o : Option X) → is_some (option_map f o) ≡ is_some o
is_some-map f None = refl
is_some-map f (Some x) = refl

pub cases_below : (i n : ℕ) → (i < n) ⊎ (n ≤ i)
cases_below i n = grind arith

-- ---- children that are there
module _ {R : Type 0} (test : R × Node → Bool) where
  pub all_filter : (P : R → Type 0) (ps : List (R × Node)) → AllByRecursion P (keys_of ps) → AllByRecursion P (keys_of (filter test ps))
  all_filter P [] a = tt
  all_filter P (p ∷ ps) a = elim (cases_Bool (test p)) [
    | inl e ↦ rw e (a.0, all_filter P ps a.1)
    | inr e ↦ rw e (all_filter P ps a.1)
  ]

  pub sorted_filter : (cmp : R → R → Ordering) (ps : List (R × Node)) → IsStrictlySortedBy cmp (keys_of ps) → IsStrictlySortedBy cmp (keys_of (filter test ps))
  unfolding IsStrictlySortedBy
  sorted_filter cmp [] s = tt
  sorted_filter cmp (p ∷ ps) s = elim (cases_Bool (test p)) [
    | inl e ↦ rw e (all_filter _ ps s.0, sorted_filter cmp ps s.1)
    | inr e ↦ rw e (sorted_filter cmp ps s.1)
  ]

-- a first pair that stands by itself
pub linked_first : {K C R T : Type 0} (inner : slab.Slab (InnerNode C R)) (leaves : slab.Slab (LeafNode K T)) (first : Option (R × Node)) (ps : List (R × Node)) → option_to_list (linked_option inner leaves first) ++ linked inner leaves ps ≡ linked inner leaves (option_to_list first ++ ps)
linked_first inner leaves None ps = refl
linked_first inner leaves (Some p) ps = elim (cases_Bool (has_node inner leaves p.1)) [
  | inl e ↦ rw e refl
  | inr e ↦ rw e refl
]

-- a first pair that goes
pub linked_others : {K C R T : Type 0} (inner : slab.Slab (InnerNode C R)) (leaves : slab.Slab (LeafNode K T)) (first : Option (R × Node)) (ps : List (R × Node)) → is_some (linked_option inner leaves first) ≡ false → linked inner leaves ps ≡ linked inner leaves (option_to_list first ++ ps)
linked_others inner leaves None ps gone = refl
linked_others inner leaves (Some p) ps gone = elim (cases_Bool (has_node inner leaves p.1)) [
  | inl e ↦ (let k : true ≡ false = sym (ap (λ b. is_some (cond b (Some p) None)) e) ∙ gone in cc)
  | inr e ↦ rw e refl
]

-- a node that was read and not changed
set_own : {X : Type 0} (xs : List (Option X)) (at : ℕ) (x : X) → get_or xs at None ≡ Some x → set xs at (Some x) ≡ xs
set_own [] at x e = let two : None ≡ Some x = e in cc
set_own (y ∷ xs) zero x e = ap (λ o. o ∷ xs) (sym e)
set_own (y ∷ xs) (suc at) x e = ap (λ ys. y ∷ ys) (set_own xs at x e)

pub with_own : {X : Type 0} (s : slab.Slab X) (at : ℕ) (x : X) → slab.get s at ≡ Some x → slab.with_value s at x ≡ s
with_own s at x e = ap (λ (xs : List (Option _)). record s { slots = xs }) (set_own s.slots at x e)

-- a test that fails tells that nothing is there
pub none_of : {X : Type 0} (o : Option X) (b : Bool) → (IsSome o → b ≡ true) → b ≡ false → o ≡ None
none_of None b h e = refl
none_of (Some x) b h e = let t : true ≡ false = sym (h refl) ∙ e in cc

-- ---- slots
module _ {C R F : Type 0} (step : F → ℕ → MutBor (InnerNode C R) → Bool → MutBor (InnerNode C R) → F → Type 0) where
  -- a closure that answers the mark, and takes it off, went over the slots
  pub kept_slots : ((f : F) (key : ℕ) (old : InnerNode C R) (b : Bool) (new : InnerNode C R) (next : F) → CalledAt step f key old b new next → (b ≡ old.kept) × (new ≡ bare old)) → (f : F) (key : ℕ) (slots left : List (Option (InnerNode C R))) → RetainsFrom step f key slots left → (at : ℕ) → get_or left at None ≡ kept_only (get_or slots at None)
  kept_slots h f key [] left r at = ap (λ xs. get_or xs at None) r
  kept_slots h f key (None ∷ slots) left r zero = ap (λ xs. get_or xs 0 None) r.1
  kept_slots h f key (None ∷ slots) left r (suc at) = ap (λ xs. get_or xs (suc at) None) r.1 ∙ kept_slots h f (key + 1) slots r.0 r.2 at
  kept_slots h f key (Some node ∷ slots) left r zero =
      let told = h f key node r.0 r.1 r.2 r.3 in
      ap (λ xs. get_or xs 0 None) r.5 ∙ ap (λ b. cond b (Some r.1) None) told.0 ∙ ap (λ n. cond node.kept (Some n) None) told.1
  kept_slots h f key (Some node ∷ slots) left r (suc at) = ap (λ xs. get_or xs (suc at) None) r.5 ∙ kept_slots h r.2 (key + 1) slots r.4 r.6 at

module _ {K T F : Type 0} (step : F → ℕ → MutBor (LeafNode K T) → Bool → MutBor (LeafNode K T) → F → Type 0) (keeps : T → Bool → T → Type 0) (f : F) where
  -- a closure that shows the value to the test went over the slots
  pub RetainsLeaves-from_calls : ((key : ℕ) (old : LeafNode K T) (b : Bool) (new : LeafNode K T) (next : F) → CalledAt step f key old b new next → (next ≡ f) × KeepsLeaf keeps old b new) → (key : ℕ) (slots left : List (Option (LeafNode K T))) → RetainsFrom step f key slots left → RetainsLeaves keeps slots left
  RetainsLeaves-from_calls h key [] left r = r
  RetainsLeaves-from_calls h key (None ∷ slots) left r = (r.0, r.1, RetainsLeaves-from_calls h (key + 1) slots r.0 r.2)
  RetainsLeaves-from_calls h key (Some leaf ∷ slots) left r =
      let told = h key leaf r.0 r.1 r.2 r.3 in
      (r.0, r.1, told.1, r.4, r.5, RetainsLeaves-from_calls h (key + 1) slots r.4 (subst (λ g. RetainsFrom step g (key + 1) slots r.4) told.0 r.6))

-- each leaf that is left was there
pub was_leaf : {K T : Type 0} (keeps : T → Bool → T → Type 0) (slots left : List (Option (LeafNode K T))) → RetainsLeaves keeps slots left → (at : ℕ) (leaf : LeafNode K T) → get_or left at None ≡ Some leaf → (old : LeafNode K T) × (get_or slots at None ≡ Some old) × (leaf.key ≡ old.key) × (leaf.parent ≡ old.parent) × (leaf.depth ≡ old.depth)
was_leaf keeps [] left r at leaf e = let f : None ≡ Some leaf = sym (ap (λ xs. get_or xs at None) r) ∙ e in cc
was_leaf keeps (None ∷ slots) left r zero leaf e = let f : None ≡ Some leaf = sym (ap (λ xs. get_or xs 0 None) r.1) ∙ e in cc
was_leaf keeps (None ∷ slots) left r (suc at) leaf e = was_leaf keeps slots r.0 r.2 at leaf (sym (ap (λ xs. get_or xs (suc at) None) r.1) ∙ e)
was_leaf keeps (Some old ∷ slots) left r zero leaf e =
    let f : cond r.0 (Some r.1) None ≡ Some leaf = sym (ap (λ xs. get_or xs 0 None) r.4) ∙ e in
    elim (cases_Bool r.0) [
      | inl b ↦ (let g : Some r.1 ≡ Some leaf = sym (ap (λ x. cond x (Some r.1) None) b) ∙ f in
          let one : leaf ≡ r.1 = cc in
          (old, refl, ap (λ (x : LeafNode _ _). x.key) one ∙ r.2.key, ap (λ (x : LeafNode _ _). x.parent) one ∙ r.2.parent, ap (λ (x : LeafNode _ _). x.depth) one ∙ r.2.depth))
      | inr b ↦ (let g : None ≡ Some leaf = sym (ap (λ x. cond x (Some r.1) None) b) ∙ f in cc)
    ]
was_leaf keeps (Some old ∷ slots) left r (suc at) leaf e = was_leaf keeps slots r.3 r.5 at leaf (sym (ap (λ xs. get_or xs (suc at) None) r.4) ∙ e)

-- ---- links that are dropped
module _ {K C R T : Type 0} (leaves : slab.Slab (LeafNode K T)) where
  -- the same nodes are there
  abbrev pub HasSame : slab.Slab (InnerNode C R) → slab.Slab (InnerNode C R) → Type 0
  HasSame old new = (node : Node) → has_node new leaves node ≡ has_node old leaves node

  pub HasSame-from_slots : (old new : slab.Slab (InnerNode C R)) → ((at : ℕ) → is_some (slab.get new at) ≡ is_some (slab.get old at)) → HasSame old new
  HasSame-from_slots old new h (Inner at) = h at
  HasSame-from_slots old new h (Leaf at) = refl

  linked-same : (old new : slab.Slab (InnerNode C R)) → HasSame old new → (xs : List (R × Node)) → linked new leaves xs ≡ linked old leaves xs
  linked-same old new h xs = filter_agree (λ (p : R × Node). has_node new leaves p.1) (λ (p : R × Node). has_node old leaves p.1) (λ p. h p.1) xs

  pub IsUnlinking-init : (old : slab.Slab (InnerNode C R)) → IsUnlinking old old leaves 0
  IsUnlinking-init old = record { done = λ at l. absurd (omega arith); rest = λ at l. refl }

  HasSame-unlinking : (old now : slab.Slab (InnerNode C R)) (end : ℕ) → IsUnlinking old now leaves end → HasSame old now
  HasSame-unlinking old now end u = HasSame-from_slots old now (λ at. elim (cases_below at end) [
    | inl l ↦ ap is_some (u.done at l) ∙ is_some-map (pruned_node old leaves) (slab.get old at)
    | inr l ↦ ap is_some (u.rest at l)
  ])

  -- a key without a node
  pub IsUnlinking-skip : (old now : slab.Slab (InnerNode C R)) (end : ℕ) → IsUnlinking old now leaves end → slab.get now end ≡ None → IsUnlinking old now leaves (end + 1)
  IsUnlinking-skip old now end u none = record {
    done = λ at l. elim (cases_eq at end) [
      | inl e ↦ (let here : slab.get old at ≡ None = sym (u.rest at (omega arith)) ∙ ap (slab.get now) e ∙ none in
          u.rest at (omega arith) ∙ here ∙ sym (ap (option_map (pruned_node old leaves)) here))
      | inr d ↦ u.done at (omega arith)
    ];
    rest = λ at l. u.rest at (omega arith);
  }

  -- a node whose children were taken out, sorted out and put back
  pub IsUnlinking-step : (old now mid new : slab.Slab (InnerNode C R)) (end : ℕ) (node taken put : InnerNode C R) → IsUnlinking old now leaves end → slab.get now end ≡ Some node → slab.Updates now mid end (Some taken) → slab.Updates mid new end (Some put) → put ≡ pruned_node mid leaves node → IsUnlinking old new leaves (end + 1)
  IsUnlinking-step old now mid new end node taken put u is one two p =
      let before : HasSame old mid = λ n. (HasSame-from_slots now mid (λ at. elim (cases_eq at end) [
        | inl e ↦ ap (λ x. is_some (slab.get mid x)) e ∙ ap is_some one.changed ∙ sym (ap is_some is) ∙ sym (ap (λ x. is_some (slab.get now x)) e)
        | inr d ↦ ap is_some (one.others at d)
      ]) n ∙ HasSame-unlinking old now end u n) in
      let same : pruned_node mid leaves node ≡ pruned_node old leaves node = ap (λ (xs : List (R × Node)). record node { children = xs }) (linked-same old mid before node.children) in
      record {
        done = λ at l. elim (cases_eq at end) [
          | inl e ↦ (let here : slab.get old at ≡ Some node = sym (u.rest at (omega arith)) ∙ ap (slab.get now) e ∙ is in
              ap (slab.get new) e ∙ two.changed ∙ ap Some (p ∙ same) ∙ sym (ap (option_map (pruned_node old leaves)) here))
          | inr d ↦ two.others at d ∙ one.others at d ∙ u.done at (omega arith)
        ];
        rest = λ at l. (let d : at ≢ end = λ e. absurd (omega arith) in two.others at d ∙ one.others at d ∙ u.rest at (omega arith));
      }

  pub IsUnlinking-end : (old now : slab.Slab (InnerNode C R)) (end : ℕ) → IsUnlinking old now leaves end → length old.slots ≤ end → (at : ℕ) → slab.get now at ≡ option_map (pruned_node old leaves) (slab.get old at)
  IsUnlinking-end old now end u l at = elim (cases_below at end) [
    | inl b ↦ u.done at b
    | inr b ↦ (let here : slab.get old at ≡ None = get_or_past old.slots at None (omega arith) in
        u.rest at b ∙ here ∙ sym (ap (option_map (pruned_node old leaves)) here))
  ]

-- ---- marks
module _ {K C R T : Type 0} {leaves : slab.Slab (LeafNode K T)} {old : slab.Slab (InnerNode C R)} (rooted : IsRooted old leaves) where
  -- the node that is seen without its mark
  unmarked_node : {now : slab.Slab (InnerNode C R)} {up : Option ℕ} → IsMarking old now leaves up → (at : ℕ) (node : InnerNode C R) → slab.get now at ≡ Some node → slab.get old at ≡ Some (bare node)
  unmarked_node m at node is = sym (m.same at) ∙ ap (option_map bare) is

  -- a parent of what lies above a leaf does
  above_leaf : (at : ℕ) (next : Node) → HasChild old at next → IsAboveLeaf old leaves next → IsAboveLeaf old leaves (Inner at)
  above_leaf at next child a = record {
    low = a.low;
    leaf = a.leaf;
    pairs = (child.0.call, child.1) ∷ a.pairs;
    leads = (at, child.0, next, refl, child.2, refl, child.3, a.leads);
    there = a.there;
  }

  -- no mark is set yet
  pub IsMarking-init : IsMarking old old leaves None
  IsMarking-init = record {
    same = λ at. by at (slab.get old at) refl;
    closed = λ at node above is kept parent. (let e : true ≡ false = sym kept ∙ rooted.unmarked at node is in cc);
    grounded = λ at node is kept. (let e : true ≡ false = sym kept ∙ rooted.unmarked at node is in cc);
    next = λ at e. cc;
  }
    where
      by : (at : ℕ) (o : Option (InnerNode C R)) → slab.get old at ≡ o → option_map bare (slab.get old at) ≡ slab.get old at
      by at None is = ap (option_map bare) is ∙ sym is
      by at (Some node) is = ap (option_map bare) is ∙ ap (λ (b : Bool). Some (record node { kept = b })) (sym (rooted.unmarked at node is)) ∙ sym is

  pub IsMarkingUp-start : (now : slab.Slab (InnerNode C R)) (low : ℕ) (leaf : LeafNode K T) → IsMarking old now leaves None → AreMarkedBelow now leaves low → slab.get leaves low ≡ Some leaf → IsMarkingUp old now leaves low leaf.parent
  IsMarkingUp-start now low leaf m before is = record {
    marking = record {
      same = m.same;
      closed = λ at node above e kept parent. elim (m.closed at node above e kept parent) [ inl k ↦ inl k | inr k ↦ cc ];
      grounded = m.grounded;
      next = λ at e. above_leaf at (Leaf low) (rooted.leaf_child low leaf at is e) (record { low = low; leaf = leaf; pairs = []; leads = refl; there = is });
    };
    before = before;
    above = λ other at e parent. (let two : Some other ≡ Some leaf = sym e ∙ is in
        let one : other ≡ leaf = cc in
        inr (ap (λ (x : LeafNode K T). x.parent) (sym one) ∙ parent));
  }

  -- the node at hand is there
  pub marking_there : (now : slab.Slab (InnerNode C R)) (up : Option ℕ) (at : ℕ) → IsMarking old now leaves up → up ≡ Some at → is_some (slab.get now at) ≡ true
  marking_there now up at m e = let a = m.next at e in sym (is_some-map bare (slab.get now at)) ∙ ap is_some (m.same at) ∙ by a.low a.pairs a.leads
    where
      by : (low : ℕ) (pairs : List (C × R)) → Leads old (Inner at) pairs (Leaf low) → is_some (slab.get old at) ≡ true
      by low [] h = cc
      by low (p ∷ pairs) h = let key : at ≡ h.0 = cc in ap (λ x. is_some (slab.get old x)) key ∙ ap is_some h.4

  module _ (now new : slab.Slab (InnerNode C R)) (at : ℕ) (node marked : InnerNode C R) (is : slab.get now at ≡ Some node) (updates : slab.Updates now new at (Some marked)) (mark : marked ≡ record node { kept = true }) where
    -- what is marked stays so
    stays : (x : ℕ) → IsMarked now x → IsMarked new x
    stays x h = elim (cases_eq x at) [
      | inl e ↦ (marked, ap (slab.get new) e ∙ updates.changed, ap (λ (n : InnerNode C R). n.kept) mark)
      | inr d ↦ (h.0, updates.others x d ∙ h.1, h.2)
    ]

    here : (x : ℕ) → at ≡ x → IsMarked new x
    here x e = (marked, ap (slab.get new) (sym e) ∙ updates.changed, ap (λ (n : InnerNode C R). n.kept) mark)

    one_of : (x : ℕ) (n : InnerNode C R) → x ≡ at → slab.get new x ≡ Some n → n ≡ marked
    one_of x n e f = let two : Some n ≡ Some marked = sym f ∙ ap (slab.get new) e ∙ updates.changed in cc

    parent_of : (n : InnerNode C R) → n ≡ marked → n.parent ≡ node.parent
    parent_of n e = ap (λ (m : InnerNode C R). m.parent) (e ∙ mark)

    IsMarking-step : (up : Option ℕ) → up ≡ Some at → IsMarking old now leaves up → IsMarking old new leaves node.parent
    IsMarking-step up u m = record {
      same = λ x. elim (cases_eq x at) [
        | inl e ↦ ap (λ y. option_map bare (slab.get new y)) e ∙ ap (option_map bare) updates.changed ∙ ap (λ (n : InnerNode C R). Some (bare n)) mark ∙ sym (unmarked_node m at node is) ∙ ap (slab.get old) (sym e)
        | inr d ↦ ap (option_map bare) (updates.others x d) ∙ m.same x
      ];
      closed = λ x n above f kept parent. elim (cases_eq x at) [
        | inl e ↦ inr (sym (parent_of n (one_of x n e f)) ∙ parent)
        | inr d ↦ elim (m.closed x n above (sym (updates.others x d) ∙ f) kept parent) [
          | inl k ↦ inl (stays above k)
          | inr k ↦ (let two : Some at ≡ Some above = sym u ∙ k in inl (here above (cc)))
        ]
      ];
      grounded = λ x n f kept. elim (cases_eq x at) [
        | inl e ↦ m.next x (u ∙ ap Some (sym e))
        | inr d ↦ m.grounded x n (sym (updates.others x d) ∙ f) kept
      ];
      next = λ x e. above_leaf x (Inner at) (rooted.inner_child at (bare node) x (unmarked_node m at node is) e) (m.next at u);
    }

    pub IsMarkingUp-step : (low : ℕ) (up : Option ℕ) → up ≡ Some at → IsMarkingUp old now leaves low up → IsMarkingUp old new leaves low node.parent
    IsMarkingUp-step low up u m = record {
      marking = IsMarking-step up u m.marking;
      before = λ low' leaf x l e parent. stays x (m.before low' leaf x l e parent);
      above = λ leaf x e parent. elim (m.above leaf x e parent) [
        | inl k ↦ inl (stays x k)
        | inr k ↦ (let two : Some at ≡ Some x = sym u ∙ k in inl (here x (cc)))
      ];
    }

  -- the way up falls
  pub height_falls : (now : slab.Slab (InnerNode C R)) (up : Option ℕ) (at : ℕ) (node : InnerNode C R) → up ≡ Some at → IsMarking old now leaves up → slab.get now at ≡ Some node → height old node.parent < height old up
  height_falls now up at node u m is = subst (λ o. height old node.parent < height old o) (sym u) (subst (λ o. height old node.parent < rank o) (sym (unmarked_node m at node is)) (by node.parent refl))
    where
      by : (parent : Option ℕ) → node.parent ≡ parent → height old node.parent < suc node.depth
      by None e = subst (λ o. height old o < suc node.depth) (sym e) (omega arith)
      by (Some p) e =
          let child = rooted.inner_child at (bare node) p (unmarked_node m at node is) e in
          let deep = rooted.deeper at (bare node) p child.0 (unmarked_node m at node is) e child.2 in
          subst (λ o. height old o < suc node.depth) (sym e) (subst (λ o. rank o < suc node.depth) (sym child.2) (omega (arith, deep)))

-- the way up has ended
module _ {K C R T : Type 0} (leaves : slab.Slab (LeafNode K T)) (old now : slab.Slab (InnerNode C R)) where
  pub IsMarking-ends : (low : ℕ) (up : Option ℕ) → IsMarkingUp old now leaves low up → ((at : ℕ) → up ≡ Some at → IsMarked now at) → IsMarking old now leaves None × AreMarkedBelow now leaves (low + 1)
  IsMarking-ends low up m ends = (
    record {
      same = m.marking.same;
      closed = λ at node above e kept parent. elim (m.marking.closed at node above e kept parent) [ inl k ↦ inl k | inr k ↦ inl (ends above k) ];
      grounded = m.marking.grounded;
      next = λ at e. cc;
    },
    λ low' leaf at l e parent. elim (cases_eq low' low) [
      | inl f ↦ elim (m.above leaf at (ap (slab.get leaves) (sym f) ∙ e) parent) [ inl k ↦ k | inr k ↦ ends at k ]
      | inr d ↦ m.before low' leaf at (omega arith) e parent
    ],
  )

  pub AreMarkedBelow-skip : (low : ℕ) → AreMarkedBelow now leaves low → slab.get leaves low ≡ None → AreMarkedBelow now leaves (low + 1)
  AreMarkedBelow-skip low m none = λ low' leaf at l e parent. elim (cases_eq low' low) [
    | inl f ↦ (let two : None ≡ Some leaf = sym none ∙ ap (slab.get leaves) (sym f) ∙ e in cc)
    | inr d ↦ m low' leaf at (omega arith) e parent
  ]

  pub IsMarkedAbove-end : (end : ℕ) → IsMarking old now leaves None → AreMarkedBelow now leaves end → length leaves.slots ≤ end → IsMarkedAbove old now leaves
  IsMarkedAbove-end end m below l = record {
    marking = m;
    above = λ low leaf at e parent. elim (cases_below low end) [
      | inl b ↦ below low leaf at b e parent
      | inr b ↦ (let two : None ≡ Some leaf = sym (get_or_past leaves.slots low None (omega arith)) ∙ e in cc)
    ];
  }

-- ---- the three passes together
module _ {K C R T : Type 0} (leaves : slab.Slab (LeafNode K T)) (old marked kept new : slab.Slab (InnerNode C R)) (m : IsMarkedAbove old marked leaves) (k : (at : ℕ) → slab.get kept at ≡ kept_only (slab.get marked at)) (u : (at : ℕ) → slab.get new at ≡ option_map (pruned_node kept leaves) (slab.get kept at)) where
  -- what is left was marked
  was_marked : (at : ℕ) (node : InnerNode C R) → slab.get kept at ≡ Some node → (before : InnerNode C R) × (slab.get marked at ≡ Some before) × (before.kept ≡ true) × (node ≡ bare before)
  was_marked at node is = by (slab.get marked at) refl
    where
      by : (o : Option (InnerNode C R)) → slab.get marked at ≡ o → (before : InnerNode C R) × (slab.get marked at ≡ Some before) × (before.kept ≡ true) × (node ≡ bare before)
      by None e = let two : None ≡ Some node = sym (k at ∙ ap kept_only e) ∙ is in cc
      by (Some before) e = elim (cases_Bool before.kept) [
        | inl b ↦ (let two : Some (bare before) ≡ Some node = sym (k at ∙ ap kept_only e ∙ ap (λ x. cond x (Some (bare before)) None) b) ∙ is in
            (before, e, b, cc))
        | inr b ↦ (let two : None ≡ Some node = sym (k at ∙ ap kept_only e ∙ ap (λ x. cond x (Some (bare before)) None) b) ∙ is in cc)
      ]

  was_kept : (at : ℕ) (node : InnerNode C R) → slab.get new at ≡ Some node → (before : InnerNode C R) × (slab.get kept at ≡ Some before) × (node ≡ pruned_node kept leaves before)
  was_kept at node is = by (slab.get kept at) refl
    where
      by : (o : Option (InnerNode C R)) → slab.get kept at ≡ o → (before : InnerNode C R) × (slab.get kept at ≡ Some before) × (node ≡ pruned_node kept leaves before)
      by None e = let two : None ≡ Some node = sym (u at ∙ ap (option_map (pruned_node kept leaves)) e) ∙ is in cc
      by (Some before) e = let two : Some (pruned_node kept leaves before) ≡ Some node = sym (u at ∙ ap (option_map (pruned_node kept leaves)) e) ∙ is in (before, e, cc)

  same_there : HasSame leaves kept new
  same_there = HasSame-from_slots leaves kept new (λ at. ap is_some (u at) ∙ is_some-map (pruned_node kept leaves) (slab.get kept at))

  -- what is marked is left
  marked_there : (at : ℕ) → IsMarked marked at → has_node new leaves (Inner at) ≡ true
  marked_there at h = same_there (Inner at) ∙ ap is_some (k at) ∙ ap (λ o. is_some (kept_only o)) h.1 ∙ ap (λ b. is_some (cond b (Some (bare h.0)) None)) h.2

  pub IsPruned-from_passes : IsPruned old new leaves
  IsPruned-from_passes = record {
    was = λ at node' is. (let w = was_kept at node' is in
        let b = was_marked at w.0 w.1 in
        (w.0, sym (m.marking.same at) ∙ ap (option_map bare) b.1 ∙ ap Some (sym b.3), w.2 ∙ ap (λ (xs : List (R × Node)). record w.0 { children = xs }) (sym (linked-same leaves kept new same_there w.0.children))));
    inner_above = λ below node at is parent. (let w = was_kept below node is in
        let b = was_marked below w.0 w.1 in
        let same : node.parent ≡ b.0.parent = ap (λ (n : InnerNode C R). n.parent) w.2 ∙ ap (λ (n : InnerNode C R). n.parent) b.3 in
        elim (m.marking.closed below b.0 at b.1 b.2 (sym same ∙ parent)) [ inl h ↦ marked_there at h | inr h ↦ cc ]);
    leaf_above = λ low leaf at is parent. marked_there at (m.above low leaf at is parent);
    grounded = λ at node is. (let w = was_kept at node is in let b = was_marked at w.0 w.1 in m.marking.grounded at b.0 b.1 b.2);
  }
