-- What each pass of a pruning does to the nodes of a tree. No public contract uses this.
use Rattle.std.specs.Prelude.{◌≡◌, ◌⊎◌, ℕ, suc, Bool, true, false, cond, List, [], ◌∷◌, Option, Some, None, filter, is_some, option_map, ◌<◌, ◌≤◌}
use Rattle.slab.specs.Slab as slab
use Rattle.comemo_tree.specs.Nodes.{Points, Leads}
use Rattle.comemo_tree.specs.declared.children.Node.{Node}
use Rattle.comemo_tree.specs.declared.children.Node.TheVariants.{Inner, Leaf}
use Rattle.comemo_tree.specs.declared.tree.InnerNode.{InnerNode}
use Rattle.comemo_tree.specs.declared.tree.LeafNode.{LeafNode}

-- ---- the leaves
module _ {K T : Type 0} (keeps : T → Bool → T → Type 0) where
  -- the test may change the leaf to this, and return this
  pub record KeepsLeaf (old : LeafNode K T) (stays : Bool) (new : LeafNode K T) : Type 0 where
    pub key : new.key ≡ old.key
    pub parent : new.parent ≡ old.parent
    pub depth : new.depth ≡ old.depth
    pub kept : keeps old.value stays new.value

  -- each leaf was shown to the test, and is in its place or gone
  abbrev pub RetainsLeaves : List (Option (LeafNode K T)) → List (Option (LeafNode K T)) → Type 0
  RetainsLeaves [] left = left ≡ []
  RetainsLeaves (None ∷ slots) left =
      (rest : List (Option (LeafNode K T))) × (left ≡ None ∷ rest) × RetainsLeaves slots rest
  RetainsLeaves (Some leaf ∷ slots) left =
      (stays : Bool) × (leaf' : LeafNode K T) × KeepsLeaf leaf stays leaf' × (rest : List (Option (LeafNode K T))) × (left ≡ cond stays (Some leaf') None ∷ rest) × RetainsLeaves slots rest

-- each leaf was there before, at the same place of the same path
pub record AreOf {K T : Type 0} (before leaves : slab.Slab (LeafNode K T)) : Type 0 where
  pub was : (at : ℕ) (leaf : LeafNode K T) → slab.get leaves at ≡ Some leaf → (old : LeafNode K T) × (slab.get before at ≡ Some old) × (leaf.key ≡ old.key) × (leaf.parent ≡ old.parent) × (leaf.depth ≡ old.depth)

-- ---- which nodes exist
module _ {K C R T : Type 0} (inner : slab.Slab (InnerNode C R)) (leaves : slab.Slab (LeafNode K T)) where
  -- whether the node exists
  abbrev pub has_node : Node → Bool
  has_node (Inner at) = is_some (slab.get inner at)
  has_node (Leaf at) = is_some (slab.get leaves at)

  -- the answers that lead to existing nodes
  abbrev pub linked : List (R × Node) → List (R × Node)
  linked children = filter (λ p. has_node p.1) children

  -- the same for one pair
  abbrev pub linked_option : Option (R × Node) → Option (R × Node)
  linked_option None = None
  linked_option (Some p) = cond (has_node p.1) (Some p) None

  -- some pairs lead from the node to an existing leaf
  pub record IsAboveLeaf (from : Node) : Type 0 where
    pub low : ℕ
    pub leaf : LeafNode K T
    pub pairs : List (C × R)
    pub leads : Leads inner from pairs (Leaf low)
    pub there : slab.get leaves low ≡ Some leaf

-- ---- the inner nodes
module _ {C R : Type 0} where
  -- a node, without its mark
  abbrev pub bare : InnerNode C R → InnerNode C R
  bare node = record node { kept = false }

  -- a node, if it is marked, without its mark
  abbrev pub kept_only : Option (InnerNode C R) → Option (InnerNode C R)
  kept_only None = None
  kept_only (Some node) = cond node.kept (Some (bare node)) None

  -- a node exists, with a child
  abbrev pub HasChild : slab.Slab (InnerNode C R) → ℕ → Node → Type 0
  HasChild inner at next = (node : InnerNode C R) × (answer : R) × (slab.get inner at ≡ Some node) × Points node.children answer next

  -- a node exists, and is marked
  abbrev pub IsMarked : slab.Slab (InnerNode C R) → ℕ → Type 0
  IsMarked inner at = (node : InnerNode C R) × (slab.get inner at ≡ Some node) × (node.kept ≡ true)

  -- one more than a node's depth
  abbrev pub rank : Option (InnerNode C R) → ℕ
  rank None = 0
  rank (Some node) = suc node.depth

  -- how long a way up is
  abbrev pub height : slab.Slab (InnerNode C R) → Option ℕ → ℕ
  height inner None = 0
  height inner (Some at) = rank (slab.get inner at)

-- each node but the first ones is a child of its parent, and none is marked
pub record IsRooted {K C R T : Type 0} (inner : slab.Slab (InnerNode C R)) (leaves : slab.Slab (LeafNode K T)) : Type 0 where
  pub leaf_child : (low : ℕ) (leaf : LeafNode K T) (at : ℕ) → slab.get leaves low ≡ Some leaf → leaf.parent ≡ Some at → HasChild inner at (Leaf low)
  pub inner_child : (below : ℕ) (node : InnerNode C R) (at : ℕ) → slab.get inner below ≡ Some node → node.parent ≡ Some at → HasChild inner at (Inner below)
  pub deeper : (below : ℕ) (node : InnerNode C R) (at : ℕ) (above : InnerNode C R) → slab.get inner below ≡ Some node → node.parent ≡ Some at → slab.get inner at ≡ Some above → node.depth ≡ suc above.depth
  pub unmarked : (at : ℕ) (node : InnerNode C R) → slab.get inner at ≡ Some node → node.kept ≡ false

-- Marks were set on the way up: each marked node is above a leaf, and so are all nodes above it, except that the node `up` is
-- still to be marked.
pub record IsMarking {K C R T : Type 0} (old now : slab.Slab (InnerNode C R)) (leaves : slab.Slab (LeafNode K T)) (up : Option ℕ) : Type 0 where
  pub same : (at : ℕ) → option_map bare (slab.get now at) ≡ slab.get old at
  pub closed : (at : ℕ) (node : InnerNode C R) (above : ℕ) → slab.get now at ≡ Some node → node.kept ≡ true → node.parent ≡ Some above → IsMarked now above ⊎ (up ≡ Some above)
  pub grounded : (at : ℕ) (node : InnerNode C R) → slab.get now at ≡ Some node → node.kept ≡ true → IsAboveLeaf old leaves (Inner at)
  pub next : (at : ℕ) → up ≡ Some at → IsAboveLeaf old leaves (Inner at)

-- the nodes above each of these leaves are marked
abbrev pub AreMarkedBelow : {K C R T : Type 0} → slab.Slab (InnerNode C R) → slab.Slab (LeafNode K T) → ℕ → Type 0
AreMarkedBelow inner leaves end = (low : ℕ) (leaf : _) (at : ℕ) → low < end → slab.get leaves low ≡ Some leaf → leaf.parent ≡ Some at → IsMarked inner at

-- the marks are set up from the leaf under the key `low`
pub record IsMarkingUp {K C R T : Type 0} (old now : slab.Slab (InnerNode C R)) (leaves : slab.Slab (LeafNode K T)) (low : ℕ) (up : Option ℕ) : Type 0 where
  pub marking : IsMarking old now leaves up
  pub before : AreMarkedBelow now leaves low
  pub above : (leaf : LeafNode K T) (at : ℕ) → slab.get leaves low ≡ Some leaf → leaf.parent ≡ Some at → IsMarked now at ⊎ (up ≡ Some at)

-- the nodes above each leaf are marked, and no others
pub record IsMarkedAbove {K C R T : Type 0} (old new : slab.Slab (InnerNode C R)) (leaves : slab.Slab (LeafNode K T)) : Type 0 where
  pub marking : IsMarking old new leaves None
  pub above : (low : ℕ) (leaf : LeafNode K T) (at : ℕ) → slab.get leaves low ≡ Some leaf → leaf.parent ≡ Some at → IsMarked new at

-- the node, with those of its children that exist
abbrev pub pruned_node : {K C R T : Type 0} → slab.Slab (InnerNode C R) → slab.Slab (LeafNode K T) → InnerNode C R → InnerNode C R
pruned_node inner leaves node = record node { children = linked inner leaves node.children }

-- the nodes before the key `end` have their existing children, and the others all that they had
pub record IsUnlinking {K C R T : Type 0} (old now : slab.Slab (InnerNode C R)) (leaves : slab.Slab (LeafNode K T)) (end : ℕ) : Type 0 where
  pub done : (at : ℕ) → at < end → slab.get now at ≡ option_map (pruned_node old leaves) (slab.get old at)
  pub rest : (at : ℕ) → end ≤ at → slab.get now at ≡ slab.get old at

-- the inner nodes above a leaf remain, with their existing children
pub record IsPruned {K C R T : Type 0} (old new : slab.Slab (InnerNode C R)) (leaves : slab.Slab (LeafNode K T)) : Type 0 where
  pub was : (at : ℕ) (node' : InnerNode C R) → slab.get new at ≡ Some node' → (node : InnerNode C R) × (slab.get old at ≡ Some node) × (node' ≡ pruned_node new leaves node)
  pub inner_above : (below : ℕ) (node : InnerNode C R) (at : ℕ) → slab.get new below ≡ Some node → node.parent ≡ Some at → has_node new leaves (Inner at) ≡ true
  pub leaf_above : (low : ℕ) (leaf : LeafNode K T) (at : ℕ) → slab.get leaves low ≡ Some leaf → leaf.parent ≡ Some at → has_node new leaves (Inner at) ≡ true
  pub grounded : (at : ℕ) (node : InnerNode C R) → slab.get new at ≡ Some node → IsAboveLeaf old leaves (Inner at)
