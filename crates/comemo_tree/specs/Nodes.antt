-- How the nodes of a tree are linked, and their entries. No public contract uses this.
use Rattle.std.specs.Prelude.{◌≡◌, ◌≢◌, ℕ, zero, suc, Bool, false, cond, List, [], ◌∷◌, ◌++◌, map, Option, Some, None, IsTrue, option_map}
use Rattle.std.specs.Option.{option_to_list}
use Rattle.std.specs.List.{slice_get, insert, IsDistinct}
use Rattle.std.specs.Map.{keys_of, lookup}
use Rattle.std.specs.HashMap.{HashMap, get}
use Rattle.slab.specs.Slab as slab
use Rattle.comemo_base.specs.Sequence.{HasDistinctCalls}
use Rattle.comemo_base.specs.Tree.{Stored, IsSamePath}
use Rattle.comemo_base.specs.Lookup.{under}
use Rattle.comemo_base.specs.Insertion.{Exists, Misses, IsStem, outside}
use Rattle.comemo_tree.specs.Node.{node_eq}
use Rattle.comemo_tree.specs.declared.children.Node.{Node}
use Rattle.comemo_tree.specs.declared.children.Node.TheVariants.{Inner, Leaf}
use Rattle.comemo_tree.specs.declared.tree.InnerNode.{InnerNode}
use Rattle.comemo_tree.specs.declared.tree.LeafNode.{LeafNode}
use Rattle.comemo_tree.specs.declared.tree.Start.{Start}

-- the answer that leads to the node
abbrev pub answer_to : {R : Type 0} → Node → List (R × Node) → Option R
answer_to next [] = None
answer_to next (p ∷ ps) = cond (node_eq p.1 next) (Some p.0) (answer_to next ps)

-- the answer leads to the node
abbrev pub Points : {R : Type 0} → List (R × Node) → R → Node → Type 0
Points children answer next = (i : ℕ) × (slice_get children i ≡ Some (answer, next))

-- the first node of a key
abbrev pub first_of : {K S : Type 0} → (K → K → Bool) → HashMap K Start S → K → Option Node
first_of eqk starts key = option_map (λ start. start.first) (get eqk starts key)

module _ {C R : Type 0} (inner : slab.Slab (InnerNode C R)) where
  -- the call above a node, with the answer that leads to it
  abbrev pub last_pair : InnerNode C R → Node → List (C × R)
  last_pair above node = option_to_list (option_map (λ answer. (above.call, answer)) (answer_to node above.children))

  -- where the way to a node begins, and its pairs, given those of its parent
  abbrev pub extended : (Option ℕ → Node × List (C × R)) → Node → Option (InnerNode C R) → Node × List (C × R)
  extended above node None = (node, [])
  extended above node (Some n) = ((above n.parent).0, (above n.parent).1 ++ last_pair n node)

  -- where the way to a node begins, and its pairs, by the node's depth and parent
  abbrev pub origin : ℕ → Node → Option ℕ → Node × List (C × R)
  origin zero node parent = (node, [])
  origin (suc depth) node None = (node, [])
  origin (suc depth) node (Some at) = extended (λ parent. origin depth (Inner at) parent) node (slab.get inner at)

  -- the pairs lead from one node to another
  abbrev pub Leads : Node → List (C × R) → Node → Type 0
  Leads from [] to = from ≡ to
  Leads from (p ∷ ps) to =
      (at : ℕ) × (node : InnerNode C R) × (next : Node) × (from ≡ Inner at) × (slab.get inner at ≡ Some node) × (node.call ≡ p.0) × Points node.children p.1 next × Leads next ps to

  -- the pairs lead from the first node of a key
  abbrev pub LeadsFrom : {K S : Type 0} → (K → K → Bool) → HashMap K Start S → K → List (C × R) → Node → Type 0
  LeadsFrom eqk starts key ps to = (first : Node) × (first_of eqk starts key ≡ Some first) × Leads first ps to

-- the path of a leaf, and its entry
module _ {K C R T : Type 0} (inner : slab.Slab (InnerNode C R)) where
  abbrev pub path_of : ℕ → LeafNode K T → List (C × R)
  path_of at leaf = (origin inner leaf.depth (Leaf at) leaf.parent).1

  abbrev pub entry_of : ℕ × LeafNode K T → Stored K C R T
  entry_of e = record { key = e.1.key.value; path = path_of e.0 e.1; value = e.1.value }

  -- the entries of the leaves
  abbrev pub contents : slab.Slab (LeafNode K T) → List (Stored K C R T)
  contents leaves = map entry_of (slab.entries leaves)

  -- the node exists, with that parent and depth
  abbrev pub IsAt : slab.Slab (LeafNode K T) → Node → Option ℕ → ℕ → Type 0
  IsAt leaves (Inner at) parent depth = (node : InnerNode C R) × (slab.get inner at ≡ Some node) × (node.parent ≡ parent) × (node.depth ≡ depth)
  IsAt leaves (Leaf at) parent depth = (leaf : LeafNode K T) × (slab.get leaves at ≡ Some leaf) × (leaf.parent ≡ parent) × (leaf.depth ≡ depth)

-- a way may end at a leaf, or at the inner node to which a child is to be added
abbrev pub IsEnd : Option ℕ → Node → Type 0
IsEnd tip (Inner at) = tip ≡ Some at
IsEnd tip (Leaf at) = Unit {0}

-- Each child knows its parent; each leaf is where its path leads from the start of its key; below each inner node is a leaf, or
-- the tip: a node that has no child yet while a path is added.
pub record IsForest {K C R T S : Type 0} (eq : C → C → Bool) (same : R → R → Bool) (eqk : K → K → Bool) (tip : Option ℕ) (inner : slab.Slab (InnerNode C R)) (leaves : slab.Slab (LeafNode K T)) (starts : HashMap K Start S) : Type 0 where
  -- no two answers of a node are equal
  pub answers : (at : ℕ) (node : InnerNode C R) → slab.get inner at ≡ Some node → IsDistinct same (keys_of node.children)
  -- a child exists, one below its parent, and the answer is the first that leads to it
  pub child : (at : ℕ) (node : InnerNode C R) (answer : R) (next : Node) → slab.get inner at ≡ Some node → Points node.children answer next → IsAt inner leaves next (Some at) (suc node.depth) × (answer_to next node.children ≡ Some answer)
  -- the first node of a key exists, and has no parent
  pub start : (key : K) (first : Node) → first_of eqk starts key ≡ Some first → IsAt inner leaves first None 0
  -- keys with the same first node are equal
  pub apart : (k l : K) (first : Node) → first_of eqk starts k ≡ Some first → first_of eqk starts l ≡ Some first → IsTrue (eqk k l)
  -- a leaf is where its path leads from the start of its key
  pub led : (at : ℕ) (leaf : LeafNode K T) → slab.get leaves at ≡ Some leaf → LeadsFrom inner eqk starts leaf.key.value (path_of inner at leaf) (Leaf at)
  -- from each inner node some pairs lead to an end
  pub below : (at : ℕ) (node : InnerNode C R) → slab.get inner at ≡ Some node → (to : Node) × (rest : List (C × R)) × Leads inner (Inner at) rest to × IsEnd tip to
  -- the calls of a path are distinct
  pub distinct : (at : ℕ) (leaf : LeafNode K T) → slab.get leaves at ≡ Some leaf → HasDistinctCalls eq (path_of inner at leaf)
  -- no pruning is under way
  pub unmarked : (at : ℕ) (node : InnerNode C R) → slab.get inner at ≡ Some node → node.kept ≡ false

-- one inner node was added below the node `parent`, under an answer that had no child
pub record AddsInner {C R : Type 0} (same : R → R → Bool) (old new : slab.Slab (InnerNode C R)) (parent : ℕ) (answer : R) (call : C) (id : ℕ) : Type 0 where
  pub above : InnerNode C R
  pub above' : InnerNode C R
  pub place : ℕ
  pub fresh : InnerNode C R
  pub at : slab.get old parent ≡ Some above
  pub at' : slab.get new parent ≡ Some above'
  pub same_call : above'.call ≡ above.call
  pub same_parent : above'.parent ≡ above.parent
  pub same_depth : above'.depth ≡ above.depth
  pub same_kept : above'.kept ≡ above.kept
  pub grown : above'.children ≡ insert above.children place (answer, Inner id)
  pub vacant : slab.get old id ≡ None
  pub here : slab.get new id ≡ Some fresh
  pub fresh_call : fresh.call ≡ call
  pub fresh_parent : fresh.parent ≡ Some parent
  pub fresh_depth : fresh.depth ≡ suc above.depth
  pub childless : fresh.children ≡ []
  pub unmarked : fresh.kept ≡ false
  pub others : (x : ℕ) → x ≢ parent → x ≢ id → slab.get new x ≡ slab.get old x

-- one leaf was added below the node `parent`, under an answer that had no child
pub record AddsLeaf {K C R T : Type 0} (old new : slab.Slab (InnerNode C R)) (leaves leaves' : slab.Slab (LeafNode K T)) (parent : ℕ) (answer : R) (key : K) (value : T) : Type 0 where
  pub above : InnerNode C R
  pub above' : InnerNode C R
  pub place : ℕ
  pub id : ℕ
  pub fresh : LeafNode K T
  pub at : slab.get old parent ≡ Some above
  pub at' : slab.get new parent ≡ Some above'
  pub same_call : above'.call ≡ above.call
  pub same_parent : above'.parent ≡ above.parent
  pub same_depth : above'.depth ≡ above.depth
  pub same_kept : above'.kept ≡ above.kept
  pub grown : above'.children ≡ insert above.children place (answer, Leaf id)
  pub vacant : slab.get leaves id ≡ None
  pub updates : slab.Updates leaves leaves' id (Some fresh)
  pub fresh_key : fresh.key.value ≡ key
  pub fresh_value : fresh.value ≡ value
  pub fresh_parent : fresh.parent ≡ Some parent
  pub fresh_depth : fresh.depth ≡ suc above.depth
  pub others : (x : ℕ) → x ≢ parent → slab.get new x ≡ slab.get old x

-- the path of a sequence diverges from the stored ones at the inner node `at`, where the answer has no child, and the rest of
-- the pairs remain
pub record Forks {K C R T S : Type 0} (eq : C → C → Bool) (same : R → R → Bool) (eqk : K → K → Bool) (inner : slab.Slab (InnerNode C R)) (leaves : slab.Slab (LeafNode K T)) (starts : HashMap K Start S) (key : K) (s : List (C × R)) (at : ℕ) (answer : R) (left : List (C × R)) : Type 0 where
  pub node : InnerNode C R
  pub is : slab.get inner at ≡ Some node
  pub none : lookup (same answer) node.children ≡ None
  pub done : List (C × R)
  pub lead : LeadsFrom inner eqk starts key done (Inner at)
  pub asked : List (C × R)
  pub same_prefix : IsSamePath eq same asked done
  pub stem : IsStem eq same (under eqk (contents inner leaves) key) s (asked ++ (node.call, answer) ∷ [])
  pub rest : left ≡ outside eq (asked ++ (node.call, answer) ∷ []) s
  pub distinct : HasDistinctCalls eq ((asked ++ (node.call, answer) ∷ []) ++ left)
  pub not_there : ¬ Exists eq same (under eqk (contents inner leaves) key) s
  pub not_missing : ¬ Misses eq same (under eqk (contents inner leaves) key) s
