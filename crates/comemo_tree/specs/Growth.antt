-- How a path is added to the nodes of a tree. No public contract uses this.
use Rattle.std.specs.Prelude.{◌≡◌, ℕ, zero, suc, Bool, cond, List, ◌∷◌, ◌++◌, Option, Some, None}
use Rattle.std.specs.List.Sorted.{IsPermutation}
use Rattle.std.specs.Map.{lookup}
use Rattle.std.specs.HashMap.{HashMap, get}
use Rattle.slab.specs.Slab as slab
use Rattle.comemo_base.specs.Sequence.{HasDistinctCalls}
use Rattle.comemo_base.specs.Tree.{stored}
use Rattle.comemo_tree.specs.Nodes.{LeadsFrom, IsForest, contents}
use Rattle.comemo_tree.specs.declared.children.Node.{Node}
use Rattle.comemo_tree.specs.declared.children.Node.TheVariants.{Inner, Leaf}
use Rattle.comemo_tree.specs.declared.tree.InnerNode.{InnerNode}
use Rattle.comemo_tree.specs.declared.tree.LeafNode.{LeafNode}
use Rattle.comemo_tree.specs.declared.tree.Start.{Start}

-- a path of the key can be added that continues from the node `at` with the answer, which has no child yet, and then with the
-- remaining pairs: each node has a leaf below it, or is above that node
pub record CanGrow {K C R T S : Type 0} (eq : C → C → Bool) (same : R → R → Bool) (eqk : K → K → Bool) (inner : slab.Slab (InnerNode C R)) (leaves : slab.Slab (LeafNode K T)) (starts : HashMap K Start S) (key : K) (at : ℕ) (answer : R) (left : List (C × R)) : Type 0 where
  pub tip : Option ℕ
  pub forest : IsForest eq same eqk tip inner leaves starts
  pub only : (u : ℕ) → tip ≡ Some u → u ≡ at
  pub node : InnerNode C R
  pub is : slab.get inner at ≡ Some node
  pub none : lookup (same answer) node.children ≡ None
  pub done : List (C × R)
  pub lead : LeadsFrom inner eqk starts key done (Inner at)
  pub distinct : HasDistinctCalls eq (done ++ (node.call, answer) ∷ left)

-- the nodes are a tree whose entries are the earlier ones and one more
pub record Grown {K C R T S : Type 0} (eq : C → C → Bool) (same : R → R → Bool) (eqk : K → K → Bool) (inner : slab.Slab (InnerNode C R)) (leaves : slab.Slab (LeafNode K T)) (inner' : slab.Slab (InnerNode C R)) (leaves' : slab.Slab (LeafNode K T)) (starts' : HashMap K Start S) (key : K) (path : List (C × R)) (value : T) : Type 0 where
  pub forest : IsForest eq same eqk None inner' leaves' starts'
  pub entries : IsPermutation (stored key path value ∷ contents inner leaves) (contents inner' leaves')

-- both slabs have the values that they had
abbrev pub SameNodes : {X Y : Type 0} → slab.Slab X → slab.Slab Y → slab.Slab X → slab.Slab Y → Type 0
SameNodes inner leaves inner' leaves' = (inner'.slots ≡ inner.slots) × (leaves'.slots ≡ leaves.slots)

-- the node comes next, for a first path with this many pairs
abbrev pub Begins : {K C R T : Type 0} → slab.Slab (InnerNode C R) → slab.Slab (LeafNode K T) → ℕ → Node → Type 0
Begins inner leaves zero first = first ≡ Leaf leaves.vacant_key
Begins inner leaves (suc n) first = first ≡ Inner inner.vacant_key

-- the key was stored, and begins with that node
abbrev pub PutsFirst : {K C R T S : Type 0} → (K → K → Bool) → slab.Slab (InnerNode C R) → slab.Slab (LeafNode K T) → HashMap K Start S → HashMap K Start S → K → ℕ → Type 0
PutsFirst {K} eqk inner leaves starts starts' key count =
    (began : Start) × Begins inner leaves count began.first × ((k : K) → get eqk starts' k ≡ cond (eqk key k) (Some began) (get eqk starts k))
