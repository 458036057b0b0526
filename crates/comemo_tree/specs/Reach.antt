-- The keys whose paths ask given calls.
use Rattle.std.specs.Prelude.{◌≡◌, ◌<◌, ◌≤◌, ℕ, suc, Bool, false, List, Some, IsTrue, get_or, length}
use Rattle.std.specs.List.{Any, list_any}
use Rattle.slab.specs.Slab as slab
use Rattle.comemo_base.specs.Tree.{Stored}
use Rattle.comemo_tree.specs.Nodes.{origin}
use Rattle.comemo_tree.specs.declared.children.Node.{Node}
use Rattle.comemo_tree.specs.declared.children.Node.TheVariants.{Inner, Leaf}
use Rattle.comemo_tree.specs.declared.tree.InnerNode.{InnerNode}

module _ {C : Type 0} (eq : C → C → Bool) (calls : List C) where
  -- the call is one of these
  abbrev pub is_one : C → Bool
  is_one call = list_any (λ c. eq c call) calls

  -- one of these is asked in the list
  abbrev pub asks_one : {R : Type 0} → List (C × R) → Bool
  asks_one ps = list_any (λ p. is_one p.0) ps

  -- a path under the key asks one of these
  abbrev pub AsksUnder : {K R T : Type 0} → (K → K → Bool) → List (Stored K C R T) → K → Type 0
  AsksUnder eqk es key = Any (λ e. IsTrue (eqk e.key key) × IsTrue (asks_one e.path)) es

-- ---- the nodes; no public contract uses this
module _ {C R : Type 0} (inner : slab.Slab (InnerNode C R)) where
  -- the parent of a node exists, one above it
  pub record HasParents : Type 0 where
    pub parent : (below : ℕ) (node : InnerNode C R) (at : ℕ) → slab.get inner below ≡ Some node → node.parent ≡ Some at → (above : InnerNode C R) × (slab.get inner at ≡ Some above) × (node.depth ≡ suc above.depth)

  -- the way to the node begins at that node
  abbrev pub IsFirstOf : ℕ → ℕ → Type 0
  IsFirstOf from first = (node : InnerNode C R) × (slab.get inner from ≡ Some node) × ((origin inner node.depth (Inner from) node.parent).0 ≡ Inner first)

-- a first node is marked if a node below it, or it itself, asks one of the calls
pub record IsMarkedUpTo {C R : Type 0} (eq : C → C → Bool) (calls : List C) (inner : slab.Slab (InnerNode C R)) (marks : List Bool) (end : ℕ) : Type 0 where
  pub len : length inner.slots ≤ length marks
  pub marked : (at : ℕ) (node : InnerNode C R) (first : ℕ) → at < end → slab.get inner at ≡ Some node → IsTrue (is_one eq calls node.call) → IsFirstOf inner at first → IsTrue (get_or marks first false)
  pub only : (first : ℕ) → IsTrue (get_or marks first false) → (at : ℕ) × (node : InnerNode C R) × (slab.get inner at ≡ Some node) × IsTrue (is_one eq calls node.call) × IsFirstOf inner at first

abbrev pub IsMarkedFor : {C R : Type 0} → (C → C → Bool) → List C → slab.Slab (InnerNode C R) → List Bool → Type 0
IsMarkedFor eq calls inner marks = IsMarkedUpTo eq calls inner marks (length inner.slots)

-- whether the node is marked
abbrev pub marked : List Bool → Node → Bool
marked marks (Inner at) = get_or marks at false
marked marks (Leaf at) = false
