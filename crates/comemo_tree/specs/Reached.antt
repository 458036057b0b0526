-- The leaf to which a list of answers leads. No public contract uses this.
use Rattle.std.specs.Prelude.{ℕ, Bool, List}
use Rattle.std.specs.HashMap.{HashMap}
use Rattle.slab.specs.Slab as slab
use Rattle.comemo_tree.specs.Change.{HasAnswers}
use Rattle.comemo_tree.specs.Nodes.{LeadsFrom}
use Rattle.comemo_tree.specs.declared.children.Node.TheVariants.{Leaf}
use Rattle.comemo_tree.specs.declared.tree.InnerNode.{InnerNode}
use Rattle.comemo_tree.specs.declared.tree.Start.{Start}

-- a path with exactly these answers leads from the key to the leaf
abbrev pub LeadsByAnswers : {K C R S : Type 0} → (R → R → Bool) → (K → K → Bool) → slab.Slab (InnerNode C R) → HashMap K Start S → K → List R → ℕ → Type 0
LeadsByAnswers {K} {C} {R} same eqk inner starts key answers at =
    (path : List (C × R)) × LeadsFrom inner eqk starts key path (Leaf at) × HasAnswers same path answers
