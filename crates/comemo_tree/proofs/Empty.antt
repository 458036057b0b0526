-- An empty tree, and how many entries a tree has.
use Rattle.std.proofs.Common.{◌≡◌, ◌∙◌, ℕ, Bool, List, [], length, get_or, Some, None, sym, ap}
use Rattle.std.specs.Map.{lookup}
use Rattle.std.specs.Prelude.{option_map}
use Rattle.std.specs.HashMap.{HashMap}
use Rattle.slab.specs.Slab as slab
use Rattle.slab.proofs.SlabLemmas.{length-entries}
use Rattle.comemo_tree.specs.Nodes.{IsForest, contents, entry_of, first_of}
use Rattle.comemo_tree.specs.declared.children.Node.{Node}
use Rattle.comemo_tree.specs.declared.tree.Start.{Start}
use Rattle.comemo_tree.specs.declared.tree.InnerNode.{InnerNode}
use Rattle.comemo_tree.specs.declared.tree.LeafNode.{LeafNode}
use Rattle.std.proofs.lemmas.List.{length-map}

pub length-contents : {K C R T : Type 0} (inner : slab.Slab (InnerNode C R)) (leaves : slab.Slab (LeafNode K T)) → length (contents inner leaves) ≡ slab.slab_len leaves
length-contents inner leaves = length-map (slab.entries leaves) (entry_of inner) ∙ length-entries leaves

nothing : {X P : Type 0} (s : slab.Slab X) (at : ℕ) (x : X) → s.slots ≡ [] → slab.get s at ≡ Some x → P
nothing s at x e f = let l : None ≡ Some x = sym (ap (λ xs. get_or xs at None) e) ∙ f in cc

no_first : {K S P : Type 0} (eqk : K → K → Bool) (m : HashMap K Start S) (k : K) (first : Node) → m.entries ≡ [] → first_of eqk m k ≡ Some first → P
no_first eqk m k first e f = let l : None ≡ Some first = sym (ap (λ (es : List (_ × Start)). option_map (λ (start : Start). start.first) (lookup (eqk k) es)) e) ∙ f in cc

pub IsForest-empty : {K C R T S : Type 0} (eq : C → C → Bool) (same : R → R → Bool) (eqk : K → K → Bool) (inner : slab.Slab (InnerNode C R)) (leaves : slab.Slab (LeafNode K T)) (starts : HashMap K Start S) → inner.slots ≡ [] → leaves.slots ≡ [] → starts.entries ≡ [] → IsForest eq same eqk None inner leaves starts
IsForest-empty eq same eqk inner leaves starts i l s = record {
  answers = λ at node e. nothing inner at node i e;
  child = λ at node r next e p. nothing inner at node i e;
  start = λ key first e. no_first eqk starts key first s e;
  apart = λ k m first e f. no_first eqk starts k first s e;
  led = λ at leaf e. nothing leaves at leaf l e;
  below = λ at node e. nothing inner at node i e;
  distinct = λ at leaf e. nothing leaves at leaf l e;
  unmarked = λ at node e. nothing inner at node i e;
}
