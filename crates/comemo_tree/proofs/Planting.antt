-- The first path of a new key.
use Rattle.std.proofs.Common.{◌≡◌, ◌∙◌, ℕ, Bool, false, cond, List, [], ◌∷◌, Option, Some, None, Result, Ok, Err, IfOk, IfNone, refl, sym, ap, subst}
use Rattle.std.specs.Cmp.{IsEquivalence}
use Rattle.std.specs.HashMap.{HashMap, get}
use Rattle.std.specs.List.Sorted.{IsPermutation}
use Rattle.std.specs.Map.{lookup}
use Rattle.std.proofs.lemmas.List.Sorted.{IsPermutation-map}
use Rattle.slab.specs.Slab as slab
use Rattle.slab.proofs.SlabLemmas.{Contains-entries}
use Rattle.comemo_base.specs.Sequence.{HasDistinctCalls}
use Rattle.comemo_base.specs.Tree.{stored}
use Rattle.comemo_tree.specs.Nodes.{LeadsFrom, entry_of, contents, path_of, IsForest}
use Rattle.comemo_tree.specs.Growth.{CanGrow, Grown}
use Rattle.comemo_tree.specs.declared.children.Node.TheVariants.{Inner, Leaf}
use Rattle.comemo_tree.specs.declared.tree.InnerNode.{InnerNode}
use Rattle.comemo_tree.specs.declared.tree.LeafNode.{LeafNode}
use Rattle.comemo_tree.specs.declared.tree.Start.{Start}
use Rattle.comemo_tree.proofs.Attach.{map_same}
use Rattle.comemo_tree.proofs.Added.{entries-added}
use Rattle.comemo_tree.proofs.Planted.{Planted, IsForest-planted, path_kept, path_new, lead_new}
use Rattle.comemo_tree.proofs.Chain.{same_key}

-- what holds where nothing was found
pub IfOk-none : {A E : Type 0} {P Q : Type 0} (r : Result (Option A) E) → (P → Q) → IfOk r (λ found. IfNone found P) → IfOk r (λ found. IfNone found Q)
IfOk-none (Ok None) h p = h p
IfOk-none (Ok (Some x)) h p = tt
IfOk-none (Err e) h p = tt

-- what was added to one tree was added to another with the same entries
pub Grown-moved : {K C R T S : Type 0} {eq : C → C → Bool} {same : R → R → Bool} {eqk : K → K → Bool} {inner inner' later : slab.Slab (InnerNode C R)} {leaves leaves' later' : slab.Slab (LeafNode K T)} {starts : HashMap K Start S} {key key' : K} {path path' : List (C × R)} {value : T} → contents inner' leaves' ≡ contents inner leaves → key ≡ key' → path ≡ path' → Grown eq same eqk inner' leaves' later later' starts key path value → Grown eq same eqk inner leaves later later' starts key' path' value
Grown-moved {inner = inner} {inner' = inner'} {later = later} {leaves = leaves} {leaves' = leaves'} {later' = later'} {key = key} {key' = key'} {path = path} {path' = path'} {value = value} e k p g = record {
  forest = g.forest;
  entries = subst (λ xs. IsPermutation xs (contents later later')) (ap (λ es. stored key path value ∷ es) e ∙ ap (λ x. stored x path value ∷ contents inner leaves) k ∙ ap (λ ps. stored key' ps value ∷ contents inner leaves) p) g.entries;
}

module _ {C R K T S : Type 0} {eq : C → C → Bool} {same : R → R → Bool} {eqk : K → K → Bool} (keys : IsEquivalence eqk) {inner : slab.Slab (InnerNode C R)} {leaves : slab.Slab (LeafNode K T)} {starts : HashMap K Start S} (forest : IsForest eq same eqk None inner leaves starts) (starts' : HashMap K Start S) (key : K) (began : Start) (none : get eqk starts key ≡ None) (gets : (k : K) → get eqk starts' k ≡ cond (eqk key k) (Some began) (get eqk starts k)) (id : ℕ) where
  -- a path without calls is a leaf
  module _ {leaves' : slab.Slab (LeafNode K T)} (leaf : LeafNode K T) (first : began.first ≡ Leaf id) (vacant : slab.get leaves id ≡ None) (updates : slab.Updates leaves leaves' id (Some leaf)) (own : leaf.key.value ≡ key) (parent : leaf.parent ≡ None) (depth : leaf.depth ≡ 0) where
    is_leaf : (x : ℕ) (m : LeafNode K T) → Leaf x ≡ Leaf id → slab.get leaves' x ≡ Some m → m ≡ leaf
    is_leaf x m e f =
        let k : x ≡ id = cc in
        let l : Some m ≡ Some leaf = sym f ∙ ap (slab.get leaves') k ∙ updates.changed in
        cc

    Planted-leaf : Planted eqk inner inner leaves leaves' starts starts' key (Leaf id)
    Planted-leaf = record {
      began = began;
      first = first;
      none = none;
      gets = gets;
      here = (leaf, updates.changed, parent, depth);
      vacant = λ p d h. let l : None ≡ Some h.0 = sym vacant ∙ h.1 in cc;
      other_inner = λ x e. refl;
      other_leaves = λ x e. updates.others x (λ f. e (ap Leaf f));
      childless = λ x m e f. let l : Inner x ≡ Leaf id = e in cc;
      own = λ x m e f. ap (λ (z : LeafNode K T). z.key.value) (is_leaf x m e f) ∙ own;
    }

    pub Grown-leaf : (value : T) → leaf.value ≡ value → Grown eq same eqk inner leaves inner leaves' starts' key [] value
    Grown-leaf value is =
        let more = IsPermutation-map (entry_of inner) _ _ (entries-added leaves leaves' id leaf vacant updates) in
        let new : entry_of inner (id, leaf) ≡ stored key [] value =
        ap (λ k. stored k (path_of inner id leaf) leaf.value) own
        ∙ ap (λ ps. stored key ps leaf.value) (path_new keys forest key (Leaf id) Planted-leaf id leaf refl updates.changed)
        ∙ ap (λ v. stored key [] v) is in
        record {
          forest = IsForest-planted keys forest key (Leaf id) Planted-leaf tt;
          entries = subst (λ e. IsPermutation (e ∷ contents inner leaves) (contents inner leaves')) new more;
        }

  -- a path with calls begins with an inner node
  module _ {inner' : slab.Slab (InnerNode C R)} (node : InnerNode C R) (first : began.first ≡ Inner id) (vacant : slab.get inner id ≡ None) (updates : slab.Updates inner inner' id (Some node)) (childless : node.children ≡ []) (unmarked : node.kept ≡ false) (parent : node.parent ≡ None) (depth : node.depth ≡ 0) where
    is_node : (x : ℕ) (m : InnerNode C R) → Inner x ≡ Inner id → slab.get inner' x ≡ Some m → m ≡ node
    is_node x m e f =
        let k : x ≡ id = cc in
        let l : Some m ≡ Some node = sym f ∙ ap (slab.get inner') k ∙ updates.changed in
        cc

    Planted-inner : Planted eqk inner inner' leaves leaves starts starts' key (Inner id)
    Planted-inner = record {
      began = began;
      first = first;
      none = none;
      gets = gets;
      here = (node, updates.changed, parent, depth);
      vacant = λ p d h. let l : None ≡ Some h.0 = sym vacant ∙ h.1 in cc;
      other_inner = λ x e. updates.others x (λ f. e (ap Inner f));
      other_leaves = λ x e. refl;
      childless = λ x m e f. (ap (λ (z : InnerNode C R). z.children) (is_node x m e f) ∙ childless, ap (λ (z : InnerNode C R). z.kept) (is_node x m e f) ∙ unmarked);
      own = λ x m e f. let l : Leaf x ≡ Inner id = e in cc;
    }

    -- what the rest of the path asks for, and what it is added to
    abbrev pub First : R → List (C × R) → Type 0
    First answer left =
        CanGrow eq same eqk inner' leaves starts' key id answer left
        × (slab.get inner' id ≡ Some node)
        × LeadsFrom inner' eqk starts' key [] (Inner id)
        × (contents inner' leaves ≡ contents inner leaves)

    pub first_inner : (answer : R) (left : List (C × R)) → HasDistinctCalls eq ((node.call, answer) ∷ left) → First answer left
    first_inner answer left distinct =
        let lead = lead_new keys forest key (Inner id) Planted-inner in (
          record {
            tip = Some id;
            forest = IsForest-planted keys forest key (Inner id) Planted-inner refl;
            only = λ u e. same_key id u e;
            node = node;
            is = updates.changed;
            none = ap (λ xs. lookup (same answer) xs) childless;
            done = [];
            lead = lead;
            distinct = distinct;
          },
          updates.changed,
          lead,
          map_same (entry_of inner') (entry_of inner) (slab.entries leaves) (λ x c.
              let path = path_kept keys forest key (Inner id) Planted-inner x.0 x.1 ((Contains-entries leaves x.0 x.1).0 c) in
              ap (λ ps. stored x.1.key.value ps x.1.value) path),
        )
