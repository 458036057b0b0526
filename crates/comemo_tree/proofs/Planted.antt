-- What the first node of a new key preserves.
use Rattle.std.proofs.Common.{◌≡◌, ◌≢◌, ◌⊎◌, ℕ, suc, Bool, true, false, cond, List, [], ◌∷◌, length, Option, Some, None, refl, sym, ap, subst, ◌∙◌, inl, inr, IsTrue}
use Rattle.std.specs.Prelude.{option_map}
use Rattle.std.specs.Cmp.{IsEquivalence}
use Rattle.std.specs.List.{IsDistinct}
use Rattle.std.specs.Map.{keys_of}
use Rattle.std.specs.HashMap.Eq.{lookup_congr}
use Rattle.std.specs.HashMap.{HashMap, get}
use Rattle.std.proofs.lemmas.Bool.{cases_Bool}
use Rattle.slab.specs.Slab as slab
use Rattle.comemo_base.specs.Sequence.{HasDistinctCalls}
use Rattle.comemo_base.proofs.Paths.{turned, joined}
use Rattle.comemo_tree.specs.Node.{node_eq}
use Rattle.comemo_tree.specs.Nodes.{answer_to, Points, Leads, LeadsFrom, origin, path_of, IsAt, IsEnd, IsForest, first_of}
use Rattle.comemo_tree.specs.declared.children.Node.{Node}
use Rattle.comemo_tree.specs.declared.children.Node.TheVariants.{Inner, Leaf}
use Rattle.comemo_tree.specs.declared.tree.InnerNode.{InnerNode}
use Rattle.comemo_tree.specs.declared.tree.LeafNode.{LeafNode}
use Rattle.comemo_tree.specs.declared.tree.Start.{Start}
use Rattle.comemo_tree.proofs.Forest.{knows_led}
use Rattle.comemo_tree.proofs.Attach.{node_eq-itself, node_eq-true, no_points}

-- one node was added, and the new key begins with it
pub record Planted {K C R T S : Type 0} (eqk : K → K → Bool) (inner inner' : slab.Slab (InnerNode C R)) (leaves leaves' : slab.Slab (LeafNode K T)) (starts starts' : HashMap K Start S) (key : K) (fresh : Node) : Type 0 where
  pub began : Start
  pub first : began.first ≡ fresh
  pub none : get eqk starts key ≡ None
  pub gets : (k : K) → get eqk starts' k ≡ cond (eqk key k) (Some began) (get eqk starts k)
  pub here : IsAt inner' leaves' fresh None 0
  pub vacant : (parent : Option ℕ) (depth : ℕ) → IsAt inner leaves fresh parent depth → ⊥
  pub other_inner : (x : ℕ) → Inner x ≢ fresh → slab.get inner' x ≡ slab.get inner x
  pub other_leaves : (x : ℕ) → Leaf x ≢ fresh → slab.get leaves' x ≡ slab.get leaves x
  pub childless : (x : ℕ) (m : InnerNode C R) → Inner x ≡ fresh → slab.get inner' x ≡ Some m → (m.children ≡ []) × (m.kept ≡ false)
  pub own : (x : ℕ) (leaf : LeafNode K T) → Leaf x ≡ fresh → slab.get leaves' x ≡ Some leaf → leaf.key.value ≡ key

apart_nodes : {P : Type 0} (a b : Node) → node_eq a b ≡ false → a ≡ b → P
apart_nodes a b f s = let l : true ≡ false = sym (node_eq-itself a) ∙ ap (node_eq a) s ∙ f in cc

module _ {C R : Type 0} {eq : C → C → Bool} {same : R → R → Bool} {K T S : Type 0} {eqk : K → K → Bool} (keys : IsEquivalence eqk) {inner inner' : slab.Slab (InnerNode C R)} {leaves leaves' : slab.Slab (LeafNode K T)} {starts starts' : HashMap K Start S} (forest : IsForest eq same eqk None inner leaves starts) (key : K) (fresh : Node) (a : Planted eqk inner inner' leaves leaves' starts starts' key fresh) where
  inner_there : (x : ℕ) (m : InnerNode C R) → slab.get inner x ≡ Some m → Inner x ≢ fresh
  inner_there x m e f = a.vacant m.parent m.depth (subst (λ z. IsAt inner leaves z m.parent m.depth) f (m, e, refl, refl))

  -- each node stays where it was
  kept_at : (y : Node) (parent : Option ℕ) (depth : ℕ) → IsAt inner leaves y parent depth → IsAt inner' leaves' y parent depth
  kept_at (Inner x) parent depth h = (h.0, a.other_inner x (inner_there x h.0 h.1) ∙ h.1, h.2, h.3)
  kept_at (Leaf x) parent depth h = (h.0, a.other_leaves x (λ e. a.vacant parent depth (subst (λ z. IsAt inner leaves z parent depth) e h)) ∙ h.1, h.2, h.3)

  -- where a node comes from
  inner_cases : (x : ℕ) (m : InnerNode C R) → slab.get inner' x ≡ Some m → (Inner x ≡ fresh) ⊎ (slab.get inner x ≡ Some m)
  inner_cases x m e = elim (cases_Bool (node_eq (Inner x) fresh)) [
    | inl f ↦ inl (node_eq-true (Inner x) fresh f)
    | inr f ↦ inr (sym (a.other_inner x (λ s. apart_nodes (Inner x) fresh f s)) ∙ e)
  ]

  leaf_cases : (x : ℕ) (leaf : LeafNode K T) → slab.get leaves' x ≡ Some leaf → (Leaf x ≡ fresh) ⊎ (slab.get leaves x ≡ Some leaf)
  leaf_cases x leaf e = elim (cases_Bool (node_eq (Leaf x) fresh)) [
    | inl f ↦ inl (node_eq-true (Leaf x) fresh f)
    | inr f ↦ inr (sym (a.other_leaves x (λ s. apart_nodes (Leaf x) fresh f s)) ∙ e)
  ]

  -- what a key begins with
  gets_new : (k : K) → eqk key k ≡ true → get eqk starts' k ≡ Some a.began
  gets_new k e = a.gets k ∙ ap (λ b. cond b (Some a.began) (get eqk starts k)) e

  gets_old : (k : K) → eqk key k ≡ false → get eqk starts' k ≡ get eqk starts k
  gets_old k e = a.gets k ∙ ap (λ b. cond b (Some a.began) (get eqk starts k)) e

  first_new : (k : K) → eqk key k ≡ true → first_of eqk starts' k ≡ Some fresh
  first_new k e = ap (option_map (λ (s : Start). s.first)) (gets_new k e) ∙ ap Some a.first

  first_old : (k : K) → eqk key k ≡ false → first_of eqk starts' k ≡ first_of eqk starts k
  first_old k e = ap (option_map (λ (s : Start). s.first)) (gets_old k e)

  first_cases : (k : K) (f : Node) → first_of eqk starts' k ≡ Some f → (IsTrue (eqk key k) × (f ≡ fresh)) ⊎ (first_of eqk starts k ≡ Some f)
  first_cases k f e = elim (cases_Bool (eqk key k)) [
    | inl t ↦ (let two : Some f ≡ Some fresh = sym e ∙ first_new k t in let one : f ≡ fresh = cc in inl (t, one))
    | inr n ↦ inr (sym (first_old k n) ∙ e)
  ]

  first_kept : (k : K) (f : Node) → first_of eqk starts k ≡ Some f → first_of eqk starts' k ≡ Some f
  first_kept k f e = elim (cases_Bool (eqk key k)) [
    | inl t ↦ (let no : None ≡ Some f = ap (option_map (λ (s : Start). s.first)) (sym a.none ∙ lookup_congr eqk keys.congr starts.entries key k t) ∙ e in cc)
    | inr n ↦ first_old k n ∙ e
  ]

  child' : (x : ℕ) (m : InnerNode C R) (s : R) (next : Node) → slab.get inner' x ≡ Some m → Points m.children s next → IsAt inner' leaves' next (Some x) (suc m.depth) × (answer_to next m.children ≡ Some s)
  child' x m s next e p = elim (inner_cases x m e) [
    | inl f ↦ (let none : m.children ≡ [] = (a.childless x m f e).0 in no_points s next (subst (λ xs. Points xs s next) none p))
    | inr o ↦ (let c = forest.child x m s next o p in (kept_at next (Some x) (suc m.depth) c.0, c.1))
  ]

  -- what led somewhere leads there still
  leads' : (from : Node) (ps : List (C × R)) (to : Node) → Leads inner from ps to → Leads inner' from ps to
  leads' from [] to h = h
  leads' from (p ∷ ps) to h = (h.0, h.1, h.2, h.3, a.other_inner h.0 (inner_there h.0 h.1 h.4) ∙ h.4, h.5, h.6, leads' h.2 ps to h.7)

  start' : (k : K) (f : Node) → first_of eqk starts' k ≡ Some f → IsAt inner' leaves' f None 0
  start' k f e = elim (first_cases k f e) [
    | inl h ↦ subst (λ z. IsAt inner' leaves' z None 0) (sym h.1) a.here
    | inr o ↦ kept_at f None 0 (forest.start k f o)
  ]

  not_first : {P : Type 0} (k : K) (f : Node) → f ≡ fresh → first_of eqk starts k ≡ Some f → P
  not_first k f e o = absurd (a.vacant None 0 (subst (λ z. IsAt inner leaves z None 0) e (forest.start k f o)))

  apart' : (k l : K) (f : Node) → first_of eqk starts' k ≡ Some f → first_of eqk starts' l ≡ Some f → IsTrue (eqk k l)
  apart' k l f d e = elim (first_cases k f d) [
    | inl h ↦ elim (first_cases l f e) [
      | inl j ↦ joined keys k key l (turned keys key k h.0) j.0
      | inr o ↦ not_first l f h.1 o
    ]
    | inr o ↦ elim (first_cases l f e) [
      | inl j ↦ not_first k f j.1 o
      | inr q ↦ forest.apart k l f o q
    ]
  ]

  -- a leaf's path is what leads to it
  path' : (k : K) (ps : List (C × R)) (x : ℕ) (leaf : LeafNode K T) → LeadsFrom inner' eqk starts' k ps (Leaf x) → slab.get leaves' x ≡ Some leaf → path_of inner' x leaf ≡ ps
  path' k ps x leaf lead e =
      let k = knows_led inner' leaves' (λ at m s next f p. child' at m s next f p) lead.0 lead.0 (Leaf x) [] ps (None, start' k lead.0 lead.1, refl) lead.2 in
      let two : Some k.1.0 ≡ Some leaf = sym k.1.1 ∙ e in
      let one : k.1.0 ≡ leaf = cc in
      ap (λ (z : LeafNode K T). path_of inner' x z) (sym one) ∙ ap (λ d. (origin inner' d (Leaf x) k.1.0.parent).1) k.1.3 ∙ ap (λ o. (origin inner' (length ps) (Leaf x) o).1) k.1.2 ∙ ap (λ (z : Node × List (C × R)). z.1) k.2

  -- what led to an old leaf leads to it still, and is its path
  lead_kept : (x : ℕ) (leaf : LeafNode K T) → slab.get leaves x ≡ Some leaf → LeadsFrom inner' eqk starts' leaf.key.value (path_of inner x leaf) (Leaf x)
  lead_kept x leaf e = let own = forest.led x leaf e in (own.0, first_kept leaf.key.value own.0 own.1, leads' own.0 (path_of inner x leaf) (Leaf x) own.2)

  pub path_kept : (x : ℕ) (leaf : LeafNode K T) → slab.get leaves x ≡ Some leaf → path_of inner' x leaf ≡ path_of inner x leaf
  path_kept x leaf e =
      path' leaf.key.value (path_of inner x leaf) x leaf (lead_kept x leaf e) (a.other_leaves x (λ f. a.vacant leaf.parent leaf.depth (subst (λ z. IsAt inner leaves z leaf.parent leaf.depth) f (leaf, e, refl, refl))) ∙ e)

  -- what leads to the new node
  pub lead_new : LeadsFrom inner' eqk starts' key [] fresh
  lead_new = (fresh, first_new key (keys.refl key), refl)

  leaf_new : (x : ℕ) (leaf : LeafNode K T) → Leaf x ≡ fresh → slab.get leaves' x ≡ Some leaf → LeadsFrom inner' eqk starts' leaf.key.value [] (Leaf x)
  leaf_new x leaf f e = subst (λ k. LeadsFrom inner' eqk starts' k [] (Leaf x)) (sym (a.own x leaf f e)) (subst (λ z. LeadsFrom inner' eqk starts' key [] z) (sym f) lead_new)

  pub path_new : (x : ℕ) (leaf : LeafNode K T) → Leaf x ≡ fresh → slab.get leaves' x ≡ Some leaf → path_of inner' x leaf ≡ []
  path_new x leaf f e = path' leaf.key.value [] x leaf (leaf_new x leaf f e) e

  led' : (x : ℕ) (leaf : LeafNode K T) → slab.get leaves' x ≡ Some leaf → LeadsFrom inner' eqk starts' leaf.key.value (path_of inner' x leaf) (Leaf x) × HasDistinctCalls eq (path_of inner' x leaf)
  led' x leaf e = elim (leaf_cases x leaf e) [
    | inl f ↦ (let same_path = path_new x leaf f e in
        (subst (λ ps. LeadsFrom inner' eqk starts' leaf.key.value ps (Leaf x)) (sym same_path) (leaf_new x leaf f e), subst (λ ps. HasDistinctCalls eq ps) (sym same_path) tt))
    | inr o ↦ (let same_path = path_kept x leaf o in
        (subst (λ ps. LeadsFrom inner' eqk starts' leaf.key.value ps (Leaf x)) (sym same_path) (lead_kept x leaf o), subst (λ ps. HasDistinctCalls eq ps) (sym same_path) (forest.distinct x leaf o)))
  ]

  answers' : (x : ℕ) (m : InnerNode C R) → slab.get inner' x ≡ Some m → IsDistinct same (keys_of m.children)
  unfolding IsDistinct
  answers' x m e = elim (inner_cases x m e) [
    | inl f ↦ subst (λ (xs : List (R × Node)). IsDistinct same (keys_of xs)) (sym (a.childless x m f e).0) tt
    | inr o ↦ forest.answers x m o
  ]

  unmarked' : (x : ℕ) (m : InnerNode C R) → slab.get inner' x ≡ Some m → m.kept ≡ false
  unmarked' x m e = elim (inner_cases x m e) [ inl f ↦ (a.childless x m f e).1 | inr o ↦ forest.unmarked x m o ]

  module _ {tip' : Option ℕ} (ends : IsEnd tip' fresh) where
    extend : (x : ℕ) (to : Node) (rest : List (C × R)) → Leads inner (Inner x) rest to → IsEnd None to → (to : Node) × (rest : List (C × R)) × Leads inner' (Inner x) rest to × IsEnd tip' to
    extend x (Leaf low) rest h end = (Leaf low, rest, leads' (Inner x) rest (Leaf low) h, tt)
    extend x (Inner u) rest h end = cc

    below' : (x : ℕ) (m : InnerNode C R) → slab.get inner' x ≡ Some m → (to : Node) × (rest : List (C × R)) × Leads inner' (Inner x) rest to × IsEnd tip' to
    below' x m e = elim (inner_cases x m e) [
      | inl f ↦ (fresh, [], f, ends)
      | inr o ↦ (let b = forest.below x m o in extend x b.0 b.1 b.2 b.3)
    ]

    pub IsForest-planted : IsForest eq same eqk tip' inner' leaves' starts'
    IsForest-planted = record {
      answers = λ x m e. answers' x m e;
      child = λ x m s next e p. child' x m s next e p;
      start = λ k f e. start' k f e;
      apart = λ k l f d e. apart' k l f d e;
      led = λ x leaf e. (led' x leaf e).0;
      below = λ x m e. below' x m e;
      distinct = λ x leaf e. (led' x leaf e).1;
      unmarked = λ x m e. unmarked' x m e;
    }
