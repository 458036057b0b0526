-- What adding a child preserves.
use Rattle.std.proofs.Common.{◌≡◌, ◌≢◌, ◌⊎◌, ℕ, zero, suc, Bool, true, false, cond, List, [], ◌∷◌, ◌++◌, length, Option, Some, None, refl, sym, ap, subst, ◌∙◌, inl, inr, arith, IsSome, Contains, map, eqb-true, eq-eqb}
use Rattle.std.specs.Cmp.{IsEquivalence}
use Rattle.std.specs.List.{slice_get, insert, IsDistinct, AllByRecursion}
use Rattle.std.proofs.lemmas.Bool.{cases_Bool, cases_eq}
use Rattle.std.specs.Map.{lookup, keys_of}
use Rattle.std.specs.HashMap.{HashMap}
use Rattle.slab.specs.Slab as slab
use Rattle.slab.proofs.SlabLemmas.{Updates-with_value, Contains-entries, Contains-cons}
use Rattle.comemo_base.specs.Sequence.{HasDistinctCalls}
use Rattle.comemo_tree.specs.Node.{node_eq}
use Rattle.comemo_tree.specs.Nodes.{answer_to, Points, Leads, LeadsFrom, origin, path_of, IsAt, IsEnd, IsForest, AddsInner, AddsLeaf, contents, entry_of, first_of}
use Rattle.comemo_base.specs.Tree.{stored}
use Rattle.comemo_tree.specs.declared.children.Node.{Node}
use Rattle.comemo_tree.specs.declared.children.Node.TheVariants.{Inner, Leaf}
use Rattle.comemo_tree.specs.declared.tree.InnerNode.{InnerNode}
use Rattle.comemo_tree.specs.declared.tree.LeafNode.{LeafNode}
use Rattle.comemo_tree.specs.declared.tree.Start.{Start}
use Rattle.comemo_tree.proofs.Forest.{Leads-more, knows_led}

-- ---- names of nodes
pub node_eq-itself : (a : Node) → node_eq a a ≡ true
node_eq-itself (Inner a) = eq-eqb a a refl
node_eq-itself (Leaf a) = eq-eqb a a refl

pub node_eq-true : (a b : Node) → node_eq a b ≡ true → a ≡ b
node_eq-true (Inner a) (Inner b) e = ap Inner (eqb-true a b e)
node_eq-true (Inner a) (Leaf b) e = cc
node_eq-true (Leaf a) (Inner b) e = cc
node_eq-true (Leaf a) (Leaf b) e = ap Leaf (eqb-true a b e)

pub node_eq-false : (a b : Node) → a ≢ b → node_eq a b ≡ false
node_eq-false a b n = elim (cases_Bool (node_eq a b)) [ inl e ↦ absurd (n (node_eq-true a b e)) | inr e ↦ e ]

-- ---- a list of children with one more
module _ {R : Type 0} where
  pub no_points : {P : Type 0} (r : R) (next : Node) → Points [] r next → P
  no_points r next p = let l : slice_get {X = R × Node} [] p.0 ≡ Some (r, next) = p.1 in cc

  pub points_old : (xs : List (R × Node)) (i : ℕ) (y : R × Node) (r : R) (next : Node) → Points xs r next → Points (insert xs i y) r next
  points_old [] i y r next p = cc
  points_old (x ∷ xs) zero y r next p = (suc p.0, p.1)
  points_old (x ∷ xs) (suc i) y r next (zero, e) = (zero, e)
  points_old (x ∷ xs) (suc i) y r next (suc k, e) = let q = points_old xs i y r next (k, e) in (suc q.0, q.1)

  pub points_new : (xs : List (R × Node)) (i : ℕ) (r : R) (next : Node) → Points (insert xs i (r, next)) r next
  points_new [] zero r next = (zero, refl)
  points_new [] (suc i) r next = (zero, refl)
  points_new (x ∷ xs) zero r next = (zero, refl)
  points_new (x ∷ xs) (suc i) r next = let q = points_new xs i r next in (suc q.0, q.1)

  pub points_cases : (xs : List (R × Node)) (i : ℕ) (y : R × Node) (r : R) (next : Node) → Points (insert xs i y) r next → Points xs r next ⊎ (y ≡ (r, next))
  points_cases [] zero y r next (zero, e) = inr (cc)
  points_cases [] zero y r next (suc k, e) = cc
  points_cases [] (suc i) y r next (zero, e) = inr (cc)
  points_cases [] (suc i) y r next (suc k, e) = cc
  points_cases (x ∷ xs) zero y r next (zero, e) = inr (cc)
  points_cases (x ∷ xs) zero y r next (suc k, e) = inl (k, e)
  points_cases (x ∷ xs) (suc i) y r next (zero, e) = inl (zero, e)
  points_cases (x ∷ xs) (suc i) y r next (suc k, e) = elim (points_cases xs i y r next (k, e)) [ inl p ↦ inl (suc p.0, p.1) | inr p ↦ inr p ]

  pub answer_to-other : (xs : List (R × Node)) (i : ℕ) (y : R × Node) (next : Node) → node_eq y.1 next ≡ false → answer_to next (insert xs i y) ≡ answer_to next xs
  answer_to-other [] zero y next n = ap (λ b. cond b (Some y.0) None) n
  answer_to-other [] (suc i) y next n = ap (λ b. cond b (Some y.0) None) n
  answer_to-other (x ∷ xs) zero y next n = ap (λ b. cond b (Some y.0) (answer_to next (x ∷ xs))) n
  answer_to-other (x ∷ xs) (suc i) y next n = ap (λ o. cond (node_eq x.1 next) (Some x.0) o) (answer_to-other xs i y next n)

  pub answer_to-new : (xs : List (R × Node)) (i : ℕ) (r : R) (next : Node) → ((s : R) (m : Node) → Points xs s m → node_eq m next ≡ false) → answer_to next (insert xs i (r, next)) ≡ Some r
  answer_to-new [] zero r next f = ap (λ b. cond b (Some r) None) (node_eq-itself next)
  answer_to-new [] (suc i) r next f = ap (λ b. cond b (Some r) None) (node_eq-itself next)
  answer_to-new (x ∷ xs) zero r next f = ap (λ b. cond b (Some r) (answer_to next (x ∷ xs))) (node_eq-itself next)
  answer_to-new (x ∷ xs) (suc i) r next f = ap (λ b. cond b (Some x.0) (answer_to next (insert xs i (r, next)))) (f x.0 x.1 (zero, refl)) ∙ answer_to-new xs i r next (λ s m p. f s m (suc p.0, p.1))

  module _ {same : R → R → Bool} (answers : IsEquivalence same) where
    all_apart : (x y : R × Node) (xs : List (R × Node)) (i : ℕ) → AllByRecursion (λ z. same x.0 z ≡ false) (keys_of xs) → same x.0 y.0 ≡ false → AllByRecursion (λ z. same x.0 z ≡ false) (keys_of (insert xs i y))
    all_apart x y [] zero a n = (n, tt)
    all_apart x y [] (suc i) a n = (n, tt)
    all_apart x y (z ∷ xs) zero a n = (n, a)
    all_apart x y (z ∷ xs) (suc i) a n = (a.0, all_apart x y xs i a.1 n)

    apart_head : (q : R) (x : R × Node) (xs : List (R × Node)) → lookup (same q) (x ∷ xs) ≡ None → (same q x.0 ≡ false) × (lookup (same q) xs ≡ None)
    apart_head q x xs none = by (same q x.0) refl none
      where
        by : (b : Bool) → same q x.0 ≡ b → cond b (Some x.1) (lookup (same q) xs) ≡ None → (same q x.0 ≡ false) × (lookup (same q) xs ≡ None)
        by true e n = cc
        by false e n = (e, n)

    apart_all : (q : R) (xs : List (R × Node)) → lookup (same q) xs ≡ None → AllByRecursion (λ z. same q z ≡ false) (keys_of xs)
    apart_all q [] none = tt
    apart_all q (x ∷ xs) none = let h = apart_head q x xs none in (h.0, apart_all q xs h.1)

    pub IsDistinct-insert : (q : R) (next : Node) (xs : List (R × Node)) (i : ℕ) → IsDistinct same (keys_of xs) → lookup (same q) xs ≡ None → IsDistinct same (keys_of (insert xs i (q, next)))
    unfolding IsDistinct
    IsDistinct-insert q next [] zero d none = (tt, tt)
    IsDistinct-insert q next [] (suc i) d none = (tt, tt)
    IsDistinct-insert q next (x ∷ xs) zero d none = (apart_all q (x ∷ xs) none, d)
    IsDistinct-insert q next (x ∷ xs) (suc i) d none =
        let h = apart_head q x xs none in
        (all_apart x (q, next) xs i d.0 (answers.symm x.0 q ∙ h.0), IsDistinct-insert q next xs i d.1 h.1)

-- one child was added below the node t, under an answer that led nowhere
pub record Attached {K C R T : Type 0} (same : R → R → Bool) (inner inner' : slab.Slab (InnerNode C R)) (leaves leaves' : slab.Slab (LeafNode K T)) (t : ℕ) (n n' : InnerNode C R) (r : R) (fresh : Node) (i : ℕ) : Type 0 where
  pub at : slab.get inner t ≡ Some n
  pub none : lookup (same r) n.children ≡ None
  pub at' : slab.get inner' t ≡ Some n'
  pub call : n'.call ≡ n.call
  pub parent : n'.parent ≡ n.parent
  pub depth : n'.depth ≡ n.depth
  pub kept : n'.kept ≡ n.kept
  pub children : n'.children ≡ insert n.children i (r, fresh)
  pub here : IsAt inner' leaves' fresh (Some t) (suc n.depth)
  pub vacant : (parent : Option ℕ) (depth : ℕ) → IsAt inner leaves fresh parent depth → ⊥
  pub other_inner : (x : ℕ) → x ≢ t → Inner x ≢ fresh → slab.get inner' x ≡ slab.get inner x
  pub other_leaves : (x : ℕ) → Leaf x ≢ fresh → slab.get leaves' x ≡ slab.get leaves x
  pub childless : (x : ℕ) (m : InnerNode C R) → Inner x ≡ fresh → slab.get inner' x ≡ Some m → (m.children ≡ []) × (m.kept ≡ false)

-- a child was written into the node t, and then the node was stored under the key that the child names
pub adds : {C R : Type 0} (same : R → R → Bool) (old new : slab.Slab (InnerNode C R)) (t id : ℕ) (n m fresh : InnerNode C R) (r : R) (call : C) (i : ℕ) → slab.get old t ≡ Some n → slab.get (slab.with_value old t m) id ≡ None → slab.Updates (slab.with_value old t m) new id (Some fresh) → m.call ≡ n.call → m.parent ≡ n.parent → m.depth ≡ n.depth → m.kept ≡ n.kept → m.children ≡ insert n.children i (r, Inner id) → fresh.call ≡ call → fresh.parent ≡ Some t → fresh.depth ≡ suc n.depth → fresh.children ≡ [] → fresh.kept ≡ false → AddsInner same old new t r call id
adds same old new t id n m fresh r call i at free up mc mp md mk mg fc fp fd fn fk =
    let w = Updates-with_value old t m (subst IsSome (sym at) refl) in
    let there : slab.get (slab.with_value old t m) t ≡ Some m = w.changed in
    let other : t ≢ id = λ e. let l : Some m ≡ None = sym there ∙ ap (slab.get (slab.with_value old t m)) e ∙ free in cc in
    record {
      above = n;
      above' = m;
      place = i;
      fresh = fresh;
      at = at;
      at' = up.others t other ∙ there;
      same_call = mc;
      same_parent = mp;
      same_depth = md;
      same_kept = mk;
      grown = mg;
      vacant = sym (w.others id (λ e. other (sym e))) ∙ free;
      here = up.changed;
      fresh_call = fc;
      fresh_parent = fp;
      fresh_depth = fd;
      childless = fn;
      unmarked = fk;
      others = λ x d e. up.others x e ∙ w.others x d;
    }

module _ {C R : Type 0} {eq : C → C → Bool} {same : R → R → Bool} (answers : IsEquivalence same) {K T S : Type 0} {eqk : K → K → Bool} {tip : Option ℕ} {inner inner' : slab.Slab (InnerNode C R)} {leaves leaves' : slab.Slab (LeafNode K T)} {starts : HashMap K Start S} (forest : IsForest eq same eqk tip inner leaves starts) (t : ℕ) (n n' : InnerNode C R) (r : R) (fresh : Node) (i : ℕ) (a : Attached same inner inner' leaves leaves' t n n' r fresh i) where
  -- each node stays where it was
  kept_at : (y : Node) (parent : Option ℕ) (depth : ℕ) → IsAt inner leaves y parent depth → IsAt inner' leaves' y parent depth
  kept_at (Inner x) parent depth h = elim (cases_eq x t) [
    | inl e ↦
        let same_node : Some h.0 ≡ Some n = sym h.1 ∙ ap (slab.get inner) e ∙ a.at in
        let one : h.0 ≡ n = cc in
        (n', ap (slab.get inner') e ∙ a.at', a.parent ∙ ap (λ (m : InnerNode C R). m.parent) (sym one) ∙ h.2, a.depth ∙ ap (λ (m : InnerNode C R). m.depth) (sym one) ∙ h.3)
    | inr d ↦ (h.0, a.other_inner x d (λ e. a.vacant parent depth (subst (λ z. IsAt inner leaves z parent depth) e h)) ∙ h.1, h.2, h.3)
  ]
  kept_at (Leaf x) parent depth h = (h.0, a.other_leaves x (λ e. a.vacant parent depth (subst (λ z. IsAt inner leaves z parent depth) e h)) ∙ h.1, h.2, h.3)

  inner_there : (x : ℕ) (m : InnerNode C R) → slab.get inner x ≡ Some m → Inner x ≢ fresh
  inner_there x m e f = a.vacant m.parent m.depth (subst (λ z. IsAt inner leaves z m.parent m.depth) f (m, e, refl, refl))

  -- where an inner node comes from
  inner_cases : (x : ℕ) (m : InnerNode C R) → slab.get inner' x ≡ Some m → ((x ≡ t) × (m ≡ n')) ⊎ ((Inner x ≡ fresh) ⊎ (slab.get inner x ≡ Some m))
  inner_cases x m e = elim (cases_eq x t) [
    | inl f ↦ (let two : Some m ≡ Some n' = sym e ∙ ap (slab.get inner') f ∙ a.at' in let one : m ≡ n' = cc in inl (f, one))
    | inr d ↦ elim (cases_Bool (node_eq (Inner x) fresh)) [
      | inl f ↦ inr (inl (node_eq-true (Inner x) fresh f))
      | inr f ↦ inr (inr (sym (a.other_inner x d (λ s. let l : true ≡ false = sym (node_eq-itself (Inner x)) ∙ ap (node_eq (Inner x)) s ∙ f in cc)) ∙ e))
    ]
  ]

  -- a child is not the new node
  child_there : (x : ℕ) (m : InnerNode C R) (s : R) (next : Node) → slab.get inner x ≡ Some m → Points m.children s next → next ≢ fresh
  child_there x m s next e p f = a.vacant (Some x) (suc m.depth) (subst (λ z. IsAt inner leaves z (Some x) (suc m.depth)) f (forest.child x m s next e p).0)

  child' : (x : ℕ) (m : InnerNode C R) (s : R) (next : Node) → slab.get inner' x ≡ Some m → Points m.children s next → IsAt inner' leaves' next (Some x) (suc m.depth) × (answer_to next m.children ≡ Some s)
  child' x m s next e p = elim (inner_cases x m e) [
    | inl h ↦ at_tip x m s next h.0 h.1 p
    | inr h ↦ elim h [
      | inl f ↦ (let none : m.children ≡ [] = (a.childless x m f e).0 in no_points s next (subst (λ xs. Points xs s next) none p))
      | inr o ↦ (let c = forest.child x m s next o p in (kept_at next (Some x) (suc m.depth) c.0, c.1))
    ]
  ]
    where
      at_tip : (x : ℕ) (m : InnerNode C R) (s : R) (next : Node) → x ≡ t → m ≡ n' → Points m.children s next → IsAt inner' leaves' next (Some x) (suc m.depth) × (answer_to next m.children ≡ Some s)
      at_tip x m s next f one p =
          let grown : m.children ≡ insert n.children i (r, fresh) = ap (λ (z : InnerNode C R). z.children) one ∙ a.children in
          let deep : n.depth ≡ m.depth = sym (ap (λ (z : InnerNode C R). z.depth) one ∙ a.depth) in
          elim (points_cases n.children i (r, fresh) s next (subst (λ xs. Points xs s next) grown p)) [
            | inl o ↦ (let c = forest.child t n s next a.at o in (
              subst (λ d. IsAt inner' leaves' next (Some x) (suc d)) deep (subst (λ z. IsAt inner' leaves' next (Some z) (suc n.depth)) (sym f) (kept_at next (Some t) (suc n.depth) c.0)),
              ap (answer_to next) grown ∙ answer_to-other n.children i (r, fresh) next (node_eq-false fresh next (λ z. child_there t n s next a.at o (sym z))) ∙ c.1,
            ))
            | inr o ↦ (let ans : r ≡ s = ap (λ (z : R × Node). z.0) o in let nod : fresh ≡ next = ap (λ (z : R × Node). z.1) o in (
              subst (λ z. IsAt inner' leaves' z (Some x) (suc m.depth)) nod (subst (λ d. IsAt inner' leaves' fresh (Some x) (suc d)) deep (subst (λ z. IsAt inner' leaves' fresh (Some z) (suc n.depth)) (sym f) a.here)),
              ap (answer_to next) grown ∙ ap (λ z. answer_to z (insert n.children i (r, fresh))) (sym nod) ∙ answer_to-new n.children i r fresh (λ u v q. node_eq-false v fresh (child_there t n u v a.at q)) ∙ ap Some ans,
            ))
          ]

  -- what led somewhere leads there still
  leads' : (from : Node) (ps : List (C × R)) (to : Node) → Leads inner from ps to → Leads inner' from ps to
  leads' from [] to h = h
  leads' from (p ∷ ps) to h = elim (cases_eq h.0 t) [
    | inl f ↦
        let two : Some h.1 ≡ Some n = sym h.4 ∙ ap (slab.get inner) f ∙ a.at in
        let one : h.1 ≡ n = cc in (
          h.0,
          n',
          h.2,
          h.3,
          ap (slab.get inner') f ∙ a.at',
          a.call ∙ ap (λ (z : InnerNode C R). z.call) (sym one) ∙ h.5,
          subst (λ xs. Points xs p.1 h.2) (sym a.children) (points_old n.children i (r, fresh) p.1 h.2 (subst (λ (z : InnerNode C R). Points z.children p.1 h.2) one h.6)),
          leads' h.2 ps to h.7,
        )
    | inr d ↦ (h.0, h.1, h.2, h.3, a.other_inner h.0 d (inner_there h.0 h.1 h.4) ∙ h.4, h.5, h.6, leads' h.2 ps to h.7)
  ]

  -- the last step
  pub step' : (from : Node) (ps : List (C × R)) → Leads inner from ps (Inner t) → Leads inner' from (ps ++ (n.call, r) ∷ []) fresh
  step' from ps h = Leads-more inner' from ps t n' (n.call, r) fresh (leads' from ps (Inner t) h) a.at' a.call (subst (λ xs. Points xs r fresh) (sym a.children) (points_new n.children i r fresh))

  start' : (key : K) (first : Node) → first_of eqk starts key ≡ Some first → IsAt inner' leaves' first None 0
  start' key first e = kept_at first None 0 (forest.start key first e)

  -- a leaf's path is what leads to it
  path' : (key : K) (ps : List (C × R)) (x : ℕ) (leaf : LeafNode K T) → LeadsFrom inner' eqk starts key ps (Leaf x) → slab.get leaves' x ≡ Some leaf → path_of inner' x leaf ≡ ps
  path' key ps x leaf lead e =
      let k = knows_led inner' leaves' (λ at m s next f p. child' at m s next f p) lead.0 lead.0 (Leaf x) [] ps (None, start' key lead.0 lead.1, refl) lead.2 in
      let two : Some k.1.0 ≡ Some leaf = sym k.1.1 ∙ e in
      let one : k.1.0 ≡ leaf = cc in
      ap (λ (z : LeafNode K T). path_of inner' x z) (sym one) ∙ ap (λ d. (origin inner' d (Leaf x) k.1.0.parent).1) k.1.3 ∙ ap (λ o. (origin inner' (length ps) (Leaf x) o).1) k.1.2 ∙ ap (λ (z : Node × List (C × R)). z.1) k.2

  -- the leaves that were there keep their paths
  pub path_kept : (x : ℕ) (leaf : LeafNode K T) → slab.get leaves x ≡ Some leaf → path_of inner' x leaf ≡ path_of inner x leaf
  path_kept x leaf e =
      let own = forest.led x leaf e in
      path' leaf.key.value (path_of inner x leaf) x leaf (own.0, own.1, leads' own.0 (path_of inner x leaf) (Leaf x) own.2) (a.other_leaves x (λ f. a.vacant leaf.parent leaf.depth (subst (λ z. IsAt inner leaves z leaf.parent leaf.depth) f (leaf, e, refl, refl))) ∙ e)

  -- the path of the new leaf
  pub path_new : (key : K) (ps : List (C × R)) (x : ℕ) (leaf : LeafNode K T) → LeadsFrom inner eqk starts key ps (Inner t) → Leaf x ≡ fresh → slab.get leaves' x ≡ Some leaf → path_of inner' x leaf ≡ ps ++ (n.call, r) ∷ []
  path_new key ps x leaf lead f e = path' key (ps ++ (n.call, r) ∷ []) x leaf (lead.0, lead.1, subst (λ z. Leads inner' lead.0 (ps ++ (n.call, r) ∷ []) z) (sym f) (step' lead.0 ps lead.2)) e

  leaf_cases : (x : ℕ) (leaf : LeafNode K T) → slab.get leaves' x ≡ Some leaf → (Leaf x ≡ fresh) ⊎ (slab.get leaves x ≡ Some leaf)
  leaf_cases x leaf e = elim (cases_Bool (node_eq (Leaf x) fresh)) [
    | inl f ↦ inl (node_eq-true (Leaf x) fresh f)
    | inr f ↦ inr (sym (a.other_leaves x (λ s. let l : true ≡ false = sym (node_eq-itself (Leaf x)) ∙ ap (node_eq (Leaf x)) s ∙ f in cc)) ∙ e)
  ]

  answers' : (x : ℕ) (m : InnerNode C R) → slab.get inner' x ≡ Some m → IsDistinct same (keys_of m.children)
  unfolding IsDistinct
  answers' x m e = elim (inner_cases x m e) [
    | inl h ↦ subst (λ xs. IsDistinct same (keys_of xs)) (sym (ap (λ (z : InnerNode C R). z.children) h.1 ∙ a.children)) (IsDistinct-insert answers r fresh n.children i (forest.answers t n a.at) a.none)
    | inr h ↦ elim h [
      | inl f ↦ subst (λ (xs : List (R × Node)). IsDistinct same (keys_of xs)) (sym (a.childless x m f e).0) tt
      | inr o ↦ forest.answers x m o
    ]
  ]

  unmarked' : (x : ℕ) (m : InnerNode C R) → slab.get inner' x ≡ Some m → m.kept ≡ false
  unmarked' x m e = elim (inner_cases x m e) [
    | inl h ↦ ap (λ (z : InnerNode C R). z.kept) h.1 ∙ a.kept ∙ forest.unmarked t n a.at
    | inr h ↦ elim h [ inl f ↦ (a.childless x m f e).1 | inr o ↦ forest.unmarked x m o ]
  ]

  module _ (new : (x : ℕ) (leaf : LeafNode K T) → Leaf x ≡ fresh → slab.get leaves' x ≡ Some leaf → (ps : List (C × R)) × LeadsFrom inner eqk starts leaf.key.value ps (Inner t) × HasDistinctCalls eq (ps ++ (n.call, r) ∷ [])) where
    led' : (x : ℕ) (leaf : LeafNode K T) → slab.get leaves' x ≡ Some leaf → LeadsFrom inner' eqk starts leaf.key.value (path_of inner' x leaf) (Leaf x) × HasDistinctCalls eq (path_of inner' x leaf)
    led' x leaf e = elim (leaf_cases x leaf e) [
      | inl f ↦ (let w = new x leaf f e in
          let same_path = path_new leaf.key.value w.0 x leaf w.1 f e in
          (subst (λ ps. LeadsFrom inner' eqk starts leaf.key.value ps (Leaf x)) (sym same_path) (w.1.0, w.1.1, subst (λ z. Leads inner' w.1.0 (w.0 ++ (n.call, r) ∷ []) z) (sym f) (step' w.1.0 w.0 w.1.2)), subst (λ ps. HasDistinctCalls eq ps) (sym same_path) w.2))
      | inr o ↦ (let own = forest.led x leaf o in
          let same_path = path_kept x leaf o in
          (subst (λ ps. LeadsFrom inner' eqk starts leaf.key.value ps (Leaf x)) (sym same_path) (own.0, own.1, leads' own.0 (path_of inner x leaf) (Leaf x) own.2), subst (λ ps. HasDistinctCalls eq ps) (sym same_path) (forest.distinct x leaf o)))
    ]

    -- the forest stands, with the tip where it is now
    module _ {tip' : Option ℕ} (only : (u : ℕ) → tip ≡ Some u → u ≡ t) (ends : IsEnd tip' fresh) where
      extend : (x : ℕ) (to : Node) (rest : List (C × R)) → Leads inner (Inner x) rest to → IsEnd tip to → (to : Node) × (rest : List (C × R)) × Leads inner' (Inner x) rest to × IsEnd tip' to
      extend x (Leaf low) rest h end = (Leaf low, rest, leads' (Inner x) rest (Leaf low) h, tt)
      extend x (Inner u) rest h end = (fresh, rest ++ (n.call, r) ∷ [], step' (Inner x) rest (subst (λ z. Leads inner (Inner x) rest (Inner z)) (only u end) h), ends)

      below' : (x : ℕ) (m : InnerNode C R) → slab.get inner' x ≡ Some m → (to : Node) × (rest : List (C × R)) × Leads inner' (Inner x) rest to × IsEnd tip' to
      below' x m e = elim (inner_cases x m e) [
        | inl h ↦ (let b = forest.below t n a.at in let w = extend t b.0 b.1 b.2 b.3 in (w.0, w.1, subst (λ z. Leads inner' (Inner z) w.1 w.0) (sym h.0) w.2, w.3))
        | inr h ↦ elim h [
          | inl f ↦ (fresh, [], f, ends)
          | inr o ↦ (let b = forest.below x m o in extend x b.0 b.1 b.2 b.3)
        ]
      ]

      pub IsForest-attached : IsForest eq same eqk tip' inner' leaves' starts
      IsForest-attached = record {
        answers = λ x m e. answers' x m e;
        child = λ x m s next e p. child' x m s next e p;
        start = λ key first e. start' key first e;
        apart = forest.apart;
        led = λ x leaf e. (led' x leaf e).0;
        below = λ x m e. below' x m e;
        distinct = λ x leaf e. (led' x leaf e).1;
        unmarked = λ x m e. unmarked' x m e;
      }

pub map_same : {X Y : Type 0} (f h : X → Y) (xs : List X) → ((x : X) → Contains xs x → f x ≡ h x) → map f xs ≡ map h xs
map_same f h [] e = refl
map_same f h (x ∷ xs) e = ap (λ y. y ∷ map f xs) (e x (0, omega arith, refl)) ∙ ap (λ ys. h x ∷ ys) (map_same f h xs (λ y c. e y (Contains-cons x y xs c)))

-- an added inner node: the forest stands with it as its tip, and its entries are the same
module _ {C R : Type 0} {eq : C → C → Bool} {same : R → R → Bool} (answers : IsEquivalence same) {K T S : Type 0} {eqk : K → K → Bool} {tip : Option ℕ} {inner inner' : slab.Slab (InnerNode C R)} {leaves : slab.Slab (LeafNode K T)} {starts : HashMap K Start S} (forest : IsForest eq same eqk tip inner leaves starts) (t : ℕ) (r : R) (call : C) (id : ℕ) (a : AddsInner same inner inner' t r call id) (none : lookup (same r) a.above.children ≡ None) where
  pub Attached-inner : Attached same inner inner' leaves leaves t a.above a.above' r (Inner id) a.place
  Attached-inner = record {
    at = a.at;
    none = none;
    at' = a.at';
    call = a.same_call;
    parent = a.same_parent;
    depth = a.same_depth;
    kept = a.same_kept;
    children = a.grown;
    here = (a.fresh, a.here, a.fresh_parent, a.fresh_depth);
    vacant = λ parent depth h. let l : None ≡ Some h.0 = sym a.vacant ∙ h.1 in cc;
    other_inner = λ x d e. a.others x d (λ f. e (ap Inner f));
    other_leaves = λ x e. refl;
    childless = λ x m e f.
        let k : x ≡ id = cc in
        let l : Some m ≡ Some a.fresh = sym f ∙ ap (slab.get inner') k ∙ a.here in
        let one : m ≡ a.fresh = cc in
        (ap (λ (z : InnerNode C R). z.children) one ∙ a.childless, ap (λ (z : InnerNode C R). z.kept) one ∙ a.unmarked);
  }

  pub IsForest-inner : ((u : ℕ) → tip ≡ Some u → u ≡ t) → IsForest eq same eqk (Some id) inner' leaves starts
  IsForest-inner only = IsForest-attached answers forest t a.above a.above' r (Inner id) a.place Attached-inner (λ x leaf e f. let l : Leaf x ≡ Inner id = e in cc) only refl

  pub contents-inner : contents inner' leaves ≡ contents inner leaves
  contents-inner = map_same (entry_of inner') (entry_of inner) (slab.entries leaves) (λ x c.
      let path = path_kept answers forest t a.above a.above' r (Inner id) a.place Attached-inner x.0 x.1 ((Contains-entries leaves x.0 x.1).0 c) in
      ap (λ ps. stored x.1.key.value ps x.1.value) path)

-- an added leaf: the forest stands with no tip, its old entries are the same, and the new path is known
module _ {C R : Type 0} {eq : C → C → Bool} {same : R → R → Bool} (answers : IsEquivalence same) {K T S : Type 0} {eqk : K → K → Bool} {tip : Option ℕ} {inner inner' : slab.Slab (InnerNode C R)} {leaves leaves' : slab.Slab (LeafNode K T)} {starts : HashMap K Start S} (forest : IsForest eq same eqk tip inner leaves starts) (t : ℕ) (r : R) (key : K) (value : T) (a : AddsLeaf inner inner' leaves leaves' t r key value) (none : lookup (same r) a.above.children ≡ None) where
  pub Attached-leaf : Attached same inner inner' leaves leaves' t a.above a.above' r (Leaf a.id) a.place
  Attached-leaf = record {
    at = a.at;
    none = none;
    at' = a.at';
    call = a.same_call;
    parent = a.same_parent;
    depth = a.same_depth;
    kept = a.same_kept;
    children = a.grown;
    here = (a.fresh, a.updates.changed, a.fresh_parent, a.fresh_depth);
    vacant = λ parent depth h. let l : None ≡ Some h.0 = sym a.vacant ∙ h.1 in cc;
    other_inner = λ x d e. a.others x d;
    other_leaves = λ x e. a.updates.others x (λ f. e (ap Leaf f));
    childless = λ x m e f. let l : Inner x ≡ Leaf a.id = e in cc;
  }

  is_fresh : (x : ℕ) (leaf : LeafNode K T) → Leaf x ≡ Leaf a.id → slab.get leaves' x ≡ Some leaf → leaf ≡ a.fresh
  is_fresh x leaf e f =
      let k : x ≡ a.id = cc in
      let l : Some leaf ≡ Some a.fresh = sym f ∙ ap (slab.get leaves') k ∙ a.updates.changed in
      cc

  module _ (ps : List (C × R)) (lead : LeadsFrom inner eqk starts key ps (Inner t)) where
    pub IsForest-leaf : ((u : ℕ) → tip ≡ Some u → u ≡ t) → HasDistinctCalls eq (ps ++ (a.above.call, r) ∷ []) → IsForest eq same eqk None inner' leaves' starts
    IsForest-leaf only distinct = IsForest-attached answers forest t a.above a.above' r (Leaf a.id) a.place Attached-leaf (λ x leaf e f.
        let own : key ≡ leaf.key.value = sym (ap (λ (z : LeafNode K T). z.key.value) (is_fresh x leaf e f) ∙ a.fresh_key) in
        (ps, subst (λ k. LeadsFrom inner eqk starts k ps (Inner t)) own lead, distinct)) only tt

    pub path-leaf : path_of inner' a.id a.fresh ≡ ps ++ (a.above.call, r) ∷ []
    path-leaf = path_new answers forest t a.above a.above' r (Leaf a.id) a.place Attached-leaf key ps a.id a.fresh lead refl a.updates.changed
