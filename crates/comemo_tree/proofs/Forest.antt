-- Lemmas on how nodes are linked, and on the entries of the leaves.
use Rattle.std.proofs.Common.{◌≡◌, ◌≢◌, ◌<◌, ◌≤◌, ◌+◌, ◌-◌, ℕ, zero, suc, Bool, List, [], ◌∷◌, ◌++◌, length, map, Option, Some, None, refl, sym, ap, subst, ◌∙◌, inl, inr, arith, IsTrue, append_assoc, append-nil, Contains, sum_by, length-append, get_or}
use Rattle.std.specs.Cmp.{IsEquivalence}
use Rattle.std.specs.List.{All, Any, slice_get, IsDistinct}
use Rattle.std.specs.Option.{option_to_list, unwrap_or}
use Rattle.std.specs.Prelude.{option_map}
use Rattle.std.specs.Map.{lookup, keys_of}
use Rattle.std.specs.HashMap.{HashMap}
use Rattle.std.proofs.lemmas.Map.Entries.{lookup_from_place, place_from_lookup}
use Rattle.std.proofs.lemmas.List.{length-map, get_or-map}
use Rattle.std.proofs.lemmas.List.Sums.{get_or-le-sum_by}
use Rattle.std.proofs.lemmas.List.Elements.{All-map}
use Rattle.std.specs.HashMap.Eq.{lookup_congr}
use Rattle.slab.specs.Slab as slab
use Rattle.slab.specs.Slab.{entries_from}
use Rattle.slab.proofs.SlabLemmas.{Contains-cons, Contains-entries}
use Rattle.comemo_base.specs.Lookup.{under, IsNext, IsAsked, IsRefused, IsStoredCall}
use Rattle.comemo_base.specs.Sequence.{HasDistinctCalls}
use Rattle.comemo_base.specs.Tree.{Stored, IsSamePath, IsPrefix, Parts, IsTree}
use Rattle.comemo_tree.specs.Nodes.{answer_to, Points, last_pair, extended, origin, Leads, LeadsFrom, path_of, entry_of, contents, first_of, IsAt, IsEnd, IsForest}
use Rattle.comemo_tree.specs.declared.children.Node.{Node}
use Rattle.comemo_tree.specs.declared.children.Node.TheVariants.{Inner, Leaf}
use Rattle.comemo_tree.specs.declared.tree.InnerNode.{InnerNode}
use Rattle.comemo_tree.specs.declared.tree.LeafNode.{LeafNode}
use Rattle.comemo_tree.specs.declared.tree.Start.{Start}
use Rattle.comemo_base.proofs.Paths.{turned, joined, get_or_same}
use Rattle.comemo_base.proofs.Under.{Any-here, Any-later, Any-under, All-under}

module _ {K X : Type 0} {eq : K → K → Bool} (laws : IsEquivalence eq) where
  -- a key equal to a stored one finds its value
  pub lookup_points : (es : List (K × X)) (i : ℕ) (q k : K) (v : X) → IsDistinct eq (keys_of es) → slice_get es i ≡ Some (k, v) → IsTrue (eq q k) → lookup (eq q) es ≡ Some v
  lookup_points es i q k v d at h = lookup_congr eq laws.congr es q k h ∙ lookup_from_place laws es i k v d at

-- equal keys have the same first node
pub first_alike : {K S : Type 0} {eqk : K → K → Bool} (keys : IsEquivalence eqk) (starts : HashMap K Start S) (k l : K) → IsTrue (eqk k l) → first_of eqk starts k ≡ first_of eqk starts l
first_alike keys starts k l h = ap (λ o. option_map (λ (start : Start). start.first) o) (lookup_congr _ keys.congr starts.entries k l h)

module _ {C R : Type 0} (inner : slab.Slab (InnerNode C R)) where
  -- one more step
  pub Leads-more : (from : Node) (done : List (C × R)) (at : ℕ) (node : InnerNode C R) (p : C × R) (next : Node) → Leads inner from done (Inner at) → slab.get inner at ≡ Some node → node.call ≡ p.0 → Points node.children p.1 next → Leads inner from (done ++ p ∷ []) next
  Leads-more from [] at node p next k e c f = (at, node, next, k, e, c, f, refl)
  Leads-more from (x ∷ done) at node p next k e c f = (k.0, k.1, k.2, k.3, k.4, k.5, k.6, Leads-more k.2 done at node p next k.7 e c f)

  pub Leads-joined : (from : Node) (ps qs : List (C × R)) (mid to : Node) → Leads inner from ps mid → Leads inner mid qs to → Leads inner from (ps ++ qs) to
  Leads-joined from [] qs mid to h k = subst (λ n. Leads inner n qs to) (sym h) k
  Leads-joined from (p ∷ ps) qs mid to h k = (h.0, h.1, h.2, h.3, h.4, h.5, h.6, Leads-joined h.2 ps qs mid to h.7 k)

  module _ {K T : Type 0} (leaves : slab.Slab (LeafNode K T)) where
    -- the node is there, and the pairs lead to it from the first
    abbrev pub Knows : Node → Node → List (C × R) → Type 0
    Knows node first done = (parent : Option ℕ) × IsAt inner leaves node parent (length done) × (origin inner (length done) node parent ≡ (first, done))

    abbrev pub KnowsChildren : Type 0
    KnowsChildren = (at : ℕ) (node : InnerNode C R) (r : R) (next : Node) → slab.get inner at ≡ Some node → Points node.children r next → IsAt inner leaves next (Some at) (suc node.depth) × (answer_to next node.children ≡ Some r)

    module _ (child : KnowsChildren) where
      step_pair : (node : InnerNode C R) (next : Node) (p : C × R) → node.call ≡ p.0 → answer_to next node.children ≡ Some p.1 → last_pair inner node next ≡ p ∷ []
      step_pair node next p c a = ap (λ o. option_to_list (option_map (λ r. (node.call, r)) o)) a ∙ ap (λ x. (x, p.1) ∷ []) c

      knows_next : (first : Node) (done : List (C × R)) (at : ℕ) (node : InnerNode C R) (p : C × R) (next : Node) → Knows (Inner at) first done → slab.get inner at ≡ Some node → node.call ≡ p.0 → Points node.children p.1 next → Knows next first (done ++ p ∷ [])
      knows_next first done at node p next k e c f =
          let h = child at node p.1 next e f in
          let same : k.1.0 ≡ node = cc in
          let deep : node.depth ≡ length done = ap (λ (n : InnerNode C R). n.depth) (sym same) ∙ k.1.3 in
          let parent : node.parent ≡ k.0 = ap (λ (n : InnerNode C R). n.parent) (sym same) ∙ k.1.2 in
          let len : length (done ++ p ∷ []) ≡ suc (length done) = omega (arith, length-append done (p ∷ [])) in
          let way : origin inner (suc (length done)) next (Some at) ≡ (first, done ++ p ∷ []) =
          ap (λ o. extended inner (λ above. origin inner (length done) (Inner at) above) next o) e
          ∙ ap (λ o. ((origin inner (length done) (Inner at) o).0, (origin inner (length done) (Inner at) o).1 ++ last_pair inner node next)) parent
          ∙ ap (λ (o : Node × List (C × R)). (o.0, o.1 ++ last_pair inner node next)) k.2
          ∙ ap (λ xs. (first, done ++ xs)) (step_pair node next p c h.1) in
          (Some at, subst (λ n. IsAt inner leaves next (Some at) n) (ap suc deep ∙ sym len) h.0, ap (λ n. origin inner n next (Some at)) len ∙ way)

      -- what leads to a node is its way
      pub knows_led : (first from to : Node) (done ps : List (C × R)) → Knows from first done → Leads inner from ps to → Knows to first (done ++ ps)
      knows_led first from to done [] k h = subst (λ xs. Knows to first xs) (sym (append-nil done)) (subst (λ n. Knows n first done) h k)
      knows_led first from to done (p ∷ ps) k h =
          subst (λ xs. Knows to first xs) (append_assoc done (p ∷ []) ps) (knows_led first h.2 to (done ++ p ∷ []) ps (knows_next first done h.0 h.1 p h.2 (subst (λ n. Knows n first done) h.3 k) h.4 h.5 h.6) h.7)

module _ {X Y : Type 0} (f : X → Y) where
  pub map_at : (xs : List X) (k : ℕ) (d : Y) → k < length (map f xs) → (x : X) × Contains xs x × (f x ≡ get_or (map f xs) k d)
  map_at [] k d l = absurd (omega arith)
  map_at (x ∷ xs) zero d l = (x, (0, omega arith, refl), refl)
  map_at (x ∷ xs) (suc k) d l = let r = map_at xs k d (omega arith) in (r.0, Contains-cons x r.0 xs r.1, r.2)

  pub any_map : (P : Y → Type 0) (xs : List X) (k : ℕ) (x : X) → k < length xs → get_or xs k x ≡ x → P (f x) → Any P (map f xs)
  any_map P xs k x l e p = (k, f x, omega (arith, length-map xs f), get_or-map f xs k x (f x) l ∙ ap f e, p)

module _ {K C R T : Type 0} (inner : slab.Slab (InnerNode C R)) (leaves : slab.Slab (LeafNode K T)) where
  -- what holds of each leaf's entry, holds of each entry
  pub all_entries : (P : Stored K C R T → Type 0) → ((at : ℕ) (leaf : LeafNode K T) → slab.get leaves at ≡ Some leaf → P (entry_of inner (at, leaf))) → All P (contents inner leaves)
  all_entries P each = All-map P (entry_of inner) (slab.entries leaves) (λ k d l.
      let e = get_or (slab.entries leaves) k d in
      each e.0 e.1 ((Contains-entries leaves e.0 e.1).0 (k, l, get_or_same (slab.entries leaves) k e d l)))

  -- what holds of some leaf's entry, holds of some entry
  pub any_entry : (P : Stored K C R T → Type 0) (at : ℕ) (leaf : LeafNode K T) → slab.get leaves at ≡ Some leaf → P (entry_of inner (at, leaf)) → Any P (contents inner leaves)
  any_entry P at leaf e p =
      let c = (Contains-entries leaves at leaf).1 e in
      any_map (entry_of inner) P (slab.entries leaves) c.0 (at, leaf) c.1 c.2 p

-- how many nodes lie above a node
module _ {K C R T : Type 0} (inner : slab.Slab (InnerNode C R)) (leaves : slab.Slab (LeafNode K T)) where
  abbrev pub depth_of : Node → ℕ
  depth_of (Inner at) = unwrap_or (option_map (λ (n : InnerNode C R). n.depth) (slab.get inner at)) 0
  depth_of (Leaf at) = unwrap_or (option_map (λ (n : LeafNode K T). n.depth) (slab.get leaves at)) 0

  pub depth_at : (node : Node) (parent : Option ℕ) (depth : ℕ) → IsAt inner leaves node parent depth → depth_of node ≡ depth
  depth_at (Inner at) parent depth h = ap (λ o. unwrap_or (option_map (λ (n : InnerNode C R). n.depth) o) 0) h.1 ∙ h.3
  depth_at (Leaf at) parent depth h = ap (λ o. unwrap_or (option_map (λ (n : LeafNode K T). n.depth) o) 0) h.1 ∙ h.3

-- entries at different places have different keys of the slab
rising_keys : {X : Type 0} (first : ℕ) (slots : List (Option X)) (k : ℕ) (d : ℕ × X) → k < length (entries_from first slots) → first ≤ (get_or (entries_from first slots) k d).0
rising_keys first [] k d l = absurd (omega arith)
rising_keys first (None ∷ rest) k d l = omega (arith, rising_keys (first + 1) rest k d l)
rising_keys first (Some x ∷ rest) zero d l = omega arith
rising_keys first (Some x ∷ rest) (suc k) d l = omega (arith, rising_keys (first + 1) rest k d (omega arith))

pub apart_keys : {X : Type 0} (first : ℕ) (slots : List (Option X)) (i j : ℕ) (d : ℕ × X) → i < length (entries_from first slots) → j < length (entries_from first slots) → i ≢ j → (get_or (entries_from first slots) i d).0 ≢ (get_or (entries_from first slots) j d).0
apart_keys first [] i j d l m n = absurd (omega arith)
apart_keys first (None ∷ rest) i j d l m n = apart_keys (first + 1) rest i j d l m n
apart_keys first (Some x ∷ rest) zero zero d l m n = absurd (n refl)
apart_keys first (Some x ∷ rest) zero (suc j) d l m n = λ e. let b = rising_keys (first + 1) rest j d (omega arith) in absurd (omega (arith, b, e))
apart_keys first (Some x ∷ rest) (suc i) zero d l m n = λ e. let b = rising_keys (first + 1) rest i d (omega arith) in absurd (omega (arith, b, e))
apart_keys first (Some x ∷ rest) (suc i) (suc j) d l m n = apart_keys (first + 1) rest i j d (omega arith) (omega arith) (λ e. n (ap suc e))

module _ {X Y : Type 0} (f : X → Y) where
  -- `map_at` takes the element at that place
  map_at-is : (xs : List X) (k : ℕ) (d : Y) (l : k < length (map f xs)) (e : X) → get_or xs k e ≡ (map_at f xs k d l).0
  unfolding map_at
  map_at-is [] k d l e = absurd (omega arith)
  map_at-is (x ∷ xs) zero d l e = refl
  map_at-is (x ∷ xs) (suc k) d l e = map_at-is xs k d (omega arith) e

module _ {K C R T : Type 0} (inner : slab.Slab (InnerNode C R)) (leaves : slab.Slab (LeafNode K T)) where
  apart_entries : (i j : ℕ) (d : Stored K C R T) (l : i < length (contents inner leaves)) (m : j < length (contents inner leaves)) → i ≢ j → (map_at (entry_of inner) (slab.entries leaves) i d l).0.0 ≢ (map_at (entry_of inner) (slab.entries leaves) j d m).0.0
  apart_entries i j d l m n =
      let e = (map_at (entry_of inner) (slab.entries leaves) i d l).0 in
      let a = map_at-is (entry_of inner) (slab.entries leaves) i d l e in
      let b = map_at-is (entry_of inner) (slab.entries leaves) j d m e in
      let len = length-map (slab.entries leaves) (entry_of inner) in
      λ same. apart_keys 0 leaves.slots i j e (omega (arith, len)) (omega (arith, len)) n (ap (λ (x : ℕ × LeafNode K T). x.0) a ∙ same ∙ sym (ap (λ (x : ℕ × LeafNode K T). x.0) b))

module _ {C R : Type 0} {eq : C → C → Bool} {same : R → R → Bool} (calls : IsEquivalence eq) (answers : IsEquivalence same) where
  pub IsSamePath-itself : (ps : List (C × R)) → IsSamePath eq same ps ps
  IsSamePath-itself [] = tt
  IsSamePath-itself (p ∷ ps) = (calls.refl p.0, answers.refl p.1, IsSamePath-itself ps)

  pub IsSamePath-push : (xs ys : List (C × R)) (x y : C × R) → IsSamePath eq same xs ys → IsTrue (eq x.0 y.0) → IsTrue (same x.1 y.1) → IsSamePath eq same (xs ++ x ∷ []) (ys ++ y ∷ [])
  IsSamePath-push [] [] x y h c a = (c, a, tt)
  IsSamePath-push [] (y' ∷ ys) x y h c a = absurd h
  IsSamePath-push (x' ∷ xs) [] x y h c a = absurd h
  IsSamePath-push (x' ∷ xs) (y' ∷ ys) x y h c a = (h.0, h.1, IsSamePath-push xs ys x y h.2 c a)

  -- what was asked along a beginning goes on along the path
  next_along : (asked done : List (C × R)) (c : C) (p : C × R) (rest : List (C × R)) → IsSamePath eq same asked done → IsTrue (eq c p.0) → IsNext eq same asked c (done ++ p ∷ rest)
  next_along [] [] c p rest h e = e
  next_along [] (d ∷ done) c p rest h e = absurd h
  next_along (a ∷ asked) [] c p rest h e = absurd h
  next_along (a ∷ asked) (d ∷ done) c p rest h e = (h.0, h.1, next_along asked done c p rest h.2 e)

  any_later : (done : List (C × R)) (p : C × R) (rest : List (C × R)) {c : C} → p.0 ≡ c → Any (λ (q : C × R). q.0 ≡ c) (done ++ p ∷ rest)
  any_later [] p rest e = Any-here (λ (q : C × R). q.0 ≡ _) p rest e
  any_later (d ∷ done) p rest e = Any-later (λ (q : C × R). q.0 ≡ _) d (done ++ p ∷ rest) (any_later done p rest e)

  module _ {K T S : Type 0} {eqk : K → K → Bool} (keys : IsEquivalence eqk) {inner : slab.Slab (InnerNode C R)} {leaves : slab.Slab (LeafNode K T)} {starts : HashMap K Start S} (forest : IsForest eq same eqk None inner leaves starts) where
    -- equal answers lead to one child
    pub same_child : (from : Node) (d : C × R) (done : List (C × R)) (q : C × R) (qs : List (C × R)) (mid to : Node) (k : Leads inner from (d ∷ done) mid) (h : Leads inner from (q ∷ qs) to) → IsTrue (same d.1 q.1) → k.2 ≡ h.2
    same_child from d done q qs mid to k h s =
        let here : Inner h.0 ≡ Inner k.0 = sym h.3 ∙ k.3 in
        let key : h.0 ≡ k.0 = cc in
        let is : Some h.1 ≡ Some k.1 = sym h.4 ∙ ap (slab.get inner) key ∙ k.4 in
        let same_node : h.1 ≡ k.1 = cc in
        let at_child = subst (λ (n : InnerNode C R). Points n.children q.1 h.2) same_node h.6 in
        let one = lookup_points answers k.1.children at_child.0 d.1 q.1 h.2 (forest.answers k.0 k.1 k.4) at_child.1 s in
        let two = lookup_points answers k.1.children k.6.0 d.1 d.1 k.2 (forest.answers k.0 k.1 k.4) k.6.1 (answers.refl d.1) in
        let lead : Some k.2 ≡ Some h.2 = sym two ∙ one in
        cc

    -- where a node has no child for the answer, no path goes on with it
    no_child : (from : Node) (asked done : List (C × R)) (at : ℕ) (node : InnerNode C R) (c : C) (answer : R) (qs : List (C × R)) (to : Node) → Leads inner from done (Inner at) → IsSamePath eq same asked done → slab.get inner at ≡ Some node → lookup (same answer) node.children ≡ None → Leads inner from qs to → IsPrefix eq same (asked ++ (c, answer) ∷ []) qs → ⊥
    no_child from [] [] at node c answer [] to k s e none h f = f
    no_child from [] [] at node c answer (q ∷ qs) to k s e none h f =
        let here : Inner h.0 ≡ Inner at = sym h.3 ∙ k in
        let key : h.0 ≡ at = cc in
        let is : Some h.1 ≡ Some node = sym h.4 ∙ ap (slab.get inner) key ∙ e in
        let same_node : h.1 ≡ node = cc in
        let at_child = subst (λ (n : InnerNode C R). Points n.children q.1 h.2) same_node h.6 in
        let finds = lookup_points answers node.children at_child.0 answer q.1 h.2 (forest.answers at node e) at_child.1 f.1 in
        let lead : None ≡ Some h.2 = sym none ∙ finds in
        cc
    no_child from [] (d ∷ done) at node c answer qs to k s e none h f = s
    no_child from (a ∷ asked) [] at node c answer qs to k s e none h f = s
    no_child from (a ∷ asked) (d ∷ done) at node c answer [] to k s e none h f = f
    no_child from (a ∷ asked) (d ∷ done) at node c answer (q ∷ qs) to k s e none h f =
        no_child k.2 asked done at node c answer qs to k.7 s.2 e none (subst (λ n. Leads inner n qs to) (sym (same_child from d done q qs (Inner at) to k h (joined answers d.1 a.1 q.1 (turned answers a.1 d.1 s.1) f.1))) h.7) f.2

    -- what leads from the start of a key to a node is its way
    pub knows_from : (key : K) (ps : List (C × R)) (node : Node) (lead : LeadsFrom inner eqk starts key ps node) → Knows inner leaves node lead.0 ps
    knows_from key ps node lead =
        knows_led inner leaves (λ at n r next e f. forest.child at n r next e f) lead.0 lead.0 node [] ps (None, forest.start key lead.0 lead.1, refl) lead.2

    pub leaf_at : (key : K) (ps : List (C × R)) (at : ℕ) → LeadsFrom inner eqk starts key ps (Leaf at) → (leaf : LeafNode K T) × (slab.get leaves at ≡ Some leaf) × IsTrue (eqk leaf.key.value key) × (path_of inner at leaf ≡ ps)
    leaf_at key ps at lead =
        let k = knows_from key ps (Leaf at) lead in
        let leaf = k.1.0 in
        let way : origin inner leaf.depth (Leaf at) leaf.parent ≡ (lead.0, ps) = ap (λ n. origin inner n (Leaf at) leaf.parent) k.1.3 ∙ ap (λ o. origin inner (length ps) (Leaf at) o) k.1.2 ∙ k.2 in
        let own = forest.led at leaf k.1.1 in
        let j = knows_from leaf.key.value (path_of inner at leaf) (Leaf at) own in
        let one : j.1.0 ≡ leaf = cc in
        let way' : origin inner leaf.depth (Leaf at) leaf.parent ≡ (own.0, path_of inner at leaf) =
        ap (λ (x : LeafNode K T). origin inner x.depth (Leaf at) x.parent) (sym one) ∙ ap (λ n. origin inner n (Leaf at) j.1.0.parent) j.1.3 ∙ ap (λ o. origin inner (length (path_of inner at leaf)) (Leaf at) o) j.1.2 ∙ j.2 in
        let first : own.0 ≡ lead.0 = ap (λ (x : Node × List (C × R)). x.0) (sym way' ∙ way) in
        (leaf, k.1.1, forest.apart leaf.key.value key lead.0 (own.1 ∙ ap Some first) lead.1, ap (λ (x : Node × List (C × R)). x.1) way)

    pub inner_at : (key : K) (ps : List (C × R)) (at : ℕ) → LeadsFrom inner eqk starts key ps (Inner at) → (node : InnerNode C R) × (slab.get inner at ≡ Some node) × (node.depth ≡ length ps)
    inner_at key ps at lead = let k = knows_from key ps (Inner at) lead in (k.1.0, k.1.1, k.1.3)

    -- below an inner node lies a leaf of its key
    pub leaf_below : (key : K) (ps : List (C × R)) (at : ℕ) (node : InnerNode C R) → LeadsFrom inner eqk starts key ps (Inner at) → slab.get inner at ≡ Some node → (low : ℕ) × (leaf : LeafNode K T) × (p : C × R) × (rest : List (C × R)) × (slab.get leaves low ≡ Some leaf) × IsTrue (eqk leaf.key.value key) × (path_of inner low leaf ≡ ps ++ p ∷ rest) × (node.call ≡ p.0)
    leaf_below key ps at node lead e = let b = forest.below at node e in at_end b.0 b.1 b.2 b.3
      where
        by_rest : (low : ℕ) (rest : List (C × R)) → Leads inner (Inner at) rest (Leaf low) → (low : ℕ) × (leaf : LeafNode K T) × (p : C × R) × (rest : List (C × R)) × (slab.get leaves low ≡ Some leaf) × IsTrue (eqk leaf.key.value key) × (path_of inner low leaf ≡ ps ++ p ∷ rest) × (node.call ≡ p.0)
        by_rest low [] h = cc
        by_rest low (p ∷ rest) h =
            let l = leaf_at key (ps ++ p ∷ rest) low (lead.0, lead.1, Leads-joined inner lead.0 ps (p ∷ rest) (Inner at) (Leaf low) lead.2 h) in
            let key' : at ≡ h.0 = cc in
            let is : Some node ≡ Some h.1 = sym e ∙ ap (slab.get inner) key' ∙ h.4 in
            let one : node ≡ h.1 = cc in
            (low, l.0, p, rest, l.1, l.2, l.3, ap (λ (n : InnerNode C R). n.call) one ∙ h.5)

        at_end : (to : Node) (rest : List (C × R)) → Leads inner (Inner at) rest to → IsEnd None to → (low : ℕ) × (leaf : LeafNode K T) × (p : C × R) × (rest : List (C × R)) × (slab.get leaves low ≡ Some leaf) × IsTrue (eqk leaf.key.value key) × (path_of inner low leaf ≡ ps ++ p ∷ rest) × (node.call ≡ p.0)
        at_end (Inner u) rest h end = cc
        at_end (Leaf low) rest h end = by_rest low rest h

    -- ---- what a look-up finds
    pub no_start : (key : K) → first_of eqk starts key ≡ None → IsAsked eq same {T = T} (under eqk (contents inner leaves) key) [] None
    no_start key none = (
      All-under eqk (contents inner leaves) key (λ e. ¬ IsPrefix eq same [] e.path) (all_entries inner leaves (λ e. IsTrue (eqk e.key key) → ¬ IsPrefix eq same [] e.path) (λ at leaf e k f.
          let lead = forest.led at leaf e in
          let h : Some lead.0 ≡ None = sym lead.1 ∙ first_alike keys starts leaf.key.value key k ∙ none in
          cc)),
      inl refl,
    )

    pub at_leaf : (key : K) (asked done : List (C × R)) (at : ℕ) (leaf : LeafNode K T) → LeadsFrom inner eqk starts key done (Leaf at) → slab.get leaves at ≡ Some leaf → IsSamePath eq same asked done → IsAsked eq same (under eqk (contents inner leaves) key) asked (Some leaf.value)
    at_leaf key asked done at leaf lead e s =
        let f = leaf_at key done at lead in
        let one : f.0 ≡ leaf = cc in
        Any-under eqk (contents inner leaves) key (λ x. IsSamePath eq same asked x.path × (x.value ≡ leaf.value)) (any_entry inner leaves (λ x. IsTrue (eqk x.key key) × (IsSamePath eq same asked x.path × (x.value ≡ leaf.value))) at leaf e
        (subst (λ (x : LeafNode K T). IsTrue (eqk x.key.value key)) one f.2, (subst (λ ps. IsSamePath eq same asked ps) (sym f.3 ∙ ap (path_of inner at) one) s, refl)))

    -- the call of a node is a stored one
    pub stored_at : (key : K) (done : List (C × R)) (at : ℕ) (node : InnerNode C R) → LeadsFrom inner eqk starts key done (Inner at) → slab.get inner at ≡ Some node → IsStoredCall (under eqk (contents {T = T} inner leaves) key) node.call
    stored_at key done at node lead e =
        let b = leaf_below key done at node lead e in
        let P : Stored K C R T → Type 0 = λ x. Any (λ p. p.0 ≡ node.call) x.path in
        Any-under eqk (contents inner leaves) key P (any_entry inner leaves (λ x. IsTrue (eqk x.key key) × P x) b.0 b.1 b.4 (b.5, subst (λ (ps : List (C × R)). Any (λ p. p.0 ≡ node.call) ps) (sym b.6) (any_later done b.2 b.3 (sym b.7))))

    pub refused_at : (key : K) (asked done : List (C × R)) (at : ℕ) (node : InnerNode C R) → LeadsFrom inner eqk starts key done (Inner at) → slab.get inner at ≡ Some node → IsSamePath eq same asked done → IsRefused eq same (under eqk (contents {T = T} inner leaves) key) asked node.call
    refused_at key asked done at node lead e s =
        let b = leaf_below key done at node lead e in
        Any-under eqk (contents inner leaves) key (λ x. IsNext eq same asked node.call x.path) (any_entry inner leaves (λ x. IsTrue (eqk x.key key) × IsNext eq same asked node.call x.path) b.0 b.1 b.4
        (b.5, subst (λ ps. IsNext eq same asked node.call ps) (sym b.6) (next_along asked done node.call b.2 b.3 s (ap (λ c. eq node.call c) (sym b.7) ∙ calls.refl node.call))))

    pub not_prefix : (key : K) (asked done : List (C × R)) (at : ℕ) (node : InnerNode C R) (answer : R) → LeadsFrom inner eqk starts key done (Inner at) → slab.get inner at ≡ Some node → IsSamePath eq same asked done → lookup (same answer) node.children ≡ None → All (λ (x : Stored K C R T). IsTrue (eqk x.key key) → ¬ IsPrefix eq same (asked ++ (node.call, answer) ∷ []) x.path) (contents inner leaves)
    not_prefix key asked done at node answer lead e s none = all_entries inner leaves (λ x. IsTrue (eqk x.key key) → ¬ IsPrefix eq same (asked ++ (node.call, answer) ∷ []) x.path) (λ i leaf f k prefix.
        let own = forest.led i leaf f in
        let from : Some own.0 ≡ Some lead.0 = sym own.1 ∙ first_alike keys starts leaf.key.value key k ∙ lead.1 in
        let one : own.0 ≡ lead.0 = cc in
        no_child lead.0 asked done at node node.call answer (path_of inner i leaf) (Leaf i) lead.2 s e none (subst (λ n. Leads inner n (path_of inner i leaf) (Leaf i)) one own.2) prefix)

    pub missed_at : (key : K) (asked done : List (C × R)) (at : ℕ) (node : InnerNode C R) (answer : R) → LeadsFrom inner eqk starts key done (Inner at) → slab.get inner at ≡ Some node → IsSamePath eq same asked done → lookup (same answer) node.children ≡ None → IsAsked eq same {T = T} (under eqk (contents inner leaves) key) (asked ++ (node.call, answer) ∷ []) None
    missed_at key asked done at node answer lead e s none = (
      All-under eqk (contents inner leaves) key (λ x. ¬ IsPrefix eq same (asked ++ (node.call, answer) ∷ []) x.path) (not_prefix key asked done at node answer lead e s none),
      inr (record { prefix = asked; last = (node.call, answer); splits = refl; next = refused_at key asked done at node lead e s }),
    )

    pub stepped_to : (key : K) (asked done : List (C × R)) (at : ℕ) (node : InnerNode C R) (answer : R) (next : Node) → LeadsFrom inner eqk starts key done (Inner at) → slab.get inner at ≡ Some node → IsSamePath eq same asked done → lookup (same answer) node.children ≡ Some next → (done' : List (C × R)) × IsSamePath eq same (asked ++ (node.call, answer) ∷ []) done' × LeadsFrom inner eqk starts key done' next
    stepped_to key asked done at node answer next lead e s found =
        let p = place_from_lookup (same answer) node.children next found in
        let pair : C × R = (node.call, p.1) in
        (done ++ pair ∷ [], IsSamePath-push asked done (node.call, answer) pair s (calls.refl node.call) p.3, (lead.0, lead.1, Leads-more inner lead.0 done at node pair next lead.2 e refl (p.0, p.2)))

    -- no path is longer than all of them together
    longest : (n : ℕ) → Any (λ (x : Stored K C R T). length x.path ≡ n) (contents inner leaves) → n ≤ sum_by (λ (x : Stored K C R T). length x.path) (contents inner leaves)
    longest n a =
        let path_len : Stored K C R T → ℕ = λ x. length x.path in
        let own : path_len (get_or (contents inner leaves) a.0 a.1) ≡ path_len a.1 = ap path_len a.3 in
        omega (arith, a.4, own, get_or-le-sum_by path_len (contents inner leaves) a.0 a.1 a.2)

    pub deeper : (key : K) (done : List (C × R)) (at : ℕ) (node : InnerNode C R) (answer : R) (next : Node) → LeadsFrom inner eqk starts key done (Inner at) → slab.get inner at ≡ Some node → lookup (same answer) node.children ≡ Some next → sum_by (λ (x : Stored K C R T). length x.path) (contents inner leaves) - depth_of inner leaves next < sum_by (λ (x : Stored K C R T). length x.path) (contents inner leaves) - depth_of inner leaves (Inner at)
    deeper key done at node answer next lead e found =
        let b = leaf_below key done at node lead e in
        let i = inner_at key done at lead in
        let one : i.0 ≡ node = cc in
        let d : node.depth ≡ length done = ap (λ (n : InnerNode C R). n.depth) (sym one) ∙ i.2 in
        let p = place_from_lookup (same answer) node.children next found in
        let low : depth_of inner leaves next ≡ suc node.depth = depth_at inner leaves next (Some at) (suc node.depth) (forest.child at node p.1 next e (p.0, p.2)).0 in
        let here : depth_of inner leaves (Inner at) ≡ node.depth = depth_at inner leaves (Inner at) node.parent node.depth (node, e, refl, refl) in
        let long : length (done ++ b.2 ∷ b.3) ≤ sum_by (λ (x : Stored K C R T). length x.path) (contents inner leaves) = longest (length (done ++ b.2 ∷ b.3)) (any_entry inner leaves (λ (x : Stored K C R T). length x.path ≡ length (done ++ b.2 ∷ b.3)) b.0 b.1 b.4 (ap length b.6)) in
        omega (arith, length-append done (b.2 ∷ b.3))

    -- two ways from one node to different leaves part
    parts_led : (from : Node) (ps qs : List (C × R)) (i j : ℕ) → i ≢ j → Leads inner from ps (Leaf i) → Leads inner from qs (Leaf j) → Parts eq same ps qs
    parts_led from [] [] i j n h k = let l : Leaf i ≡ Leaf j = sym h ∙ k in let e : i ≡ j = cc in absurd (n e)
    parts_led from [] (q ∷ qs) i j n h k = let l : Leaf i ≡ Inner k.0 = sym h ∙ k.3 in cc
    parts_led from (p ∷ ps) [] i j n h k = let l : Leaf j ≡ Inner h.0 = sym k ∙ h.3 in cc
    parts_led from (p ∷ ps) (q ∷ qs) i j n h k =
        let here : Inner h.0 ≡ Inner k.0 = sym h.3 ∙ k.3 in
        let key : h.0 ≡ k.0 = cc in
        let is : Some h.1 ≡ Some k.1 = sym h.4 ∙ ap (slab.get inner) key ∙ k.4 in
        let one : h.1 ≡ k.1 = cc in
        let call : p.0 ≡ q.0 = sym h.5 ∙ ap (λ (x : InnerNode C R). x.call) one ∙ k.5 in
        (ap (λ c. eq c q.0) call ∙ calls.refl q.0, λ s. parts_led h.2 ps qs i j n h.7 (subst (λ m. Leads inner m qs (Leaf j)) (sym (same_child from p ps q qs (Leaf i) (Leaf j) h k s)) k.7))

    -- the entries are a tree
    pub IsTree-from_forest : IsTree eq same eqk (contents inner leaves)
    IsTree-from_forest = record {
      parted = λ i j d l m n k.
          let a = map_at (entry_of inner) (slab.entries leaves) i d l in
          let b = map_at (entry_of inner) (slab.entries leaves) j d m in
          let x = (Contains-entries leaves a.0.0 a.0.1).0 a.1 in
          let y = (Contains-entries leaves b.0.0 b.0.1).0 b.1 in
          let own = forest.led a.0.0 a.0.1 x in
          let other = forest.led b.0.0 b.0.1 y in
          let keys' : IsTrue (eqk a.0.1.key.value b.0.1.key.value) = ap (λ (e : Stored K C R T). eqk e.key b.0.1.key.value) a.2 ∙ ap (λ (e : Stored K C R T). eqk (get_or (contents inner leaves) i d).key e.key) b.2 ∙ k in
          let from : Some other.0 ≡ Some own.0 = sym other.1 ∙ sym (first_alike keys starts a.0.1.key.value b.0.1.key.value keys') ∙ own.1 in
          let one : other.0 ≡ own.0 = cc in
          let p = parts_led own.0 (path_of inner a.0.0 a.0.1) (path_of inner b.0.0 b.0.1) a.0.0 b.0.0 (apart_entries inner leaves i j d l m n) own.2 (subst (λ z. Leads inner z (path_of inner b.0.0 b.0.1) (Leaf b.0.0)) one other.2) in
          subst (λ (e : Stored K C R T). Parts eq same (get_or (contents inner leaves) i d).path e.path) b.2 (subst (λ (e : Stored K C R T). Parts eq same e.path (path_of inner b.0.0 b.0.1)) a.2 p);
      distinct = all_entries inner leaves (λ e. HasDistinctCalls eq e.path) (λ at leaf e. forest.distinct at leaf e);
    }
