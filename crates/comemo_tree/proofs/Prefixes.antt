-- Lemmas on the nodes of a tree and the prefixes that lead to them.
use Rattle.std.proofs.Common.{◌≡◌, ◌≢◌, ◌∙◌, ◌<◌, ◌+◌, ℕ, suc, Bool, List, [], ◌∷◌, ◌++◌, length, get_or, map, take, drop, Option, Some, None, sym, ap, subst, refl, IsTrue, arith, length-append, length-drop}
use Rattle.std.proofs.lemmas.List.{take-append-drop, length-map, append-nil}
use Rattle.std.proofs.lemmas.List.Elements.{All-map, All-append}
use Rattle.std.specs.Cmp.{IsEquivalence}
use Rattle.std.specs.List.{All, AllPairs, Any}
use Rattle.std.specs.HashMap.{HashMap}
use Rattle.slab.specs.Slab as slab
use Rattle.slab.proofs.SlabLemmas.{Contains-entries, length-entries}
use Rattle.comemo_base.specs.Tree.{Stored, IsPrefix, IsSamePath}
use Rattle.comemo_base.proofs.Paths.{turned, joined, get_or_same, IsSamePath-joined}
use Rattle.comemo_base.proofs.Under.{Any-weaker}
use Rattle.comemo_tree.specs.Shape.{Counts, IsSameUnder, IsPrefixUnder, IsProperPrefixUnder}
use Rattle.comemo_tree.specs.Nodes.{Leads, LeadsFrom, origin, path_of, entry_of, contents, IsAt, IsEnd, IsForest}
use Rattle.comemo_tree.specs.declared.children.Node.{Node}
use Rattle.comemo_tree.specs.declared.children.Node.TheVariants.{Inner, Leaf}
use Rattle.comemo_tree.specs.declared.tree.InnerNode.{InnerNode}
use Rattle.comemo_tree.specs.declared.tree.LeafNode.{LeafNode}
use Rattle.comemo_tree.specs.declared.tree.Start.{Start}
use Rattle.comemo_tree.proofs.Counts.{chosen, length-chosen, All-chosen, Any-chosen, AllPairs-chosen, AllPairs-map, AllPairs-append, Any-left, Any-right}
use Rattle.comemo_tree.proofs.Forest.{first_alike, any_entry, same_child, knows_from, leaf_at, inner_at, leaf_below, map_at, any_map, apart_keys, IsSamePath-itself}

module _ {C R : Type 0} (inner : slab.Slab (InnerNode C R)) where
  -- where a way of two parts comes through
  pub Leads-split : (from : Node) (ps qs : List (C × R)) (to : Node) → Leads inner from (ps ++ qs) to → (mid : Node) × Leads inner from ps mid × Leads inner mid qs to
  Leads-split from [] qs to h = (from, refl, h)
  Leads-split from (p ∷ ps) qs to h = let r = Leads-split h.2 ps qs to h.7 in (r.0, (h.0, h.1, h.2, h.3, h.4, h.5, h.6, r.1), r.2)

  -- where a prefix of a way comes to
  along_prefix : (eq : C → C → Bool) (same : R → R → Bool) (from : Node) (ps qs : List (C × R)) (to : Node) → IsPrefix eq same ps qs → Leads inner from qs to → (done : List (C × R)) × (mid : Node) × (left : List (C × R)) × IsSamePath eq same ps done × Leads inner from done mid × Leads inner mid left to × (qs ≡ done ++ left)
  along_prefix eq same from [] qs to s k = ([], from, qs, tt, refl, k, refl)
  along_prefix eq same from (p ∷ ps) [] to s k = absurd s
  along_prefix eq same from (p ∷ ps) (q ∷ qs) to s k =
      let r = along_prefix eq same k.2 ps qs to s.2 k.7 in
      (q ∷ r.0, r.1, r.2, (s.0, s.1, r.3), (k.0, k.1, k.2, k.3, k.4, k.5, k.6, r.4), r.5, ap (λ xs. q ∷ xs) r.6)

length-same : {C R : Type 0} (eq : C → C → Bool) (same : R → R → Bool) (ps qs : List (C × R)) → IsSamePath eq same ps qs → length ps ≡ length qs
length-same eq same [] [] s = refl
length-same eq same [] (q ∷ qs) s = absurd s
length-same eq same (p ∷ ps) [] s = absurd s
length-same eq same (p ∷ ps) (q ∷ qs) s = omega (arith, length-same eq same ps qs s.2)

prefix_of_whole : {C R : Type 0} {eq : C → C → Bool} {same : R → R → Bool} (calls : IsEquivalence eq) (answers : IsEquivalence same) (ps qs : List (C × R)) → IsPrefix eq same ps (ps ++ qs)
prefix_of_whole calls answers [] qs = tt
prefix_of_whole calls answers (p ∷ ps) qs = (calls.refl p.0, answers.refl p.1, prefix_of_whole calls answers ps qs)

module _ {K C R T : Type 0} (inner : slab.Slab (InnerNode C R)) (leaves : slab.Slab (LeafNode K T)) where
  -- a node has one parent and one depth
  at_one : (node : Node) (p q : Option ℕ) (m n : ℕ) → IsAt inner leaves node p m → IsAt inner leaves node q n → (p ≡ q) × (m ≡ n)
  at_one (Inner at) p q m n h k =
      let is : Some h.0 ≡ Some k.0 = sym h.1 ∙ k.1 in
      let one : h.0 ≡ k.0 = cc in
      (sym h.2 ∙ ap (λ (x : InnerNode C R). x.parent) one ∙ k.2, sym h.3 ∙ ap (λ (x : InnerNode C R). x.depth) one ∙ k.3)
  at_one (Leaf at) p q m n h k =
      let is : Some h.0 ≡ Some k.0 = sym h.1 ∙ k.1 in
      let one : h.0 ≡ k.0 = cc in
      (sym h.2 ∙ ap (λ (x : LeafNode K T). x.parent) one ∙ k.2, sym h.3 ∙ ap (λ (x : LeafNode K T). x.depth) one ∙ k.3)

  -- the entry of which something holds is that of a leaf
  pub leaf_of_any : (P : Stored K C R T → Type 0) → Any P (contents inner leaves) → (at : ℕ) × (leaf : LeafNode K T) × (slab.get leaves at ≡ Some leaf) × P (entry_of inner (at, leaf))
  leaf_of_any P h =
      let m = map_at (entry_of inner) (slab.entries leaves) h.0 h.1 h.2 in
      (m.0.0, m.0.1, (Contains-entries leaves m.0.0 m.0.1).0 m.1, subst P (sym (m.2 ∙ h.3)) h.4)

-- the nodes of a slab, by their keys
module _ {X : Type 0} (node : ℕ → Node) (s : slab.Slab X) where
  abbrev pub nodes_of : List Node
  nodes_of = map (λ (e : ℕ × X). node e.0) (slab.entries s)

  length-nodes_of : length nodes_of ≡ slab.slab_len s
  length-nodes_of = length-map (slab.entries s) (λ (e : ℕ × X). node e.0) ∙ length-entries s

  all_nodes_of : (P : Node → Type 0) → ((at : ℕ) (x : X) → slab.get s at ≡ Some x → P (node at)) → All P nodes_of
  all_nodes_of P each = All-map P (λ (e : ℕ × X). node e.0) (slab.entries s) (λ k d l.
      let e = get_or (slab.entries s) k d in
      each e.0 e.1 ((Contains-entries s e.0 e.1).0 (k, l, get_or_same (slab.entries s) k e d l)))

  node_of : (at : ℕ) (x : X) → slab.get s at ≡ Some x → Any (λ n. n ≡ node at) nodes_of
  node_of at x e =
      let c = (Contains-entries s at x).1 e in
      any_map (λ (e : ℕ × X). node e.0) (λ n. n ≡ node at) (slab.entries s) c.0 (at, x) c.1 c.2 refl

  apart_nodes_of : ((i j : ℕ) → node i ≡ node j → i ≡ j) → AllPairs (λ n m. n ≢ m) nodes_of
  apart_nodes_of one = AllPairs-map (λ (e : ℕ × X). node e.0) (λ n m. n ≢ m) (slab.entries s) (λ i j d l m e. apart_keys 0 s.slots i j d (omega (arith, l, m)) m (λ same. absurd (omega (arith, l, same))) (one (get_or (slab.entries s) i d).0 (get_or (slab.entries s) j d).0 e))

module _ {K C R T S : Type 0} {eq : C → C → Bool} {same : R → R → Bool} {eqk : K → K → Bool} (calls : IsEquivalence eq) (answers : IsEquivalence same) (keys : IsEquivalence eqk) {inner : slab.Slab (InnerNode C R)} {leaves : slab.Slab (LeafNode K T)} {starts : HashMap K Start S} (forest : IsForest eq same eqk None inner leaves starts) where
  -- the prefix leads to the node
  abbrev pub Reaches : Node → K × List (C × R) → Type 0
  Reaches node f = LeadsFrom inner eqk starts f.0 f.1 node

  -- equal ways lead to one node
  same_way : (from : Node) (ps qs : List (C × R)) (a b : Node) → Leads inner from ps a → Leads inner from qs b → IsSamePath eq same ps qs → a ≡ b
  same_way from [] [] a b h k s = sym h ∙ k
  same_way from [] (q ∷ qs) a b h k s = absurd s
  same_way from (p ∷ ps) [] a b h k s = absurd s
  same_way from (p ∷ ps) (q ∷ qs) a b h k s =
      let one = same_child calls answers keys forest from p ps q qs a b h k s.1 in
      same_way h.2 ps qs a b h.7 (subst (λ n. Leads inner n qs b) (sym one) k.7) s.2

  same_node : (n m : Node) (f g : K × List (C × R)) → Reaches n f → Reaches m g → IsSameUnder eq same eqk f g → n ≡ m
  same_node n m f g h k s =
      let from : Some k.0 ≡ Some h.0 = sym k.1 ∙ sym (first_alike keys starts f.0 g.0 s.0) ∙ h.1 in
      let one : k.0 ≡ h.0 = cc in
      same_way h.0 f.1 g.1 n m h.2 (subst (λ x. Leads inner x g.1 m) one k.2) s.1

  -- and what leads to one node is equal
  same_prefix : (n : Node) (f g : K × List (C × R)) → Reaches n f → Reaches n g → IsSameUnder eq same eqk f g
  same_prefix n f g h k =
      let a = knows_from calls answers keys forest f.0 f.1 n h in
      let b = knows_from calls answers keys forest g.0 g.1 n k in
      let one = at_one inner leaves n a.0 b.0 (length f.1) (length g.1) a.1 b.1 in
      let way : (h.0, f.1) ≡ (k.0, g.1) = sym a.2 ∙ ap (λ p. origin inner (length f.1) n p) one.0 ∙ ap (λ m. origin inner m n b.0) one.1 ∙ b.2 in
      let first : h.0 ≡ k.0 = ap (λ (x : Node × List (C × R)). x.0) way in
      let path : f.1 ≡ g.1 = ap (λ (x : Node × List (C × R)). x.1) way in
      (forest.apart f.0 g.0 h.0 h.1 (k.1 ∙ ap Some (sym first)), subst (λ ps. IsSamePath eq same f.1 ps) path (IsSamePath-itself calls answers f.1))

  -- ways of one length to one node come from one node
  same_up : (a b : Node) (ps qs : List (C × R)) (to : Node) → length ps ≡ length qs → Leads inner a ps to → Leads inner b qs to → a ≡ b
  same_up a b [] [] to e h k = h ∙ sym k
  same_up a b [] (q ∷ qs) to e h k = absurd (omega (arith, e))
  same_up a b (p ∷ ps) [] to e h k = absurd (omega (arith, e))
  same_up a b (p ∷ ps) (q ∷ qs) to e h k =
      let next = same_up h.2 k.2 ps qs to (omega (arith, e)) h.7 k.7 in
      let x = (forest.child h.0 h.1 p.1 h.2 h.4 h.6).0 in
      let y = (forest.child k.0 k.1 q.1 k.2 k.4 k.6).0 in
      let parents : Some h.0 ≡ Some k.0 = (at_one inner leaves k.2 (Some h.0) (Some k.0) (suc h.1.depth) (suc k.1.depth) (subst (λ n. IsAt inner leaves n (Some h.0) (suc h.1.depth)) next x) y).0 in
      let one : h.0 ≡ k.0 = cc in
      h.3 ∙ ap Inner one ∙ sym k.3

  -- what a way leads to is there, deeper by the length of the way
  at_end : (from : Node) (ps : List (C × R)) (to : Node) (p : Option ℕ) (d : ℕ) → IsAt inner leaves from p d → Leads inner from ps to → (q : Option ℕ) × IsAt inner leaves to q (d + length ps)
  at_end from [] to p d a h = (let e : d ≡ d + 0 = omega arith in (p, subst (λ n. IsAt inner leaves to p n) e (subst (λ n. IsAt inner leaves n p d) h a)))
  at_end from (x ∷ xs) to p d a h =
      let here = subst (λ n. IsAt inner leaves n p d) h.3 a in
      let depth : h.1.depth ≡ d = (at_one inner leaves (Inner h.0) h.1.parent p h.1.depth d (h.1, h.4, refl, refl) here).1 in
      let r = at_end h.2 xs to (Some h.0) (suc h.1.depth) (forest.child h.0 h.1 x.1 h.2 h.4 h.6).0 h.7 in
      let e : suc h.1.depth + length xs ≡ d + suc (length xs) = omega (arith, depth) in
      (r.0, subst (λ n. IsAt inner leaves to r.0 n) e r.1)

  -- a prefix leads to each inner node
  pub inner_reached : (at : ℕ) (node : InnerNode C R) → slab.get inner at ≡ Some node → (f : K × List (C × R)) × Reaches (Inner at) f
  inner_reached at node e = let b = forest.below at node e in up b.0 b.1 b.2 b.3
    where
      up : (to : Node) (rest : List (C × R)) → Leads inner (Inner at) rest to → IsEnd None to → (f : K × List (C × R)) × Reaches (Inner at) f
      up (Inner u) rest h end = cc
      up (Leaf low) rest h end =
          let a = (at_end (Inner at) rest (Leaf low) node.parent node.depth (node, e, refl, refl) h).1 in
          let leaf = a.0 in
          let own = forest.led low leaf a.1 in
          let path = path_of inner low leaf in
          let k = knows_from calls answers keys forest leaf.key.value path (Leaf low) own in
          let deep : node.depth + length rest ≡ length path = (at_one inner leaves (Leaf low) _ k.0 (node.depth + length rest) (length path) a k.1).1 in
          let prefix = take node.depth path in
          let back = drop node.depth path in
          let s = Leads-split inner own.0 prefix back (Leaf low) (subst (λ ps. Leads inner own.0 ps (Leaf low)) (sym (take-append-drop node.depth path)) own.2) in
          let mid : s.0 ≡ Inner at = same_up s.0 (Inner at) back rest (Leaf low) (omega (arith, deep, length-drop node.depth path)) s.2 h in
          ((leaf.key.value, prefix), (own.0, own.1, subst (λ n. Leads inner own.0 prefix n) mid s.1))

  -- the nodes, each reached by a prefix with a property, to one of which each prefix with it leads
  count_nodes : (P : K × List (C × R) → Type 0) (ns : List Node) → AllPairs (λ n m. n ≢ m) ns → All (λ n. (f : K × List (C × R)) × (Reaches n f × P f)) ns → ((f : K × List (C × R)) → P f → (n : Node) × (g : K × List (C × R)) × Any (λ m. m ≡ n) ns × Reaches n g × IsSameUnder eq same eqk f g) → Counts P (IsSameUnder eq same eqk) (length ns)
  count_nodes P ns distinct reached complete =
      let Both : Node → K × List (C × R) → Type 0 = λ n f. Reaches n f × P f in
      let fs = chosen Both ns reached in
      record {
        things = fs.0;
        apart = AllPairs-chosen Both (λ n m. n ≢ m) (λ f g. ¬ IsSameUnder eq same eqk f g) (λ n m f g d h k s. d (same_node n m f g h.0 k.0 s)) ns fs.0 distinct fs.1;
        only = All-chosen Both (λ n. Unit {0}) P (λ n f u h. h.1) ns fs.0 (λ k d l. tt) fs.1;
        each = λ f p.
            let c = complete f p in
            Any-chosen Both (λ m. m ≡ c.0) (IsSameUnder eq same eqk f) (λ m y e h.
            let s = same_prefix c.0 c.1 y c.3 (subst (λ n. Reaches n y) e h.0) in
            (joined keys f.0 c.1.0 y.0 c.4.0 s.0, IsSamePath-joined calls answers f.1 c.1.1 y.1 c.4.1 s.1)) ns fs.0 c.2 fs.1;
        many = length-chosen Both ns fs.0 fs.1;
      }

  -- the node that a stored prefix leads to
  abbrev Found : ℕ → List (C × R) → K × List (C × R) → Node → List (C × R) → Type 0
  Found low path f n left = (g : K × List (C × R)) × Reaches n g × IsSameUnder eq same eqk f g × Leads inner n left (Leaf low) × (path ≡ g.1 ++ left)

  found_by : (f : K × List (C × R)) (low : ℕ) (leaf : LeafNode K T) → slab.get leaves low ≡ Some leaf → IsTrue (eqk leaf.key.value f.0) → IsPrefix eq same f.1 (path_of inner low leaf) → (n : Node) × (left : List (C × R)) × Found low (path_of inner low leaf) f n left
  found_by f low leaf e k s =
      let own = forest.led low leaf e in
      let r = along_prefix inner eq same own.0 f.1 (path_of inner low leaf) (Leaf low) s own.2 in
      let key = leaf.key.value in
      (r.1, r.2, ((key, r.0), (own.0, own.1, r.4), (turned keys key f.0 k, r.3), r.5, r.6))

  abbrev inner_nodes : List Node
  inner_nodes = nodes_of Inner inner

  abbrev leaf_nodes : List Node
  leaf_nodes = nodes_of Leaf leaves

  -- each node is listed
  inner_listed : (at : ℕ) (g : K × List (C × R)) → Reaches (Inner at) g → Any (λ m. m ≡ Inner at) inner_nodes
  inner_listed at g h = let i = inner_at calls answers keys forest g.0 g.1 at h in node_of Inner inner at i.0 i.1

  leaf_listed : (at : ℕ) (g : K × List (C × R)) → Reaches (Leaf at) g → Any (λ m. m ≡ Leaf at) leaf_nodes
  leaf_listed at g h = let i = leaf_at calls answers keys forest g.0 g.1 at h in node_of Leaf leaves at i.0 i.1

  -- a prefix of an inner node is a proper one
  proper_at : (at : ℕ) (node : InnerNode C R) (f : K × List (C × R)) → slab.get inner at ≡ Some node → Reaches (Inner at) f → IsProperPrefixUnder eq same eqk (contents inner leaves) f
  proper_at at node f e h =
      let b = leaf_below calls answers keys forest f.0 f.1 at node h e in
      let longer : length f.1 < length (f.1 ++ b.2 ∷ b.3) = omega (arith, length-append f.1 (b.2 ∷ b.3)) in
      any_entry inner leaves (λ x. IsTrue (eqk x.key f.0) × IsPrefix eq same f.1 x.path × (length f.1 < length x.path)) b.0 b.1 b.4 (
        b.5,
        subst (λ ps. IsPrefix eq same f.1 ps) (sym b.6) (prefix_of_whole calls answers f.1 (b.2 ∷ b.3)),
        subst (λ (ps : List (C × R)). length f.1 < length ps) (sym b.6) longer,
      )

  -- a prefix of a leaf is a whole path
  whole_at : (at : ℕ) (f : K × List (C × R)) → Reaches (Leaf at) f → IsPrefixUnder eq same eqk (contents inner leaves) f
  whole_at at f h =
      let l = leaf_at calls answers keys forest f.0 f.1 at h in
      any_entry inner leaves (λ x. IsTrue (eqk x.key f.0) × IsPrefix eq same f.1 x.path) at l.0 l.1 (
        l.2,
        subst (λ ps. IsPrefix eq same f.1 ps) (append-nil f.1 ∙ sym l.3) (prefix_of_whole calls answers f.1 []),
      )

  -- the inner nodes are the proper prefixes
  pub count_inner : Counts (IsProperPrefixUnder eq same eqk (contents inner leaves)) (IsSameUnder eq same eqk) (slab.slab_len inner)
  count_inner =
      subst (Counts (IsProperPrefixUnder eq same eqk (contents inner leaves)) (IsSameUnder eq same eqk)) (length-nodes_of Inner inner) (
      count_nodes (IsProperPrefixUnder eq same eqk (contents inner leaves)) inner_nodes
      (apart_nodes_of Inner inner (λ i j e. cc))
      (all_nodes_of Inner inner (λ n. (f : K × List (C × R)) × (Reaches n f × IsProperPrefixUnder eq same eqk (contents inner leaves) f)) (λ at node e. (let f = inner_reached at node e in (f.0, (f.1, proper_at at node f.0 e f.1)))))
      (λ f p.
      let l = leaf_of_any inner leaves (λ x. IsTrue (eqk x.key f.0) × IsPrefix eq same f.1 x.path × (length f.1 < length x.path)) p in
      let r = found_by f l.0 l.1 l.2 l.3.0 l.3.1 in
      at_node l.0 (path_of inner l.0 l.1) f r.0 r.1 r.2 l.3.2))
    where
      at_node : (low : ℕ) (path : List (C × R)) (f : K × List (C × R)) (n : Node) (left : List (C × R)) → Found low path f n left → length f.1 < length path → (n : Node) × (g : K × List (C × R)) × Any (λ m. m ≡ n) inner_nodes × Reaches n g × IsSameUnder eq same eqk f g
      at_node low path f (Inner at) left r l = (Inner at, r.0, inner_listed at r.0 r.1, r.1, r.2)
      at_node low path f (Leaf at) [] r l = absurd (omega (arith, l, length-same eq same f.1 r.0.1 r.2.1, ap length r.4, length-append r.0.1 []))
      at_node low path f (Leaf at) (p ∷ left) r l = let e : Leaf at ≡ Inner r.3.0 = r.3.3 in cc

  -- all nodes are the prefixes
  pub count_all : Counts (IsPrefixUnder eq same eqk (contents inner leaves)) (IsSameUnder eq same eqk) (slab.slab_len inner + slab.slab_len leaves)
  count_all =
      let reached : Node → Type 0 = λ n. (f : K × List (C × R)) × (Reaches n f × IsPrefixUnder eq same eqk (contents inner leaves) f) in
      let number : length (inner_nodes ++ leaf_nodes) ≡ slab.slab_len inner + slab.slab_len leaves = omega (arith, length-append inner_nodes leaf_nodes, length-nodes_of Inner inner, length-nodes_of Leaf leaves) in
      subst (Counts (IsPrefixUnder eq same eqk (contents inner leaves)) (IsSameUnder eq same eqk)) number (
      count_nodes (IsPrefixUnder eq same eqk (contents inner leaves)) (inner_nodes ++ leaf_nodes)
      (AllPairs-append (λ n m. n ≢ m) inner_nodes leaf_nodes (apart_nodes_of Inner inner (λ i j e. cc)) (apart_nodes_of Leaf leaves (λ i j e. cc)) (all_nodes_of Inner inner (λ n. All (λ m. n ≢ m) leaf_nodes) (λ at node e. all_nodes_of Leaf leaves (λ m. Inner at ≢ m) (λ low leaf d same. cc))))
      (All-append reached inner_nodes leaf_nodes
      (all_nodes_of Inner inner reached (λ at node e. (let f = inner_reached at node e in (f.0, (f.1, Any-weaker (λ (x : Stored K C R T). IsTrue (eqk x.key f.0.0) × IsPrefix eq same f.0.1 x.path × (length f.0.1 < length x.path)) (λ x. IsTrue (eqk x.key f.0.0) × IsPrefix eq same f.0.1 x.path) (λ x p. (p.0, p.1)) (contents inner leaves) (proper_at at node f.0 e f.1))))))
      (all_nodes_of Leaf leaves reached (λ at leaf e. (let own = forest.led at leaf e in ((leaf.key.value, path_of inner at leaf), (own, whole_at at (leaf.key.value, path_of inner at leaf) own))))))
      (λ f p.
      let l = leaf_of_any inner leaves (λ x. IsTrue (eqk x.key f.0) × IsPrefix eq same f.1 x.path) p in
      let r = found_by f l.0 l.1 l.2 l.3.0 l.3.1 in
      at_node l.0 (path_of inner l.0 l.1) f r.0 r.1 r.2))
    where
      at_node : (low : ℕ) (path : List (C × R)) (f : K × List (C × R)) (n : Node) (left : List (C × R)) → Found low path f n left → (n : Node) × (g : K × List (C × R)) × Any (λ m. m ≡ n) (inner_nodes ++ leaf_nodes) × Reaches n g × IsSameUnder eq same eqk f g
      at_node low path f (Inner at) left r = (Inner at, r.0, Any-left (λ m. m ≡ Inner at) inner_nodes leaf_nodes (inner_listed at r.0 r.1), r.1, r.2)
      at_node low path f (Leaf at) left r = (Leaf at, r.0, Any-right (λ m. m ≡ Leaf at) inner_nodes leaf_nodes (leaf_listed at r.0 r.1), r.1, r.2)
