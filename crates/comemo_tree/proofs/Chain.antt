-- A chain of nodes for the rest of a path, and its leaf.
use Rattle.std.proofs.Common.{◌≡◌, ◌⊎◌, ◌<◌, ◌+◌, ◌^◌, ◌∙◌, ℕ, Bool, List, [], ◌∷◌, ◌++◌, length, map, Option, Some, None, Result, Ok, Err, true, false, IsOk, OnErr, IfSome, refl, sym, ap, subst, inl, inr, arith, append_assoc}
use Rattle.std.specs.Cmp.{IsEquivalence}
use Rattle.std.specs.HashMap.{HashMap}
use Rattle.std.specs.List.Sorted.{IsPermutation}
use Rattle.std.specs.Map.{lookup}
use Rattle.std.proofs.lemmas.List.Sorted.{IsPermutation-map}
use Rattle.slab.specs.Slab as slab
use Rattle.slab.proofs.SlabLemmas.{Contains-entries}
use Rattle.comemo_base.specs.Sequence.{HasDistinctCalls}
use Rattle.comemo_base.specs.Tree.{stored}
use Rattle.comemo_tree.specs.Nodes.{Leads, LeadsFrom, origin, path_of, entry_of, contents, IsForest, AddsInner, AddsLeaf}
use Rattle.comemo_tree.specs.Growth.{CanGrow, Grown}
use Rattle.comemo_tree.specs.declared.children.Node.{Node}
use Rattle.comemo_tree.specs.declared.children.Node.TheVariants.{Inner, Leaf}
use Rattle.comemo_tree.specs.declared.tree.InnerNode.{InnerNode}
use Rattle.comemo_tree.specs.declared.tree.LeafNode.{LeafNode}
use Rattle.comemo_tree.specs.declared.tree.Start.{Start}
use Rattle.comemo_tree.proofs.Forest.{KnowsChildren, knows_led}
use Rattle.comemo_tree.proofs.Attach.{map_same, step', path_kept, Attached-inner, IsForest-inner, contents-inner, Attached-leaf, IsForest-leaf, path-leaf}
use Rattle.comemo_tree.proofs.Added.{entries-added}

-- from the node `above`, where the answer led nowhere and all pairs were left, the chain has come to the node `at`
pub record Chain {K C R T S : Type 0} (eq : C → C → Bool) (same : R → R → Bool) (eqk : K → K → Bool) (first : slab.Slab (InnerNode C R)) (above : ℕ) (led : R) (all : List (C × R)) (inner : slab.Slab (InnerNode C R)) (leaves : slab.Slab (LeafNode K T)) (starts : HashMap K Start S) (key : K) (at : ℕ) (answer : R) (left : List (C × R)) : Type 0 where
  pub grows : CanGrow eq same eqk inner leaves starts key at answer left
  pub path : (node : InnerNode C R) (done : List (C × R)) → slab.get first above ≡ Some node → LeadsFrom first eqk starts key done (Inner above) → grows.done ++ (grows.node.call, answer) ∷ left ≡ done ++ (node.call, led) ∷ all
  pub entries : contents inner leaves ≡ contents first leaves
  pub shallow : grows.node.depth + 1 + length left < 2 ^ 64
  pub room : slab.HasRoomFor inner (length left)
  pub begun : ((inner ≡ first) × (at ≡ above)) ⊎ (grows.node.children ≡ [])

pub same_key : (id u : ℕ) → Some id ≡ Some u → u ≡ id
same_key id u e = cc

-- what an error says of another
pub OnErr-always : {B F : Type 0} (P : Type 0) (r : Result B F) → P → OnErr r P
OnErr-always P (Ok x) h = tt
OnErr-always P (Err f) h = h

pub sure-passed : {A B E F X : Type 0} (P : X → Type 0) (o : Option X) (q : Result A E) (e : E) (r : Result B F) → q ≡ Err e → IfSome o (λ x. P x → IsOk q) → IfSome o (λ x. P x → IsOk r)
sure-passed P None q e r is h = tt
sure-passed P (Some x) q e r is h = λ p. let l : false ≡ true = subst (λ z. IsOk z) is (h p) in cc

module _ {C R : Type 0} {eq : C → C → Bool} {same : R → R → Bool} (answers : IsEquivalence same) {K T S : Type 0} {eqk : K → K → Bool} where
  -- one way leads to a node
  one_way : {tip : Option ℕ} {inner : slab.Slab (InnerNode C R)} {leaves : slab.Slab (LeafNode K T)} {starts : HashMap K Start S} (forest : IsForest eq same eqk tip inner leaves starts) (key : K) (ps qs : List (C × R)) (at : ℕ) → LeadsFrom inner eqk starts key ps (Inner at) → LeadsFrom inner eqk starts key qs (Inner at) → ps ≡ qs
  one_way {inner = inner} {leaves = leaves} forest key ps qs at l m =
      let child : KnowsChildren inner leaves = λ x n s next e p. forest.child x n s next e p in
      let j = knows_led inner leaves child l.0 l.0 (Inner at) [] ps (None, forest.start key l.0 l.1, refl) l.2 in
      let k = knows_led inner leaves child m.0 m.0 (Inner at) [] qs (None, forest.start key m.0 m.1, refl) m.2 in
      let two : Some j.1.0 ≡ Some k.1.0 = sym j.1.1 ∙ k.1.1 in
      let one : j.1.0 ≡ k.1.0 = cc in
      let deep : length ps ≡ length qs = sym j.1.3 ∙ ap (λ (n : InnerNode C R). n.depth) one ∙ k.1.3 in
      let above : j.0 ≡ k.0 = sym j.1.2 ∙ ap (λ (n : InnerNode C R). n.parent) one ∙ k.1.2 in
      ap (λ (x : Node × List (C × R)). x.1) (sym j.2 ∙ ap (λ n. origin inner n (Inner at) j.0) deep ∙ ap (λ o. origin inner (length qs) (Inner at) o) above ∙ k.2)

  -- one leaf more is one entry more
  contents-leaf : {tip : Option ℕ} {inner inner' : slab.Slab (InnerNode C R)} {leaves leaves' : slab.Slab (LeafNode K T)} {starts : HashMap K Start S} (forest : IsForest eq same eqk tip inner leaves starts) (t : ℕ) (r : R) (key : K) (value : T) (a : AddsLeaf inner inner' leaves leaves' t r key value) (none : lookup (same r) a.above.children ≡ None) (ps : List (C × R)) → LeadsFrom inner eqk starts key ps (Inner t) → IsPermutation (stored key (ps ++ (a.above.call, r) ∷ []) value ∷ contents inner leaves) (contents inner' leaves')
  contents-leaf {inner = inner} {inner' = inner'} {leaves = leaves} {leaves' = leaves'} forest t r key value a none ps lead =
      let more = IsPermutation-map (entry_of inner') _ _ (entries-added leaves leaves' a.id a.fresh a.vacant a.updates) in
      let old : map (entry_of inner') (slab.entries leaves) ≡ contents inner leaves = map_same (entry_of inner') (entry_of inner) (slab.entries leaves) (λ x c.
      let path = path_kept answers forest t a.above a.above' r (Leaf a.id) a.place (Attached-leaf answers forest t r key value a none) x.0 x.1 ((Contains-entries leaves x.0 x.1).0 c) in
      ap (λ qs. stored x.1.key.value qs x.1.value) path) in
      let new : entry_of inner' (a.id, a.fresh) ≡ stored key (ps ++ (a.above.call, r) ∷ []) value =
      ap (λ k. stored k (path_of inner' a.id a.fresh) a.fresh.value) a.fresh_key
      ∙ ap (λ qs. stored key qs a.fresh.value) (path-leaf answers forest t r key value a none ps lead)
      ∙ ap (λ v. stored key (ps ++ (a.above.call, r) ∷ []) v) a.fresh_value in
      subst (λ xs. IsPermutation xs (contents inner' leaves')) (ap (λ e. e ∷ map (entry_of inner') (slab.entries leaves)) new ∙ ap (λ es. stored key (ps ++ (a.above.call, r) ∷ []) value ∷ es) old) more

  module _ {inner : slab.Slab (InnerNode C R)} {leaves : slab.Slab (LeafNode K T)} {starts : HashMap K Start S} {key : K} {at : ℕ} {answer : R} where
    same_node : {left : List (C × R)} (g : CanGrow eq same eqk inner leaves starts key at answer left) (n : InnerNode C R) → slab.get inner at ≡ Some n → n ≡ g.node
    same_node g n e = let two : Some n ≡ Some g.node = sym e ∙ g.is in cc

    -- at the beginning of a chain
    pub Chain-begin : (left : List (C × R)) (g : CanGrow eq same eqk inner leaves starts key at answer left) → IfSome (slab.get inner at) (λ n. n.depth + 1 + length left < 2 ^ 64) → slab.HasRoomFor inner (length left) → Chain eq same eqk inner at answer left inner leaves starts key at answer left
    Chain-begin left g shallow room = record {
      grows = g;
      path = λ node done e lead. ap (λ ps. ps ++ (g.node.call, answer) ∷ left) (one_way g.forest key g.done done at g.lead lead) ∙ ap (λ (n : InnerNode C R). done ++ (n.call, answer) ∷ left) (sym (same_node g node e));
      entries = refl;
      shallow = subst (λ o. IfSome o (λ (n : InnerNode C R). n.depth + 1 + length left < 2 ^ 64)) g.is shallow;
      room = room;
      begun = inl (refl, refl);
    }

  module _ {first inner : slab.Slab (InnerNode C R)} {leaves : slab.Slab (LeafNode K T)} {starts : HashMap K Start S} {key : K} {above at : ℕ} {led answer : R} {all left : List (C × R)} (chain : Chain eq same eqk first above led all inner leaves starts key at answer left) where
    -- one more node
    pub Chain-step : (inner' : slab.Slab (InnerNode C R)) (id : ℕ) (call : C) (next : R) (later : List (C × R)) → left ≡ (call, next) ∷ later → AddsInner same inner inner' at answer call id → slab.slab_len inner' ≡ slab.slab_len inner + 1 → inner'.capacity ≡ inner.capacity → Chain eq same eqk first above led all inner' leaves starts key id next later
    Chain-step inner' id call next later cut a len capacity =
        let g = chain.grows in
        let own : a.above ≡ g.node = same_node g a.above a.at in
        let none : lookup (same answer) a.above.children ≡ None = ap (λ (n : InnerNode C R). lookup (same answer) n.children) own ∙ g.none in
        let whole : (g.done ++ (g.node.call, answer) ∷ []) ++ (a.fresh.call, next) ∷ later ≡ g.done ++ (g.node.call, answer) ∷ left =
        append_assoc g.done ((g.node.call, answer) ∷ []) ((a.fresh.call, next) ∷ later) ∙ ap (λ c. g.done ++ (g.node.call, answer) ∷ (c, next) ∷ later) a.fresh_call ∙ ap (λ xs. g.done ++ (g.node.call, answer) ∷ xs) (sym cut) in
        record {
          grows = record {
            tip = Some id;
            forest = IsForest-inner answers g.forest at answer call id a none g.only;
            only = λ u e. same_key id u e;
            node = a.fresh;
            is = a.here;
            none = ap (λ xs. lookup (same next) xs) a.childless;
            done = g.done ++ (g.node.call, answer) ∷ [];
            lead = (g.lead.0, g.lead.1, subst (λ (n : InnerNode C R). Leads inner' g.lead.0 (g.done ++ (n.call, answer) ∷ []) (Inner id)) own (step' answers g.forest at a.above a.above' answer (Inner id) a.place (Attached-inner answers g.forest at answer call id a none) g.lead.0 g.done g.lead.2));
            distinct = subst (λ xs. HasDistinctCalls eq xs) (sym whole) g.distinct;
          };
          path = λ node done e lead. whole ∙ chain.path node done e lead;
          entries = contents-inner answers g.forest at answer call id a none ∙ chain.entries;
          shallow = omega (arith, chain.shallow, a.fresh_depth, ap (λ (n : InnerNode C R). n.depth) own, ap length cut);
          room = omega (arith, chain.room, len, capacity, ap length cut);
          begun = inr a.childless;
        }

    -- the leaf
    pub Chain-end : (inner' : slab.Slab (InnerNode C R)) (leaves' : slab.Slab (LeafNode K T)) (value : T) → left ≡ [] → AddsLeaf inner inner' leaves leaves' at answer key value → (node : InnerNode C R) (done : List (C × R)) → slab.get first above ≡ Some node → LeadsFrom first eqk starts key done (Inner above) → Grown eq same eqk first leaves inner' leaves' starts key (done ++ (node.call, led) ∷ all) value
    Chain-end inner' leaves' value cut a node done e lead =
        let g = chain.grows in
        let own : a.above ≡ g.node = same_node g a.above a.at in
        let none : lookup (same answer) a.above.children ≡ None = ap (λ (n : InnerNode C R). lookup (same answer) n.children) own ∙ g.none in
        let last : g.done ++ (a.above.call, answer) ∷ [] ≡ g.done ++ (g.node.call, answer) ∷ left = ap (λ (n : InnerNode C R). g.done ++ (n.call, answer) ∷ []) own ∙ ap (λ xs. g.done ++ (g.node.call, answer) ∷ xs) (sym cut) in
        record {
          forest = IsForest-leaf answers g.forest at answer key value a none g.done g.lead g.only (subst (λ xs. HasDistinctCalls eq xs) (sym last) g.distinct);
          entries = subst (λ xs. IsPermutation xs (contents inner' leaves')) (ap (λ ps. stored key ps value ∷ contents inner leaves) (last ∙ chain.path node done e lead) ∙ ap (λ es. stored key (done ++ (node.call, led) ∷ all) value ∷ es) chain.entries) (contents-leaf g.forest at answer key value a none g.done g.lead);
        }

    -- what a refused link says: nothing was added yet
    pub Chain-there : slab.ContainsKey inner at
    Chain-there = rw chain.grows.is refl

    pub Chain-nowhere : IfSome (slab.get inner at) (λ n. (lookup (same answer) n.children ≡ None) × (n.depth + 1 < 2 ^ 64))
    Chain-nowhere = rw chain.grows.is (chain.grows.none, omega (arith, chain.shallow))

    pub Chain-sure : {A E : Type 0} (r : Result A E) → IfSome (slab.get inner at) (λ n. n.children ≡ [] → IsOk r) → IfSome (slab.get first above) (λ n. n.children ≡ [] → IsOk r)
    Chain-sure r sure = elim chain.begun [
      | inl h ↦ subst (λ s. IfSome (slab.get s above) (λ n. n.children ≡ [] → IsOk r)) h.0 (subst (λ x. IfSome (slab.get inner x) (λ n. n.children ≡ [] → IsOk r)) h.1 sure)
      | inr h ↦ always (slab.get first above) (subst (λ o. IfSome o (λ n. n.children ≡ [] → IsOk r)) chain.grows.is sure h)
    ]
      where
        always : (o : Option (InnerNode C R)) → IsOk r → IfSome o (λ n. n.children ≡ [] → IsOk r)
        always None ok = tt
        always (Some n) ok = λ e. ok

    -- where a link was refused nothing was added yet
    pub Chain-untouched : {A E : Type 0} (r : Result A E) (e : E) → r ≡ Err e → IfSome (slab.get inner at) (λ n. n.children ≡ [] → IsOk r) → inner ≡ first
    Chain-untouched {A = A} r e is sure = elim chain.begun [
      | inl b ↦ b.0
      | inr b ↦ (let no : false ≡ true = subst (λ z. IsOk z) is (subst (λ o. IfSome o (λ n. n.children ≡ [] → IsOk r)) chain.grows.is sure b) in cc)
    ]

    pub Chain-unchanged : {A E : Type 0} (r : Result A E) (now : slab.Slab (InnerNode C R)) (P : Type 0) → IfSome (slab.get inner at) (λ n. n.children ≡ [] → IsOk r) → OnErr r ((now ≡ inner) × P) → OnErr r ((now ≡ first) × P)
    Chain-unchanged (Ok x) now P sure h = tt
    Chain-unchanged {A = A} (Err e) now P sure h = (h.0 ∙ Chain-untouched {A = A} (Err e) e refl sure, h.1)
