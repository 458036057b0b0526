-- Lemmas on the leaf to which a list of answers leads.
use Rattle.std.proofs.Common.{◌≡◌, ◌∙◌, ◌<◌, ◌+◌, ℕ, Bool, List, [], ◌∷◌, ◌++◌, length, get_or, take, drop, Some, None, sym, ap, subst, refl, IsTrue}
use Rattle.std.proofs.lemmas.List.{take-append-drop, drop_more}
use Rattle.std.proofs.lemmas.List.Elements.{All-weaker}
use Rattle.std.specs.Cmp.{IsEquivalence}
use Rattle.std.specs.List.{All}
use Rattle.std.specs.Map.{lookup}
use Rattle.std.specs.HashMap.{HashMap}
use Rattle.slab.specs.Slab as slab
use Rattle.comemo_base.specs.Lookup.{under}
use Rattle.comemo_base.specs.Tree.{Stored, IsPrefix}
use Rattle.comemo_base.proofs.Paths.{turned, joined}
use Rattle.comemo_base.proofs.Under.{All-under}
use Rattle.comemo_tree.specs.Change.{HasAnswers}
use Rattle.comemo_tree.specs.Nodes.{Leads, LeadsFrom, path_of, contents, first_of, IsForest}
use Rattle.comemo_tree.specs.declared.children.Node.{Node}
use Rattle.comemo_tree.specs.declared.children.Node.TheVariants.{Inner, Leaf}
use Rattle.comemo_tree.specs.declared.tree.InnerNode.{InnerNode}
use Rattle.comemo_tree.specs.declared.tree.LeafNode.{LeafNode}
use Rattle.comemo_tree.specs.declared.tree.Start.{Start}
use Rattle.comemo_tree.proofs.Forest.{lookup_points, first_alike, all_entries, no_start, same_child, Leads-more}
use Rattle.std.proofs.lemmas.Map.Entries.{place_from_lookup}

-- one more pair, and its answer
pub HasAnswers-push : {C R : Type 0} (same : R → R → Bool) (ps : List (C × R)) (given : List R) (p : C × R) (answer : R) → HasAnswers same ps given → IsTrue (same p.1 answer) → HasAnswers same (ps ++ p ∷ []) (given ++ answer ∷ [])
HasAnswers-push same [] [] p answer h s = (s, tt)
HasAnswers-push same [] (a ∷ given) p answer h s = absurd h
HasAnswers-push same (q ∷ ps) [] p answer h s = absurd h
HasAnswers-push same (q ∷ ps) (a ∷ given) p answer h s = (h.0, HasAnswers-push same ps given p answer h.1 s)

-- a list at one of its places: what was gone over, the element there, and what is left
pub split_at : {X : Type 0} (xs : List X) (i : ℕ) (x : X) → i < length xs → x ≡ get_or xs i x → take i xs ++ x ∷ drop (i + 1) xs ≡ xs
split_at xs i x l e = ap (λ y. take i xs ++ y ∷ drop (i + 1) xs) e ∙ ap (λ ys. take i xs ++ ys) (sym (drop_more xs i x l)) ∙ take-append-drop i xs

module _ {K C R T S : Type 0} {eq : C → C → Bool} {same : R → R → Bool} {eqk : K → K → Bool} (calls : IsEquivalence eq) (answers : IsEquivalence same) (keys : IsEquivalence eqk) {inner : slab.Slab (InnerNode C R)} {leaves : slab.Slab (LeafNode K T)} {starts : HashMap K Start S} (forest : IsForest eq same eqk None inner leaves starts) where
  -- what has the answers that lead to a node goes on from there
  goes_on : (from : Node) (done qs : List (C × R)) (mid to : Node) (given left : List R) → Leads inner from done mid → Leads inner from qs to → HasAnswers same done given → HasAnswers same qs (given ++ left) → (rest : List (C × R)) × Leads inner mid rest to × HasAnswers same rest left
  goes_on from [] qs mid to [] left k h d a = (qs, subst (λ n. Leads inner n qs to) k h, a)
  goes_on from [] qs mid to (r ∷ given) left k h d a = absurd d
  goes_on from (p ∷ done) qs mid to [] left k h d a = absurd d
  goes_on from (p ∷ done) [] mid to (r ∷ given) left k h d a = absurd a
  goes_on from (p ∷ done) (q ∷ qs) mid to (r ∷ given) left k h d a =
      let one = same_child calls answers keys forest from p done q qs mid to k h (joined answers p.1 r q.1 d.0 (turned answers q.1 r a.0)) in
      goes_on k.2 done qs mid to given left k.7 (subst (λ n. Leads inner n qs to) (sym one) h.7) d.1 a.1

  -- where nothing goes on with what is left, no path has the answers
  none_from : (key : K) (done : List (C × R)) (mid : Node) (given left : List R) → LeadsFrom inner eqk starts key done mid → HasAnswers same done given → ((low : ℕ) (rest : List (C × R)) → Leads inner mid rest (Leaf low) → HasAnswers same rest left → ⊥) → All (λ (e : Stored K C R T). ¬ HasAnswers same e.path (given ++ left)) (under eqk (contents inner leaves) key)
  none_from key done mid given left lead h never =
      All-under eqk (contents inner leaves) key (λ e. ¬ HasAnswers same e.path (given ++ left)) (all_entries inner leaves (λ e. IsTrue (eqk e.key key) → ¬ HasAnswers same e.path (given ++ left)) (λ i leaf f k a.
      let own = forest.led i leaf f in
      let from : Some own.0 ≡ Some lead.0 = sym own.1 ∙ first_alike keys starts leaf.key.value key k ∙ lead.1 in
      let one : own.0 ≡ lead.0 = cc in
      let r = goes_on lead.0 done (path_of inner i leaf) mid (Leaf i) given left lead.2 (subst (λ n. Leads inner n (path_of inner i leaf) (Leaf i)) one own.2) h a in
      never i r.0 r.1 r.2))

  -- no path goes on from a leaf
  pub none_past_leaf : (key : K) (done : List (C × R)) (at : ℕ) (given : List R) (answer : R) (left : List R) → LeadsFrom inner eqk starts key done (Leaf at) → HasAnswers same done given → All (λ (e : Stored K C R T). ¬ HasAnswers same e.path (given ++ answer ∷ left)) (under eqk (contents inner leaves) key)
  none_past_leaf key done at given answer left lead h = none_from key done (Leaf at) given (answer ∷ left) lead h never
    where
      never : (low : ℕ) (rest : List (C × R)) → Leads inner (Leaf at) rest (Leaf low) → HasAnswers same rest (answer ∷ left) → ⊥
      never low [] k a = a
      never low (q ∷ rest) k a = let e : Leaf at ≡ Inner k.0 = k.3 in cc

  -- none goes on from an inner node without a child for the answer
  pub none_past_inner : (key : K) (done : List (C × R)) (at : ℕ) (node : InnerNode C R) (given : List R) (answer : R) (left : List R) → LeadsFrom inner eqk starts key done (Inner at) → slab.get inner at ≡ Some node → HasAnswers same done given → lookup (same answer) node.children ≡ None → All (λ (e : Stored K C R T). ¬ HasAnswers same e.path (given ++ answer ∷ left)) (under eqk (contents inner leaves) key)
  none_past_inner key done at node given answer left lead e h none = none_from key done (Inner at) given (answer ∷ left) lead h never
    where
      never : (low : ℕ) (rest : List (C × R)) → Leads inner (Inner at) rest (Leaf low) → HasAnswers same rest (answer ∷ left) → ⊥
      never low [] k a = a
      never low (q ∷ rest) k a =
          let here : Inner at ≡ Inner k.0 = k.3 in
          let key' : at ≡ k.0 = cc in
          let is : Some node ≡ Some k.1 = sym e ∙ ap (slab.get inner) key' ∙ k.4 in
          let one : k.1 ≡ node = cc in
          let none' = subst (λ (n : InnerNode C R). lookup (same answer) n.children ≡ None) (sym one) none in
          let finds = lookup_points answers k.1.children k.6.0 answer q.1 k.2 (forest.answers k.0 k.1 k.4) k.6.1 (turned answers q.1 answer a.0) in
          let no_child : None ≡ Some k.2 = sym none' ∙ finds in
          cc

  -- none ends at an inner node
  pub none_ends_inner : (key : K) (done : List (C × R)) (at : ℕ) (given : List R) → LeadsFrom inner eqk starts key done (Inner at) → HasAnswers same done given → All (λ (e : Stored K C R T). ¬ HasAnswers same e.path (given ++ [])) (under eqk (contents inner leaves) key)
  none_ends_inner key done at given lead h = none_from key done (Inner at) given [] lead h never
    where
      never : (low : ℕ) (rest : List (C × R)) → Leads inner (Inner at) rest (Leaf low) → HasAnswers same rest [] → ⊥
      never low [] k a = let e : Inner at ≡ Leaf low = k in cc
      never low (q ∷ rest) k a = a

  -- none is under a key without a first node
  pub none_without_start : (key : K) (given : List R) → first_of eqk starts key ≡ None → All (λ (e : Stored K C R T). ¬ HasAnswers same e.path given) (under eqk (contents inner leaves) key)
  none_without_start key given none =
      All-weaker (λ (e : Stored K C R T). ¬ IsPrefix eq same [] e.path) (λ e. ¬ HasAnswers same e.path given) (λ e other a. other tt) (under eqk (contents inner leaves) key) (no_start calls answers keys forest key none).0

  -- the child for an answer is led to by one more pair
  pub next_reached : (key : K) (done : List (C × R)) (at : ℕ) (node : InnerNode C R) (given : List R) (answer : R) (next : Node) → LeadsFrom inner eqk starts key done (Inner at) → slab.get inner at ≡ Some node → HasAnswers same done given → lookup (same answer) node.children ≡ Some next → (path : List (C × R)) × LeadsFrom inner eqk starts key path next × HasAnswers same path (given ++ answer ∷ [])
  next_reached key done at node given answer next lead e h found =
      let p = place_from_lookup (same answer) node.children next found in
      let pair : C × R = (node.call, p.1) in
      (done ++ pair ∷ [], (lead.0, lead.1, Leads-more inner lead.0 done at node pair next lead.2 e refl (p.0, p.2)), HasAnswers-push same done given pair answer h (turned answers answer p.1 p.3))
