-- Lemmas on the numbers of edges and keys of a tree.
use Rattle.std.proofs.Common.{◌≡◌, ◌≢◌, ◌∙◌, ◌≤◌, ◌+◌, ◌-◌, ◌^◌, min, ℕ, Bool, true, false, not, List, [], ◌∷◌, length, get_or, map, filter, Option, Some, None, sym, ap, subst, refl, IsTrue, arith}
use mathlib.Core.Bool.{true≢false}
use Rattle.std.specs.Prelude.{option_map}
use Rattle.std.proofs.lemmas.List.{length-map}
use Rattle.std.proofs.lemmas.Option.{slice_get-get_or, slice_get_within, get_or_from_slice_get}
use Rattle.std.proofs.lemmas.List.Elements.{All-map}
use Rattle.std.proofs.lemmas.List.Filters.{length-filter_both}
use Rattle.std.proofs.lemmas.List.Kept.{AllPairs-cons, AllPairs-filter}
use Rattle.std.proofs.lemmas.Map.Entries.{lookup_from_place, place_from_lookup, length-keys_of}
use Rattle.std.proofs.lemmas.Map.Keys.{IsDistinct-head, IsDistinct-tail}
use Rattle.std.specs.Cmp.{IsEquivalence}
use Rattle.std.specs.List.{All, AllPairs, Any, IsDistinct, slice_get}
use Rattle.std.proofs.lemmas.List.Elements.{All-from_recursion}
use Rattle.std.specs.Map.{keys_of}
use Rattle.std.specs.HashMap.{HashMap, get, IsUnique}
use Rattle.slab.specs.Slab as slab
use Rattle.comemo_base.specs.Tree.{Stored, IsPrefix, IsSamePath}
use Rattle.comemo_base.proofs.Paths.{turned, joined}
use Rattle.comemo_base.proofs.Under.{Any-filter, Any-weaker, All-filtered}
use Rattle.comemo_tree.specs.Shape.{Counts, IsSameUnder, IsPrefixUnder, IsShape, IsStoredKey}
use Rattle.comemo_tree.specs.Nodes.{contents, first_of, IsForest}
use Rattle.comemo_tree.specs.declared.children.Node.{Node}
use Rattle.comemo_tree.specs.declared.children.Node.TheVariants.{Inner, Leaf}
use Rattle.comemo_tree.specs.declared.tree.InnerNode.{InnerNode}
use Rattle.comemo_tree.specs.declared.tree.LeafNode.{LeafNode}
use Rattle.comemo_tree.specs.declared.tree.Start.{Start}
use Rattle.comemo_tree.proofs.Counts.{one_count, no_more, AllPairs-map, Any-map}
use Rattle.comemo_tree.proofs.Empty.{length-contents}
use Rattle.comemo_tree.proofs.Forest.{any_entry, leaf_at, leaf_below}
use Rattle.comemo_tree.proofs.Prefixes.{leaf_of_any, count_inner, count_all}

-- whether there is a pair
abbrev has_pair : {P : Type 0} → List P → Bool
has_pair [] = false
has_pair (p ∷ ps) = true

nothing : {P : Type 0} (ps : List P) → IsTrue (not (has_pair ps)) → ps ≡ []
nothing [] h = refl
nothing (p ∷ ps) h = let e : false ≡ true = h in cc

something : {P : Type 0} (ps : List P) → IsTrue (has_pair ps) → ps ≢ []
something [] h e = let f : false ≡ true = h in cc
something (p ∷ ps) h e = absurd (omega (arith, ap length e))

module _ {C R : Type 0} (eq : C → C → Bool) (same : R → R → Bool) where
  both_have : (ps qs : List (C × R)) → IsSamePath eq same ps qs → ps ≢ [] → IsTrue (has_pair qs)
  both_have [] qs s n = absurd (n refl)
  both_have (p ∷ ps) [] s n = absurd s
  both_have (p ∷ ps) (q ∷ qs) s n = refl

  both_lack : (qs : List (C × R)) → IsSamePath eq same [] qs → IsTrue (not (has_pair qs))
  both_lack [] s = refl
  both_lack (q ∷ qs) s = absurd s

-- no two keys of a map are equal
apart_keys_of : {K : Type 0} (eqk : K → K → Bool) (ks : List K) → IsDistinct eqk ks → AllPairs (λ k l. ¬ IsTrue (eqk k l)) ks
apart_keys_of eqk [] h = λ i j d l m. absurd (omega (arith, m))
apart_keys_of eqk (k ∷ ks) h =
    let first = All-from_recursion (λ l. eqk k l ≡ false) ks (IsDistinct-head eqk k ks h) in
    AllPairs-cons (λ k l. ¬ IsTrue (eqk k l)) k ks (λ i d l e. true≢false (sym e ∙ first i d l)) (apart_keys_of eqk ks (IsDistinct-tail eqk k ks h))

-- an element at a place
any_at : {X : Type 0} (P : X → Type 0) (xs : List X) (i : ℕ) (x : X) → slice_get xs i ≡ Some x → P x → Any P xs
any_at P xs i x e p = (i, x, slice_get_within xs i x e, get_or_from_slice_get xs i x x e, p)

module _ {K C R T S : Type 0} {eq : C → C → Bool} {same : R → R → Bool} {eqk : K → K → Bool} (calls : IsEquivalence eq) (answers : IsEquivalence same) (keys : IsEquivalence eqk) {inner : slab.Slab (InnerNode C R)} {leaves : slab.Slab (LeafNode K T)} {starts : HashMap K Start S} (forest : IsForest eq same eqk None inner leaves starts) (unique : IsUnique eqk starts) where
  -- each key with a first node is stored
  stored_first : (key : K) (first : Node) → first_of eqk starts key ≡ Some first → IsStoredKey eq same eqk (contents inner leaves) key
  stored_first key (Inner at) e =
      let i = forest.start key (Inner at) e in
      let b = leaf_below calls answers keys forest key [] at i.0 (Inner at, e, refl) i.1 in
      any_entry inner leaves (λ x. IsTrue (eqk x.key key)) b.0 b.1 b.4 b.5
  stored_first key (Leaf at) e =
      let l = leaf_at calls answers keys forest key [] at (Leaf at, e, refl) in
      any_entry inner leaves (λ x. IsTrue (eqk x.key key)) at l.0 l.1 l.2

  -- and each stored one has one
  started : (key : K) → IsStoredKey eq same eqk (contents inner leaves) key → Any (λ k. IsTrue (eqk key k)) (keys_of starts.entries)
  started key h =
      let l = leaf_of_any inner leaves (λ x. IsTrue (eqk x.key key)) h in
      let own = forest.led l.0 l.1 l.2 in
      let key' = l.1.key.value in
      by_lookup key' (turned keys key' key l.3) (get eqk starts key') refl own.0 own.1
    where
      by_lookup : (other : K) → IsTrue (eqk key other) → (found : Option Start) → get eqk starts other ≡ found → (first : Node) → first_of eqk starts other ≡ Some first → Any (λ k. IsTrue (eqk key k)) (keys_of starts.entries)
      by_lookup other s None e first f = let l : None ≡ Some first = sym (ap (option_map (λ (x : Start). x.first)) e) ∙ f in cc
      by_lookup other s (Some start) e first f =
          let p = place_from_lookup (eqk other) starts.entries start e in
          Any-map (λ (x : K × Start). x.0) (λ k. IsTrue (eqk key k)) starts.entries (any_at (λ (x : K × Start). IsTrue (eqk key x.0)) starts.entries p.0 (p.1, start) p.2 (joined keys key other p.1 s p.3))

  pub count_starts : Counts (IsStoredKey eq same eqk (contents inner leaves)) (λ k l. IsTrue (eqk k l)) (length starts.entries)
  count_starts = record {
    things = keys_of starts.entries;
    apart = apart_keys_of eqk (keys_of starts.entries) unique;
    only = All-map (IsStoredKey eq same eqk (contents inner leaves)) (λ (x : K × Start). x.0) starts.entries (λ i d l.
        let x = get_or starts.entries i d in
        stored_first x.0 x.1.first (ap (option_map (λ (s : Start). s.first)) (lookup_from_place keys starts.entries i x.0 x.1 unique (slice_get-get_or starts.entries i d l))));
    each = started;
    many = length-keys_of starts.entries;
  }

  -- there are no more keys than leaves
  pub starts_le : length starts.entries ≤ slab.slab_len leaves
  starts_le =
      let a = count_starts in
      let le = no_more (λ k l. IsTrue (eqk k l)) (turned keys) (joined keys) a.things (map (λ (x : Stored K C R T). x.key) (contents inner leaves)) a.apart (λ i d l.
      let k = get_or a.things i d in
      Any-map (λ (x : Stored K C R T). x.key) (λ z. IsTrue (eqk k z)) (contents inner leaves) (Any-weaker (λ (x : Stored K C R T). IsTrue (eqk x.key k)) (λ x. IsTrue (eqk k x.key)) (λ x e. turned keys x.key k e) (contents inner leaves) (a.only i d l))) in
      omega (arith, le, a.many, length-map (contents inner leaves) (λ (x : Stored K C R T). x.key), length-contents inner leaves)

  abbrev Prefix : Type 0
  Prefix = K × List (C × R)

  -- the prefixes with a pair
  edges_of : (n : ℕ) (a : Counts (IsPrefixUnder eq same eqk (contents inner leaves)) (IsSameUnder eq same eqk) n) → Counts (λ f. IsPrefixUnder eq same eqk (contents inner leaves) f × (f.1 ≢ [])) (IsSameUnder eq same eqk) (length (filter (λ (f : Prefix). has_pair f.1) a.things))
  edges_of n a = record {
    things = filter (λ (f : Prefix). has_pair f.1) a.things;
    apart = AllPairs-filter (λ f g. ¬ IsSameUnder eq same eqk f g) (λ f. has_pair f.1) a.things a.apart;
    only = All-filtered (λ (f : Prefix). has_pair f.1) (λ f. IsPrefixUnder eq same eqk (contents inner leaves) f × (f.1 ≢ [])) a.things (λ i d l t. (a.only i d l, something (get_or a.things i d).1 t));
    each = λ f p. Any-filter (λ (g : Prefix). has_pair g.1) (IsSameUnder eq same eqk f) a.things (Any-weaker (IsSameUnder eq same eqk f) (λ g. IsTrue (has_pair g.1) × IsSameUnder eq same eqk f g) (λ g s. (both_have eq same f.1 g.1 s.1 p.1, s)) a.things (a.each f p.0));
    many = refl;
  }

  -- those without are as many as the keys
  keys_from : (n : ℕ) (a : Counts (IsPrefixUnder eq same eqk (contents inner leaves)) (IsSameUnder eq same eqk) n) → Counts (IsStoredKey eq same eqk (contents inner leaves)) (λ k l. IsTrue (eqk k l)) (length (filter (λ (f : Prefix). not (has_pair f.1)) a.things))
  keys_from n a =
      let lacks : Prefix → Bool = λ f. not (has_pair f.1) in
      let empty : All (λ (f : Prefix). f.1 ≡ []) (filter lacks a.things) = All-filtered lacks (λ f. f.1 ≡ []) a.things (λ i d l t. nothing (get_or a.things i d).1 t) in
      let apart = AllPairs-filter (λ f g. ¬ IsSameUnder eq same eqk f g) lacks a.things a.apart in
      record {
        things = map (λ (f : Prefix). f.0) (filter lacks a.things);
        apart = AllPairs-map (λ (f : Prefix). f.0) (λ k l. ¬ IsTrue (eqk k l)) (filter lacks a.things) (λ i j d l m s. apart i j d l m (s, alike (get_or (filter lacks a.things) i d).1 (get_or (filter lacks a.things) j d).1 (empty i d (omega (arith, l, m))) (empty j d m)));
        only = All-map (IsStoredKey eq same eqk (contents inner leaves)) (λ (f : Prefix). f.0) (filter lacks a.things) (All-filtered lacks (λ f. IsStoredKey eq same eqk (contents inner leaves) f.0) a.things (λ i d l t.
            let f = get_or a.things i d in
            Any-weaker (λ (x : Stored K C R T). IsTrue (eqk x.key f.0) × IsPrefix eq same f.1 x.path) (λ x. IsTrue (eqk x.key f.0)) (λ x p. p.0) (contents inner leaves) (a.only i d l)));
        each = λ k p.
            let f : Prefix = (k, []) in
            let under = Any-weaker (λ (x : Stored K C R T). IsTrue (eqk x.key k)) (λ x. IsTrue (eqk x.key k) × IsPrefix eq same [] x.path) (λ x e. (e, tt)) (contents inner leaves) p in
            Any-map (λ (g : Prefix). g.0) (λ l. IsTrue (eqk k l)) (filter lacks a.things) (Any-filter lacks (λ g. IsTrue (eqk k g.0)) a.things (Any-weaker (IsSameUnder eq same eqk f) (λ g. IsTrue (lacks g) × IsTrue (eqk k g.0)) (λ g s. (both_lack eq same g.1 s.1, s.0)) a.things (a.each f under)));
        many = length-map (filter lacks a.things) (λ (f : Prefix). f.0);
      }
    where
      alike : (ps qs : List (C × R)) → ps ≡ [] → qs ≡ [] → IsSamePath eq same ps qs
      alike ps qs p q = subst (λ xs. IsSamePath eq same xs qs) (sym p) (subst (λ xs. IsSamePath eq same [] xs) (sym q) tt)

  pub IsShape-from_forest : (edges : ℕ) → edges ≡ min (slab.slab_len inner + (slab.slab_len leaves - length starts.entries)) (2 ^ 64 - 1) → IsShape eq same eqk (contents inner leaves) (slab.slab_len inner, slab.slab_len leaves, edges, length starts.entries)
  IsShape-from_forest edges e =
      let a = count_all calls answers keys forest in
      let n = slab.slab_len inner + slab.slab_len leaves in
      let k = one_count (λ k l. IsTrue (eqk k l)) (turned keys) (joined keys) (IsStoredKey eq same eqk (contents inner leaves)) _ _ count_starts (keys_from n a) in
      let both = length-filter_both (λ (f : Prefix). has_pair f.1) (λ f. not (has_pair f.1)) (λ f. refl) a.things in
      let fewer = starts_le in
      let number : length (filter (λ (f : Prefix). has_pair f.1) a.things) ≡ slab.slab_len inner + (slab.slab_len leaves - length starts.entries) = omega (arith, k, both, a.many, fewer) in
      record {
        inner = count_inner calls answers keys forest;
        leaves = length-contents inner leaves;
        edge_count = length (filter (λ (f : Prefix). has_pair f.1) a.things);
        edges = edges_of n a;
        edges_fit = e ∙ ap (λ m. min m (2 ^ 64 - 1)) (sym number);
        starts = count_starts;
      }
