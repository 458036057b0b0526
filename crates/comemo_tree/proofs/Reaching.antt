-- Lemmas on the keys whose paths ask given calls.
use Rattle.std.proofs.Common.{◌≡◌, ◌≢◌, ◌∙◌, ◌<◌, ◌≤◌, ◌+◌, ℕ, zero, suc, Bool, true, false, List, [], ◌∷◌, ◌++◌, length, get_or, Option, Some, None, sym, ap, subst, refl, inl, inr, IsTrue, arith, is_some, slice_set, length-append}
use Rattle.std.specs.Prelude.{option_map}
use Rattle.std.specs.Cmp.{IsEquivalence}
use Rattle.std.specs.List.{All, Any, slice_get}
use Rattle.std.specs.HashMap.{HashMap, get}
use Rattle.std.proofs.lemmas.Bool.{cases_Bool, cases_eq}
use Rattle.std.proofs.lemmas.List.{get_or-set_same, get_or-set_other, get_or_past, length-set}
use Rattle.std.proofs.lemmas.Map.Entries.{place_from_lookup}
use Rattle.std.proofs.lemmas.Option.{slice_get_within}
use Rattle.slab.specs.Slab as slab
use Rattle.comemo_base.specs.Tree.{Stored}
use Rattle.comemo_base.proofs.Under.{Any-here, Any-weaker}
use Rattle.comemo_tree.specs.Marks.{IsRooted, AreOf, rank}
use Rattle.comemo_tree.specs.Nodes.{Leads, LeadsFrom, origin, extended, path_of, contents, IsForest}
use Rattle.comemo_tree.specs.Reach.{is_one, asks_one, AsksUnder, HasParents, IsFirstOf, IsMarkedUpTo, marked}
use Rattle.comemo_tree.specs.declared.children.Node.{Node}
use Rattle.comemo_tree.specs.declared.children.Node.TheVariants.{Inner, Leaf}
use Rattle.comemo_tree.specs.declared.tree.InnerNode.{InnerNode}
use Rattle.comemo_tree.specs.declared.tree.LeafNode.{LeafNode}
use Rattle.comemo_tree.specs.declared.tree.Start.{Start}
use Rattle.comemo_tree.proofs.Counts.{Any-left, Any-right}
use Rattle.comemo_tree.proofs.Forest.{knows_from, leaf_below, any_entry, all_entries}
use Rattle.comemo_tree.proofs.Passes.{some_of, cases_below}
use Rattle.comemo_tree.proofs.Prefixes.{inner_reached}

module _ {C R : Type 0} (inner : slab.Slab (InnerNode C R)) where
  pub HasParents-from_rooted : {K T : Type 0} {leaves : slab.Slab (LeafNode K T)} → IsRooted inner leaves → HasParents inner
  HasParents-from_rooted rooted = record {
    parent = λ below node at is p. (let c = rooted.inner_child below node at is p in (c.0, c.2, rooted.deeper below node at c.0 is p c.2));
  }

  -- ---- on the way up
  -- the ways to both nodes begin at one
  abbrev pub SameFirst : ℕ → ℕ → Type 0
  SameFirst from at =
      (start : InnerNode C R) × (node : InnerNode C R) × (slab.get inner from ≡ Some start) × (slab.get inner at ≡ Some node) × ((origin inner start.depth (Inner from) start.parent).0 ≡ (origin inner node.depth (Inner at) node.parent).0)

  pub SameFirst-init : (from : ℕ) → is_some (slab.get inner from) ≡ true → SameFirst from from
  SameFirst-init from h = let s = some_of (slab.get inner from) h in (s.0, s.0, s.1, s.1, refl)

  pub there : (from at : ℕ) → SameFirst from at → is_some (slab.get inner at) ≡ true
  there from at s = ap is_some s.3

  pub SameFirst-step : HasParents inner → (from at above : ℕ) (node : InnerNode C R) → SameFirst from at → slab.get inner at ≡ Some node → node.parent ≡ Some above → SameFirst from above
  SameFirst-step parents from at above node s e p =
      let two : Some s.1 ≡ Some node = sym s.3 ∙ e in
      let one : s.1 ≡ node = cc in
      let up = parents.parent at node above e p in
      let way : (origin inner node.depth (Inner at) node.parent).0 ≡ (origin inner up.0.depth (Inner above) up.0.parent).0 =
      ap (λ n. (origin inner n (Inner at) node.parent).0) up.2
      ∙ ap (λ o. (origin inner (suc up.0.depth) (Inner at) o).0) p
      ∙ ap (λ o. (extended inner (λ q. origin inner up.0.depth (Inner above) q) (Inner at) o).0) up.1 in
      (s.0, up.0, s.2, up.1, s.4 ∙ ap (λ (n : InnerNode C R). (origin inner n.depth (Inner at) n.parent).0) one ∙ way)

  pub rank_falls : HasParents inner → (at above : ℕ) (node : InnerNode C R) → slab.get inner at ≡ Some node → node.parent ≡ Some above → rank (slab.get inner above) < rank (slab.get inner at)
  rank_falls parents at above node e p =
      let up = parents.parent at node above e p in
      omega (arith, ap rank e, ap rank up.1, up.2)

  first_alone : (depth : ℕ) (at : ℕ) → (origin inner depth (Inner at) None).0 ≡ Inner at
  first_alone zero at = refl
  first_alone (suc depth) at = refl

  pub IsFirstOf-end : (from at : ℕ) (node : InnerNode C R) → SameFirst from at → slab.get inner at ≡ Some node → node.parent ≡ None → IsFirstOf inner from at
  IsFirstOf-end from at node s e p =
      let two : Some s.1 ≡ Some node = sym s.3 ∙ e in
      let one : s.1 ≡ node = cc in
      (s.0, s.2, s.4 ∙ ap (λ (n : InnerNode C R). (origin inner n.depth (Inner at) n.parent).0) one ∙ ap (λ o. (origin inner node.depth (Inner at) o).0) p ∙ first_alone node.depth at)

  one_first : (at f g : ℕ) → IsFirstOf inner at f → IsFirstOf inner at g → f ≡ g
  one_first at f g h k =
      let two : Some h.0 ≡ Some k.0 = sym h.1 ∙ k.1 in
      let one : h.0 ≡ k.0 = cc in
      let firsts : Inner f ≡ Inner g = sym h.2 ∙ ap (λ (n : InnerNode C R). (origin inner n.depth (Inner at) n.parent).0) one ∙ k.2 in
      cc

  pub first_within : (at n : ℕ) → is_some (slab.get inner at) ≡ true → length inner.slots ≤ n → at < n
  first_within at n h l = elim (cases_below at (length inner.slots)) [
    | inl b ↦ omega (arith, b, l)
    | inr b ↦ (let two : false ≡ true = sym (ap is_some (get_or_past inner.slots at None b)) ∙ h in cc)
  ]

  -- ---- the marks
  module _ (eq : C → C → Bool) (calls : List C) where
    pub IsMarkedUpTo-skip : (marks : List Bool) (end : ℕ) (node : InnerNode C R) → IsMarkedUpTo eq calls inner marks end → slab.get inner end ≡ Some node → is_one eq calls node.call ≡ false → IsMarkedUpTo eq calls inner marks (end + 1)
    IsMarkedUpTo-skip marks end here m is absent = record {
      len = m.len;
      marked = λ at node first l e h f. elim (cases_eq at end) [
        | inl s ↦ (let two : Some here ≡ Some node = sym is ∙ ap (slab.get inner) (sym s) ∙ e in
            let one : here ≡ node = cc in
            let both : true ≡ false = sym h ∙ ap (λ (n : InnerNode C R). is_one eq calls n.call) (sym one) ∙ absent in
            cc)
        | inr d ↦ m.marked at node first (omega arith) e h f
      ];
      only = m.only;
    }

    pub IsMarkedUpTo-step : (marks : List Bool) (end : ℕ) (node : InnerNode C R) (first : ℕ) → IsMarkedUpTo eq calls inner marks end → slab.get inner end ≡ Some node → is_one eq calls node.call ≡ true → IsFirstOf inner end first → first < length marks → IsMarkedUpTo eq calls inner (slice_set marks first true) (end + 1)
    IsMarkedUpTo-step marks end here top m is present f l = record {
      len = omega (arith, m.len, length-set marks top true);
      marked = λ at node first k e h g. elim (cases_eq first top) [
        | inl s ↦ ap (λ i. get_or (slice_set marks top true) i false) s ∙ get_or-set_same marks top true false l
        | inr d ↦ get_or-set_other marks top first true false d ∙ elim (cases_eq at end) [
          | inl s ↦ absurd (d (one_first end first top (subst (λ x. IsFirstOf inner x first) s g) f))
          | inr n ↦ m.marked at node first (omega arith) e h g
        ]
      ];
      only = λ first h. elim (cases_eq first top) [
        | inl s ↦ (end, here, is, present, subst (λ x. IsFirstOf inner end x) (sym s) f)
        | inr d ↦ m.only first (sym (get_or-set_other marks top first true false d) ∙ h)
      ];
    }

    -- a node that asks one of the calls lies on a way that asks one
    hit_on : (from : Node) (ps : List (C × R)) (to : Node) → Leads inner from ps to → IsTrue (asks_one eq calls ps) → (done : List (C × R)) × (at : ℕ) × (node : InnerNode C R) × Leads inner from done (Inner at) × (slab.get inner at ≡ Some node) × IsTrue (is_one eq calls node.call)
    hit_on from [] to h a = cc
    hit_on from (p ∷ ps) to h a = elim (cases_Bool (is_one eq calls p.0)) [
      | inl b ↦ ([], h.0, h.1, h.3, h.4, ap (is_one eq calls) h.5 ∙ b)
      | inr b ↦ (let r = hit_on h.2 ps to h.7 (rw b at a) in
          (p ∷ r.0, r.1, r.2, (h.0, h.1, h.2, h.3, h.4, h.5, h.6, r.3), r.4, r.5))
    ]

  starts_inner : (from : Node) (done : List (C × R)) (at : ℕ) → Leads inner from done (Inner at) → (first : ℕ) × (from ≡ Inner first)
  starts_inner from [] at h = (at, h)
  starts_inner from (p ∷ done) at h = (h.0, h.3)

pub AreOf-itself : {K T : Type 0} (leaves : slab.Slab (LeafNode K T)) → AreOf leaves leaves
AreOf-itself leaves = record { was = λ at leaf e. (leaf, e, refl, refl, refl) }

-- ---- a loop over entries, of which those with a property are pushed
module _ {B E : Type 0} (hit : E → Type 0) (of : B → E → Type 0) (entries : List E) where
  -- the entries gone over with the property were pushed
  abbrev pub ArePushed : ℕ → List B → Type 0
  ArePushed n ks = (i : ℕ) (e : E) → i < n → slice_get entries i ≡ Some e → hit e → Any (λ k. of k e) ks

  one_more : {Y : Type 0} (yielded : List Y) (y : Y) (i : ℕ) → i < length (yielded ++ y ∷ []) → i ≢ length yielded → i < length yielded
  one_more yielded y i l n = elim (cases_below i (length yielded)) [
    | inl b ↦ b
    | inr b ↦ absurd (n (omega (arith, l, b, length-append yielded (y ∷ []))))
  ]

  pub pushed_more : {Y : Type 0} (yielded : List Y) (y : Y) (ks : List B) (k : B) (x : E) → ArePushed (length yielded) ks → slice_get entries (length yielded) ≡ Some x → of k x → ArePushed (length (yielded ++ y ∷ [])) (ks ++ k ∷ [])
  pushed_more yielded y ks k x all at own i e l is h = elim (cases_eq i (length yielded)) [
    | inl s ↦ (let two : Some x ≡ Some e = sym at ∙ ap (slice_get entries) (sym s) ∙ is in
        let one : x ≡ e = cc in
        Any-right (λ b. of b e) ks (k ∷ []) (Any-here (λ b. of b e) k [] (subst (of k) one own)))
    | inr d ↦ Any-left (λ b. of b e) ks (k ∷ []) (all i e (one_more yielded y i l d) is h)
  ]

  pub skipped_more : {Y : Type 0} (yielded : List Y) (y : Y) (ks : List B) (x : E) → ArePushed (length yielded) ks → slice_get entries (length yielded) ≡ Some x → ¬ hit x → ArePushed (length (yielded ++ y ∷ [])) ks
  skipped_more yielded y ks x all at free i e l is h = elim (cases_eq i (length yielded)) [
    | inl s ↦ (let two : Some x ≡ Some e = sym at ∙ ap (slice_get entries) (sym s) ∙ is in
        let one : x ≡ e = cc in
        absurd (free (subst hit (sym one) h)))
    | inr d ↦ all i e (one_more yielded y i l d) is h
  ]

module _ {K C R T S : Type 0} {eq : C → C → Bool} {same : R → R → Bool} {eqk : K → K → Bool} (calls_eq : IsEquivalence eq) (answers : IsEquivalence same) (keys : IsEquivalence eqk) {inner : slab.Slab (InnerNode C R)} {leaves : slab.Slab (LeafNode K T)} {starts : HashMap K Start S} (forest : IsForest eq same eqk None inner leaves starts) (calls : List C) where
  -- the way to a node begins where it is led to from
  IsFirstOf-led : (key : K) (ps : List (C × R)) (at : ℕ) (node : InnerNode C R) (first : ℕ) (lead : LeadsFrom inner eqk starts key ps (Inner at)) → slab.get inner at ≡ Some node → lead.0 ≡ Inner first → IsFirstOf inner at first
  IsFirstOf-led key ps at node first lead e f =
      let k = knows_from calls_eq answers keys forest key ps (Inner at) lead in
      (k.1.0, k.1.1, ap (λ n. (origin inner n (Inner at) k.1.0.parent).0) k.1.3 ∙ ap (λ o. (origin inner (length ps) (Inner at) o).0) k.1.2 ∙ ap (λ (x : Node × List (C × R)). x.0) k.2 ∙ f)

  -- a key whose first node is marked has a path that asks one of the calls
  pub asks_marked : (marks : List Bool) → IsMarkedUpTo eq calls inner marks (length inner.slots) → (key : K) (start : Start) → get eqk starts key ≡ Some start → marked marks start.first ≡ true → AsksUnder eq calls eqk (contents inner leaves) key
  asks_marked marks m key start is mark = by start.first mark refl
    where
      by : (node : Node) → marked marks node ≡ true → start.first ≡ node → AsksUnder eq calls eqk (contents inner leaves) key
      by (Leaf low) h s = cc
      by (Inner first) h s =
          let o = m.only first h in
          let r = inner_reached calls_eq answers keys forest o.0 o.1 o.2 in
          let other = r.1 in
          let st = starts_inner inner other.0 r.0.1 o.0 other.2 in
          let f' = IsFirstOf-led r.0.0 r.0.1 o.0 o.1 st.0 other o.2 st.1 in
          let one : st.0 ≡ first = one_first inner o.0 st.0 first f' o.4 in
          let top : other.0 ≡ Inner first = st.1 ∙ ap Inner one in
          let lead : LeadsFrom inner eqk starts key r.0.1 (Inner o.0) = (Inner first, ap (option_map (λ (x : Start). x.first)) is ∙ ap Some s, subst (λ n. Leads inner n r.0.1 (Inner o.0)) top other.2) in
          let b = leaf_below calls_eq answers keys forest key r.0.1 o.0 o.1 lead o.2 in
          any_entry inner leaves (λ x. IsTrue (eqk x.key key) × IsTrue (asks_one eq calls x.path)) b.0 b.1 b.4
          (b.5, ap (asks_one eq calls) b.6 ∙ asks_on r.0.1 b.2 b.3 (ap (is_one eq calls) (sym b.7) ∙ o.3))
        where
          asks_on : (done : List (C × R)) (p : C × R) (rest : List (C × R)) → is_one eq calls p.0 ≡ true → asks_one eq calls (done ++ p ∷ rest) ≡ true
          asks_on [] p rest h = rw h refl
          asks_on (d ∷ done) p rest h = elim (cases_Bool (is_one eq calls d.0)) [
            | inl b ↦ rw b refl
            | inr b ↦ rw b (asks_on done p rest h)
          ]

  -- a path that asks one of the calls has a key whose first node is marked
  pub marked_asks : (marks : List Bool) → IsMarkedUpTo eq calls inner marks (length inner.slots) → All (λ (e : Stored K C R T). IsTrue (asks_one eq calls e.path) → (key : K) × (start : Start) × (i : ℕ) × (slice_get starts.entries i ≡ Some (key, start)) × IsTrue (eqk e.key key) × (marked marks start.first ≡ true)) (contents inner leaves)
  marked_asks marks m = all_entries inner leaves (λ (e : Stored K C R T). IsTrue (asks_one eq calls e.path) → (key : K) × (start : Start) × (i : ℕ) × (slice_get starts.entries i ≡ Some (key, start)) × IsTrue (eqk e.key key) × (marked marks start.first ≡ true)) (λ low leaf is asks.
      let own = forest.led low leaf is in
      let key = leaf.key.value in
      let h = hit_on inner eq calls own.0 (path_of inner low leaf) (Leaf low) own.2 asks in
      let st = starts_inner inner own.0 h.0 h.1 h.3 in
      let f = IsFirstOf-led key h.0 h.1 h.2 st.0 (own.0, own.1, h.3) h.4 st.1 in
      let in_range : h.1 < length inner.slots = below_len h.1 h.2 h.4 in
      let mark = m.marked h.1 h.2 st.0 in_range h.4 h.5 f in
      let g = got (get eqk starts key) refl own.0 own.1 in
      let p = place_from_lookup (eqk key) starts.entries g.0 g.1 in
      (p.1, g.0, p.0, p.2, p.3, ap (marked marks) (g.2 ∙ st.1) ∙ mark))
    where
      below_len : (at : ℕ) (node : InnerNode C R) → slab.get inner at ≡ Some node → at < length inner.slots
      below_len at node e = elim (cases_below at (length inner.slots)) [
        | inl l ↦ l
        | inr l ↦ (let two : None ≡ Some node = sym (get_or_past inner.slots at None l) ∙ e in cc)
      ]

      got : (o : Option Start) {x : Option Start} → x ≡ o → (first : Node) → option_map (λ (s : Start). s.first) x ≡ Some first → (start : Start) × (x ≡ Some start) × (start.first ≡ first)
      got None e first f = let two : None ≡ Some first = sym (ap (option_map (λ (s : Start). s.first)) e) ∙ f in cc
      got (Some start) e first f = let two : Some start.first ≡ Some first = sym (ap (option_map (λ (s : Start). s.first)) e) ∙ f in (start, e, cc)

  -- at the end of a loop that pushed the keys whose first nodes are marked
  pub all_pushed : {B : Type 0} (shown : B → K) (marks : List Bool) (n : ℕ) (ks : List B) → IsMarkedUpTo eq calls inner marks (length inner.slots) → n ≡ length starts.entries → ArePushed (λ (e : K × Start). IsTrue (marked marks e.1.first)) (λ (k : B) (e : K × Start). shown k ≡ e.0) starts.entries n ks → All (λ (e : Stored K C R T). IsTrue (asks_one eq calls e.path) → Any (λ k. IsTrue (eqk e.key (shown k))) ks) (contents inner leaves)
  all_pushed {B = B} shown marks n ks m len pushed = λ k d l asks. (let e = get_or (contents inner leaves) k d in
      let r = marked_asks marks m k d l asks in
      let within : r.2 < n = omega (arith, slice_get_within starts.entries r.2 (r.0, r.1) r.3, len) in
      Any-weaker (λ (b : B). shown b ≡ r.0) (λ (b : B). IsTrue (eqk e.key (shown b))) (λ b s. ap (eqk e.key) s ∙ r.4) ks (pushed r.2 (r.0, r.1) within r.3 r.5))
