-- No definition of look-ups, insertions or trees distinguishes equal keys, calls or answers.
use Rattle.std.proofs.Common.{◌≡◌, ◌<◌, ℕ, zero, suc, refl, sym, ap, subst, Bool, List, [], ◌∷◌, ◌++◌, length, get_or, inl, inr, arith, IsTrue, Option, Some, None}
use Rattle.std.proofs.lemmas.List.Elements.{All-weaker}
use Rattle.std.specs.List.{AllZip}
use Rattle.std.specs.Cmp.{IsEquivalence}
use Rattle.comemo_base.specs.Answers.{Agrees}
use Rattle.comemo_base.specs.Tree.{Stored, IsSamePath, IsPrefix, IsTree}
use Rattle.comemo_base.specs.Lookup.{IsNext, IsAskedPrefix, IsAsked, FindsAgreeingPath}
use Rattle.comemo_base.specs.Insertion.{IsStem, outside}
use Rattle.comemo_base.proofs.Under.{Any-weaker}
use Rattle.comemo_base.proofs.Paths.{turned, joined, IsSamePath-turned, IsSamePath-joined}
use Rattle.comemo_base.proofs.Steps.{AllAmong-same as AllAmong-path}
use Rattle.comemo_tree_tests.specs.Laws.{IsPrefixAlike, IsNextAlike, IsAskedAlike, IsRefusedAlike, FindsPathAlike, IsStemAlike, IsNewPathAlike, IsTreeAlike}
use Rattle.comemo_tree_tests.proofs.Agreeing.{IsSamePath-itself}
use Rattle.comemo_tree_tests.proofs.Alike.{AllAmong-same, HasDistinctCalls-same, Parts-same, Agrees-alike}
use Rattle.comemo_tree_tests.proofs.AlikePairs.{IsSamePath-append, outside_alike}

module _ {C R : Type 0} {eq : C → C → Bool} {same : R → R → Bool} (calls : IsEquivalence eq) (answers : IsEquivalence same) where
  IsPrefix-same : (ps ps' qs qs' : List (C × R)) → IsSamePath eq same ps ps' → IsSamePath eq same qs qs' → IsPrefix eq same ps qs → IsPrefix eq same ps' qs'
  IsPrefix-same [] [] qs qs' h h' k = tt
  IsPrefix-same [] (p' ∷ ps') qs qs' h h' k = absurd h
  IsPrefix-same (p ∷ ps) [] qs qs' h h' k = absurd h
  IsPrefix-same (p ∷ ps) (p' ∷ ps') [] qs' h h' k = absurd k
  IsPrefix-same (p ∷ ps) (p' ∷ ps') (q ∷ qs) [] h h' k = absurd h'
  IsPrefix-same (p ∷ ps) (p' ∷ ps') (q ∷ qs) (q' ∷ qs') h h' k =
      (joined calls p'.0 p.0 q'.0 (turned calls p.0 p'.0 h.0) (joined calls p.0 q.0 q'.0 k.0 h'.0), joined answers p'.1 p.1 q'.1 (turned answers p.1 p'.1 h.1) (joined answers p.1 q.1 q'.1 k.1 h'.1), IsPrefix-same ps ps' qs qs' h.2 h'.2 k.2)

  IsNext-same : (ps ps' qs qs' : List (C × R)) (a b : C) → IsSamePath eq same ps ps' → IsTrue (eq a b) → IsSamePath eq same qs qs' → IsNext eq same ps a qs → IsNext eq same ps' b qs'
  IsNext-same [] [] [] qs' a b h e h' k = absurd k
  IsNext-same [] [] (q ∷ qs) [] a b h e h' k = absurd h'
  IsNext-same [] [] (q ∷ qs) (q' ∷ qs') a b h e h' k = joined calls b a q'.0 (turned calls a b e) (joined calls a q.0 q'.0 k h'.0)
  IsNext-same [] (p' ∷ ps') qs qs' a b h e h' k = absurd h
  IsNext-same (p ∷ ps) [] qs qs' a b h e h' k = absurd h
  IsNext-same (p ∷ ps) (p' ∷ ps') [] qs' a b h e h' k = absurd k
  IsNext-same (p ∷ ps) (p' ∷ ps') (q ∷ qs) [] a b h e h' k = absurd h'
  IsNext-same (p ∷ ps) (p' ∷ ps') (q ∷ qs) (q' ∷ qs') a b h e h' k =
      (joined calls p'.0 p.0 q'.0 (turned calls p.0 p'.0 h.0) (joined calls p.0 q.0 q'.0 k.0 h'.0), joined answers p'.1 p.1 q'.1 (turned answers p.1 p'.1 h.1) (joined answers p.1 q.1 q'.1 k.1 h'.1), IsNext-same ps ps' qs qs' a b h.2 e h'.2 k.2)

  nothing-same : (ps qs : List (C × R)) → IsSamePath eq same ps qs → ps ≡ [] → qs ≡ []
  nothing-same [] [] h e = refl
  nothing-same [] (q ∷ qs) h e = absurd h
  nothing-same (p ∷ ps) qs h e = cc

  length-same : (ps qs : List (C × R)) → IsSamePath eq same ps qs → length ps ≡ length qs
  length-same [] [] h = refl
  length-same [] (q ∷ qs) h = absurd h
  length-same (p ∷ ps) [] h = absurd h
  length-same (p ∷ ps) (q ∷ qs) h = ap suc (length-same ps qs h.2)

  -- a list that is equal to one with a last pair has one too
  split : (prefix : List (C × R)) (last : C × R) (qs : List (C × R)) → IsSamePath eq same (prefix ++ last ∷ []) qs → (prefix' : List (C × R)) × (last' : C × R) × (qs ≡ prefix' ++ last' ∷ []) × IsSamePath eq same prefix prefix' × IsTrue (eq last.0 last'.0)
  split [] last [] h = absurd h
  split [] last (q ∷ []) h = ([], q, refl, tt, h.0)
  split [] last (q ∷ (r ∷ qs)) h = absurd h.2
  split (p ∷ prefix) last [] h = absurd h
  split (p ∷ prefix) last (q ∷ qs) h =
      let rest = split prefix last qs h.2 in
      (q ∷ rest.0, rest.1, ap (λ xs. q ∷ xs) rest.2, (h.0, h.1, rest.3), rest.4)

  pub prefixes_alike : IsPrefixAlike eq same
  prefixes_alike ps ps' qs qs' h h' =
      (IsPrefix-same ps ps' qs qs' h h', IsPrefix-same ps' ps qs' qs (IsSamePath-turned calls answers ps ps' h) (IsSamePath-turned calls answers qs qs' h'))

  pub next_alike : IsNextAlike eq same
  next_alike ps ps' qs qs' a b h e h' =
      (IsNext-same ps ps' qs qs' a b h e h', IsNext-same ps' ps qs' qs b a (IsSamePath-turned calls answers ps ps' h) (turned calls a b e) (IsSamePath-turned calls answers qs qs' h'))

  module _ (K T : Type 0) where
    IsAskedPrefix-same : (us : List (Stored K C R T)) (ps qs : List (C × R)) → IsSamePath eq same ps qs → IsAskedPrefix eq same us ps → IsAskedPrefix eq same us qs
    IsAskedPrefix-same us ps qs h k =
        let s = split k.prefix k.last qs (subst (λ xs. IsSamePath eq same xs qs) k.splits h) in
        record {
          prefix = s.0;
          last = s.1;
          splits = s.2;
          next = Any-weaker (λ (x : Stored K C R T). IsNext eq same k.prefix k.last.0 x.path) (λ x. IsNext eq same s.0 s.1.0 x.path) (λ x n. IsNext-same k.prefix s.0 x.path x.path k.last.0 s.1.0 s.3 s.4 (IsSamePath-itself calls answers x.path) n) us k.next;
        }

    IsAsked-same : (us : List (Stored K C R T)) (ps qs : List (C × R)) (r : Option T) → IsSamePath eq same ps qs → IsAsked eq same us ps r → IsAsked eq same us qs r
    IsAsked-same us ps qs None h k = (
      All-weaker (λ (x : Stored K C R T). ¬ IsPrefix eq same ps x.path) (λ x. ¬ IsPrefix eq same qs x.path) (λ x n f. n (IsPrefix-same qs ps x.path x.path (IsSamePath-turned calls answers ps qs h) (IsSamePath-itself calls answers x.path) f)) us k.0,
      elim k.1 [ inl none ↦ inl (nothing-same ps qs h none) | inr along ↦ inr (IsAskedPrefix-same us ps qs h along) ],
    )
    IsAsked-same us ps qs (Some v) h k =
        Any-weaker (λ (x : Stored K C R T). IsSamePath eq same ps x.path × (x.value ≡ v)) (λ x. IsSamePath eq same qs x.path × (x.value ≡ v)) (λ x n. (IsSamePath-joined calls answers qs ps x.path (IsSamePath-turned calls answers ps qs h) n.0, n.1)) us k

    pub asked_alike : IsAskedAlike eq same K T
    asked_alike us ps qs r h = (IsAsked-same us ps qs r h, IsAsked-same us qs ps r (IsSamePath-turned calls answers ps qs h))

    pub refused_alike : IsRefusedAlike eq same K T
    refused_alike us ps qs a b h e = (
      Any-weaker (λ (x : Stored K C R T). IsNext eq same ps a x.path) (λ x. IsNext eq same qs b x.path) (λ x n. IsNext-same ps qs x.path x.path a b h e (IsSamePath-itself calls answers x.path) n) us,
      Any-weaker (λ (x : Stored K C R T). IsNext eq same qs b x.path) (λ x. IsNext eq same ps a x.path) (λ x n. IsNext-same qs ps x.path x.path b a (IsSamePath-turned calls answers ps qs h) (turned calls a b e) (IsSamePath-itself calls answers x.path) n) us,
    )

    found_none : (us : List (Stored K C R T)) (m m' : C → R) → ((c : C) → IsTrue (same (m c) (m' c))) → FindsAgreeingPath eq same us m None → FindsAgreeingPath eq same us m' None
    found_none us m m' e k =
        All-weaker (λ (x : Stored K C R T). ¬ Agrees same m x.path) (λ x. ¬ Agrees same m' x.path) (λ x n a. n (Agrees-alike calls answers m' m x.path (λ c. turned answers (m c) (m' c) (e c)) a)) us k

    found_path : (us : List (Stored K C R T)) (m m' : C → R) (ps qs : List (C × R)) (v : T) → ((c : C) → IsTrue (same (m c) (m' c))) → IsSamePath eq same ps qs → FindsAgreeingPath eq same us m (Some (ps, v)) → FindsAgreeingPath eq same us m' (Some (qs, v))
    found_path us m m' ps qs v e h k =
        Any-weaker (λ (x : Stored K C R T). Agrees same m x.path × IsSamePath eq same ps x.path × (x.value ≡ v)) (λ x. Agrees same m' x.path × IsSamePath eq same qs x.path × (x.value ≡ v)) (λ x n. (Agrees-alike calls answers m m' x.path e n.0, IsSamePath-joined calls answers qs ps x.path (IsSamePath-turned calls answers ps qs h) n.1, n.2)) us k

    pub finds_path_alike : FindsPathAlike eq same K T
    finds_path_alike us m m' e =
        let e' : (c : C) → IsTrue (same (m' c) (m c)) = λ c. turned answers (m c) (m' c) (e c) in
        ((found_none us m m' e, found_none us m' m e'), λ ps qs v h. (found_path us m m' ps qs v e h, found_path us m' m qs ps v e' (IsSamePath-turned calls answers ps qs h)))

    IsStem-same : (us : List (Stored K C R T)) (s s' ps qs : List (C × R)) → IsSamePath eq same s s' → IsSamePath eq same ps qs → IsStem eq same us s ps → IsStem eq same us s' qs
    IsStem-same us s s' ps qs h h' (inl n) = inl (n.0, nothing-same ps qs h' n.1)
    IsStem-same us s s' ps qs h h' (inr n) = inr (
      AllAmong-path calls answers s' ps qs h' (AllAmong-same calls answers s s' ps h n.0),
      IsAskedPrefix-same us ps qs h' n.1,
      λ other a k. let l = n.2 other (AllAmong-same calls answers s' s other (IsSamePath-turned calls answers s s' h) a) k in omega (arith, l, length-same ps qs h'),
    )

    pub stems_alike : IsStemAlike eq same K T
    stems_alike us s s' ps qs h h' =
        (IsStem-same us s s' ps qs h h', IsStem-same us s' s qs ps (IsSamePath-turned calls answers s s' h) (IsSamePath-turned calls answers ps qs h'))

    pub new_paths_alike : IsNewPathAlike eq same K T
    new_paths_alike us s s' ps h k =
        let prefix = k.0 in
        let itself = IsSamePath-itself calls answers prefix in
        let path = prefix ++ outside eq prefix s' in
        (path, (prefix, IsStem-same us s s' prefix prefix h itself k.1, refl), subst (λ xs. IsSamePath eq same xs path) (sym k.2) (IsSamePath-append calls answers prefix prefix (outside eq prefix s) (outside eq prefix s') itself (outside_alike calls answers prefix prefix s s' itself h)))

    module _ {eqk : K → K → Bool} (keys : IsEquivalence eqk) where
      abbrev SameEntry : Stored K C R T → Stored K C R T → Type 0
      SameEntry e e' = IsTrue (eqk e.key e'.key) × IsSamePath eq same e.path e'.path

      entry_at : (es es' : List (Stored K C R T)) (i : ℕ) (d : Stored K C R T) → AllZip SameEntry es es' → i < length es' → SameEntry (get_or es i d) (get_or es' i d)
      entry_at [] [] i d h l = absurd (omega arith)
      entry_at [] (e' ∷ es') i d h l = absurd h
      entry_at (e ∷ es) [] i d h l = absurd h
      entry_at (e ∷ es) (e' ∷ es') zero d h l = h.0
      entry_at (e ∷ es) (e' ∷ es') (suc i) d h l = entry_at es es' i d h.1 (omega arith)

      count : (es es' : List (Stored K C R T)) → AllZip SameEntry es es' → length es ≡ length es'
      count [] [] h = refl
      count [] (e' ∷ es') h = absurd h
      count (e ∷ es) [] h = absurd h
      count (e ∷ es) (e' ∷ es') h = ap suc (count es es' h.1)

      entries_turned : (es es' : List (Stored K C R T)) → AllZip SameEntry es es' → AllZip SameEntry es' es
      entries_turned [] [] h = tt
      entries_turned [] (e' ∷ es') h = absurd h
      entries_turned (e ∷ es) [] h = absurd h
      entries_turned (e ∷ es) (e' ∷ es') h = ((turned keys e.key e'.key h.0.0, IsSamePath-turned calls answers e.path e'.path h.0.1), entries_turned es es' h.1)

      IsTree-same : (es es' : List (Stored K C R T)) → AllZip SameEntry es es' → IsTree eq same eqk es → IsTree eq same eqk es'
      IsTree-same es es' h tree =
          let n = count es es' h in
          record {
            parted = λ i j d l m differ k.
                let a = entry_at es es' i d h l in
                let b = entry_at es es' j d h m in
                let x = get_or es i d in
                let y = get_or es j d in
                let x' = get_or es' i d in
                let y' = get_or es' j d in
                let own : IsTrue (eqk x.key y.key) = joined keys x.key x'.key y.key a.0 (joined keys x'.key y'.key y.key k (turned keys y.key y'.key b.0)) in
                Parts-same calls answers x.path x'.path y.path y'.path a.1 b.1 (tree.parted i j d (omega (arith, n, l)) (omega (arith, n, m)) differ own);
            distinct = λ i d l.
                let a = entry_at es es' i d h l in
                HasDistinctCalls-same calls answers (get_or es i d).path (get_or es' i d).path a.1 (tree.distinct i d (omega (arith, n, l)));
          }

      pub trees_alike : IsTreeAlike eq same K T eqk
      trees_alike es es' h = (IsTree-same es es' h, IsTree-same es' es (entries_turned es es' h))
