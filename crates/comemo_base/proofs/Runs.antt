-- Lemmas on trees whose paths are all runs of one function.
use Rattle.std.proofs.Common.{◌≡◌, zero, Bool, true, false, List, [], ◌∷◌, ◌++◌, get_or, refl, sym, ap, ◌∙◌, inl, inr, arith, IsTrue, subst, None, Some, Option, is_some, Result, Ok, Err, OnOk, OnErr, IfOk, IfErr}
use Rattle.std.proofs.lemmas.Bool.{cases_Bool, cases_eq}
use Rattle.std.proofs.lemmas.List.Elements.{All-cons}
use Rattle.std.proofs.lemmas.List.Sorted.{All-permutation, Contains-permutation}
use Rattle.std.specs.List.{All, Any}
use Rattle.std.specs.Cmp.{IsEquivalence}
use Rattle.std.specs.declared.alloc.AllocError.{AllocError}
use Rattle.comemo_base.specs.Sequence.{HasDistinctCalls, held}
use Rattle.comemo_base.specs.Answers.{Respects, Agrees}
use Rattle.comemo_base.specs.Tree.{Stored, stored, Parts, IsTree}
use Rattle.comemo_base.specs.Lookup.{under, IsNext, FindsAgreeing}
use Rattle.comemo_base.specs.Insertion.{Has, AllAmong, LacksNextCall, outside, Exists, Misses, IsStem, IsNewPath, IsReason, Adds}
use Rattle.comemo_base.specs.declared.insertion.InsertError.{InsertError}
use Rattle.comemo_base.specs.declared.insertion.InsertError.TheVariants.{AlreadyExists, MissingCall, Memory}
use Rattle.comemo_base.proofs.Paths.{turned, joined, get_or_same}
use Rattle.comemo_base.proofs.Steps.{outside-nothing}
use Rattle.comemo_base.proofs.Under.{Any-under, Any-from_under, All-from_under}
use Rattle.comemo_base.specs.Runs.{AsksRespect, IsAskedInTurn, IsCausal, IsRun, IsSettled, IsRunReason}
use Rattle.comemo_base.specs.Sets.{HasSamePairs, HasSet, FindsSet, HasEachSetOnce, AddsSet}
use Rattle.comemo_base.proofs.Sets.{held-from_has, AllAmong-itself, held-through, Has-part, Has-answer, HasSamePairs-outside, Agrees-has, Agrees-among, answers_of, answers_of-respects, answers_of-agrees}

-- what holds of each element holds of one that was found
All-any : {X : Type 0} (P Q : X → Type 0) (xs : List X) → All P xs → (found : Any Q xs) → P found.1
All-any P Q xs h found = subst P found.3 (h found.0 found.1 found.2)

module _ {C R : Type 0} {eq : C → C → Bool} {same : R → R → Bool} (calls : IsEquivalence eq) (answers : IsEquivalence same) where
  -- the second list has no call of the first at another answer
  abbrev IsConsistent : List (C × R) → List (C × R) → Type 0
  IsConsistent prefix [] = Unit {0}
  IsConsistent prefix (p ∷ ps) = (IsTrue (held eq prefix p.0) → Has eq same prefix p) × IsConsistent prefix ps

  -- a path whose calls are asked in turn goes on with a call of the sequence, where what is asked is a call of the sequence
  goes_on_within : (asked : C → Type 0) (m : C → R) (s ps : List (C × R)) → ((c : C) → asked c → IsTrue (held eq s c)) → ((q : C × R) → Has eq same s q → IsTrue (same (m q.0) q.1)) → IsAskedInTurn eq same asked m ps → LacksNextCall eq same s ps → ⊥
  goes_on_within asked m s [] h g a l = absurd l
  goes_on_within asked m s (p ∷ ps) h g a (inl n) = let z : false ≡ true = sym (ap (λ (o : Option R). is_some o) n) ∙ h p.0 a.0 in cc
  goes_on_within asked m s (p ∷ ps) h g a (inr l) = goes_on_within asked m s ps h g (a.1 (g p l.0)) l.1

  -- two paths that part do not both have their pairs in one list
  pub Parts-among : (s ps qs : List (C × R)) → Parts eq same ps qs → AllAmong eq same s ps → AllAmong eq same s qs → ⊥
  Parts-among s [] qs k a b = absurd k
  Parts-among s (p ∷ ps) [] k a b = absurd k
  Parts-among s (p ∷ ps) (q ∷ qs) k a b = Parts-among s ps qs (k.1 (Has-answer calls answers s p q k.0 a.0 b.0)) a.1 b.1

  module _ (m : C → R) (respects : Respects eq same m) where
    -- they do not both agree with the same answers
    pub Parts-agreeing : (ps qs : List (C × R)) → Parts eq same ps qs → Agrees same m ps → Agrees same m qs → ⊥
    Parts-agreeing [] qs k a b = absurd k
    Parts-agreeing (p ∷ ps) [] k a b = absurd k
    Parts-agreeing (p ∷ ps) (q ∷ qs) k a b =
        Parts-agreeing ps qs (k.1 (joined answers p.1 (m p.0) q.1 (turned answers (m p.0) p.1 a.0) (joined answers (m p.0) (m q.0) q.1 (respects p.0 q.0 k.0) b.0))) a.1 b.1

    -- a prefix that was asked along a path, and then what is asked once the prefix agrees
    asked_prefix : (asked asked' : C → Type 0) → ((c c' : C) → IsTrue (eq c c') → asked c → asked' c') → (prefix ps rest : List (C × R)) (last : C × R) → IsNext eq same prefix last.0 ps → IsAskedInTurn eq same asked m ps → (Agrees same m (prefix ++ last ∷ []) → IsAskedInTurn eq same asked' m rest) → IsAskedInTurn eq same asked' m ((prefix ++ last ∷ []) ++ rest)
    asked_prefix asked asked' moves [] [] rest last k a go = absurd k
    asked_prefix asked asked' moves (x ∷ prefix) [] rest last k a go = absurd k
    asked_prefix asked asked' moves [] (p ∷ ps) rest last k a go = (moves p.0 last.0 (turned calls last.0 p.0 k) a.0, λ h. go (h, tt))
    asked_prefix asked asked' moves (x ∷ prefix) (p ∷ ps) rest last k a go = (
      moves p.0 x.0 (turned calls x.0 p.0 k.0) a.0,
      λ h. asked_prefix asked asked' moves prefix ps rest last k.2 (a.1 (joined answers (m p.0) (m x.0) p.1 (respects p.0 x.0 (turned calls x.0 p.0 k.0)) (joined answers (m x.0) x.1 p.1 h k.1))) (λ g. go (h, g)),
    )

    -- the pairs of a list outside a prefix, with which it has no call at two answers, are asked in turn once the prefix agrees
    asked_rest : (asked : C → Type 0) (prefix left : List (C × R)) → IsConsistent prefix left → Agrees same m prefix → IsAskedInTurn eq same asked m left → IsAskedInTurn eq same asked m (outside eq prefix left)
    asked_rest asked prefix [] l g a = tt
    asked_rest asked prefix (p ∷ left) l g a =
        elim (cases_Bool (held eq prefix p.0)) [
          | inl e ↦ rw e (asked_rest asked prefix left l.1 g (a.1 (Agrees-has calls answers m respects prefix p g (l.0 e))))
          | inr e ↦ rw e (a.0, λ h. asked_rest asked prefix left l.1 g (a.1 h))
        ]

  IsConsistent-among : (s prefix left : List (C × R)) → AllAmong eq same s prefix → AllAmong eq same s left → IsConsistent prefix left
  IsConsistent-among s prefix [] f l = tt
  IsConsistent-among s prefix (p ∷ left) f l = (λ e. Has-part calls answers s prefix p f e l.0, IsConsistent-among s prefix left f l.1)

  AllAmong-part : (s part qs : List (C × R)) → AllAmong eq same s part → ((q : C × R) → Has eq same s q → IsTrue (held eq part q.0)) → AllAmong eq same s qs → AllAmong eq same part qs
  AllAmong-part s part [] a h k = tt
  AllAmong-part s part (q ∷ qs) a h k = (Has-part calls answers s part q a (h q k.0) k.0, AllAmong-part s part qs a h k.1)

  module _ {K : Type 0} {eqk : K → K → Bool} (keys : IsEquivalence eqk) (asks : K → (C → R) → C → Type 0) (law : AsksRespect eqk eq asks) where
    moves : (k k' : K) (m : C → R) → IsTrue (eqk k k') → (c c' : C) → IsTrue (eq c c') → asks k m c → asks k' m c'
    moves k k' m e c c' f a = law k k' m c c' e f a

    -- a run under an equal key is a run
    pub IsRun-moved : (k k' : K) (ps : List (C × R)) → IsTrue (eqk k k') → IsRun eq same (asks k) ps → IsRun eq same (asks k') ps
    IsRun-moved k k' ps e run = record {
      causal = λ m respects. in_turn m ps (run.causal m respects);
      complete = λ m respects agrees c.
          let own = run.complete m respects agrees c in
          (λ a. own.0 (law k' k m c c (turned keys k k' e) (calls.refl c) a), λ h. law k k' m c c e (calls.refl c) (own.1 h));
    }
      where
        in_turn : (m : C → R) (qs : List (C × R)) → IsAskedInTurn eq same (asks k m) m qs → IsAskedInTurn eq same (asks k' m) m qs
        in_turn m [] a = tt
        in_turn m (q ∷ qs) a = (law k k' m q.0 q.0 e (calls.refl q.0) a.0, λ h. in_turn m qs (a.1 h))

    -- a path of the same function never goes on with a call that the sequence lacks
    goes_on : (key k : K) (s ps : List (C × R)) → IsTrue (eqk k key) → HasDistinctCalls eq s → IsRun eq same (asks key) s → IsRun eq same (asks k) ps → LacksNextCall eq same s ps → ⊥
    goes_on key k s [] e d run own l = absurd l
    goes_on key k s (p ∷ ps) e d run own l =
        let m = answers_of calls answers p.1 s in
        let respects = answers_of-respects calls answers p.1 s in
        let agrees = answers_of-agrees calls answers p.1 s s (AllAmong-itself calls answers s d) in
        goes_on_within (asks k m) m s (p ∷ ps) (λ c a. (run.complete m respects agrees c).0 (law k key m c c e (calls.refl c) a)) (λ q h. Agrees-has calls answers m respects s q agrees h) (own.causal m respects) l

    -- a path of the same function whose pairs are all among those of the sequence has all of them
    has_all : (key k : K) (s ps : List (C × R)) → IsTrue (eqk k key) → HasDistinctCalls eq s → IsRun eq same (asks key) s → IsRun eq same (asks k) ps → AllAmong eq same s ps → AllAmong eq same ps s
    has_all key k [] ps e d run own a = tt
    has_all key k (p ∷ s) ps e d run own a =
        let m = answers_of calls answers p.1 (p ∷ s) in
        let respects = answers_of-respects calls answers p.1 (p ∷ s) in
        let itself = AllAmong-itself calls answers (p ∷ s) d in
        let agrees = answers_of-agrees calls answers p.1 (p ∷ s) (p ∷ s) itself in
        let agrees' = answers_of-agrees calls answers p.1 (p ∷ s) ps a in
        AllAmong-part (p ∷ s) ps (p ∷ s) a (λ q h. (own.complete m respects agrees' q.0).0 (law key k m q.0 q.0 (turned keys k key e) (calls.refl q.0) ((run.complete m respects agrees q.0).1 (held-from_has calls answers (p ∷ s) q h)))) itself

    -- where each call of a list in another order is still asked in turn, it is a run
    IsRun-reordered : (key : K) (s n : List (C × R)) → IsRun eq same (asks key) s → HasSamePairs eq same n s → IsCausal eq same (asks key) n → IsRun eq same (asks key) n
    IsRun-reordered key s n run same_pairs causal = record {
      causal = causal;
      complete = λ m respects agrees c.
          let own = run.complete m respects (Agrees-among calls answers m respects n s agrees same_pairs.0) c in
          (λ a. held-through calls answers n s c same_pairs.0 (own.0 a), λ h. own.1 (held-through calls answers s n c same_pairs.1 h));
    }

    module _ {T : Type 0} (es : List (Stored K C R T)) (settled : IsSettled eq same asks es) (key : K) (s : List (C × R)) (distinct : HasDistinctCalls eq s) (run : IsRun eq same (asks key) s) where
      -- an entry under the key is a run
      own_run : (Q : Stored K C R T → Type 0) (found : Any (λ e. IsTrue (eqk e.key key) × Q e) es) → IsRun eq same (asks found.1.key) found.1.path
      own_run Q found = All-any (λ e. IsRun eq same (asks e.key) e.path) _ es settled found

      -- no insertion misses a call
      pub never_misses : Misses eq same (under eqk es key) s → ⊥
      never_misses misses =
          let miss = Any-from_under eqk es key (λ e. LacksNextCall eq same s e.path) misses in
          goes_on key miss.1.key s miss.1.path miss.4.0 distinct run (own_run (λ e. LacksNextCall eq same s e.path) miss) miss.4.1

      -- a path whose pairs are all among those of the sequence has its very pairs
      pub HasSet-from_exists : Exists eq same (under eqk es key) s → HasSet eq same (under eqk es key) s
      HasSet-from_exists exists =
          let some = Any-from_under eqk es key (λ e. AllAmong eq same s e.path) exists in
          Any-under eqk es key (λ e. HasSamePairs eq same e.path s) (some.0, some.1, some.2, some.3, (some.4.0, (has_all key some.1.key s some.1.path some.4.0 distinct run (own_run (λ e. AllAmong eq same s e.path) some) some.4.1, some.4.1)))

      Exists-from_has_set : HasSet eq same (under eqk es key) s → Exists eq same (under eqk es key) s
      Exists-from_has_set some = (some.0, some.1, some.2, some.3, some.4.1)

      new_run : (prefix : List (C × R)) → IsStem eq same (under eqk es key) s prefix → HasSamePairs eq same (prefix ++ outside eq prefix s) s × IsRun eq same (asks key) (prefix ++ outside eq prefix s)
      new_run prefix (inl h) =
          let P : List (C × R) → Type 0 = λ f. HasSamePairs eq same (f ++ outside eq f s) s × IsRun eq same (asks key) (f ++ outside eq f s) in
          let Q : List (C × R) → Type 0 = λ n. HasSamePairs eq same n s × IsRun eq same (asks key) n in
          let itself = AllAmong-itself calls answers s distinct in
          subst P (sym h.1) (subst Q (sym (outside-nothing eq s)) ((itself, itself), run))
      new_run prefix (inr h) =
          let f = h.1 in
          let along = Any-from_under eqk es key (λ e. IsNext eq same f.prefix f.last.0 e.path) f.next in
          let own = own_run (λ e. IsNext eq same f.prefix f.last.0 e.path) along in
          let itself = AllAmong-itself calls answers s distinct in
          let same_pairs = HasSamePairs-outside calls answers prefix s distinct h.0 in
          let rest : (m : C → R) → Respects eq same m → Agrees same m prefix → IsAskedInTurn eq same (asks key m) m (outside eq prefix s) = λ m respects g. asked_rest m respects (asks key m) prefix s (IsConsistent-among s prefix s h.0 itself) g (run.causal m respects) in
          let P : (C → R) → List (C × R) → Type 0 = λ m xs. (Agrees same m xs → IsAskedInTurn eq same (asks key m) m (outside eq prefix s)) → IsAskedInTurn eq same (asks key m) m (xs ++ outside eq prefix s) in (
            same_pairs,
            IsRun-reordered key s (prefix ++ outside eq prefix s) run same_pairs
                (λ m respects. subst (P m) (sym f.splits) (asked_prefix m respects (asks along.1.key m) (asks key m) (moves along.1.key key m along.4.0) f.prefix along.1.path (outside eq prefix s) f.last along.4.1 (own.causal m respects)) (rest m respects)),
          )

      -- the path that an insertion stores has the very pairs of the sequence
      HasSamePairs-new : (path : List (C × R)) → IsNewPath eq same (under eqk es key) s path → HasSamePairs eq same path s
      HasSamePairs-new path new = subst (λ n. HasSamePairs eq same n s) (sym new.2) (new_run new.0 new.1).0

      -- and it is a run
      pub IsRun-new : (path : List (C × R)) → IsNewPath eq same (under eqk es key) s path → IsRun eq same (asks key) path
      IsRun-new path new = subst (λ n. IsRun eq same (asks key) n) (sym new.2) (new_run new.0 new.1).1

      -- so an insertion leaves all paths runs
      IsSettled-insert : (value : T) (es' : List (Stored K C R T)) → Adds eq same eqk es key s value es' → IsSettled eq same asks es'
      IsSettled-insert value es' adds =
          let P : Stored K C R T → Type 0 = λ e. IsRun eq same (asks e.key) e.path in
          All-permutation P (stored adds.own adds.path value ∷ es) es' adds.entries (All-cons P (stored adds.own adds.path value) es (IsRun-moved key adds.own adds.path (turned keys adds.own key adds.is_key) (IsRun-new adds.path adds.is_new)) settled)

      -- the set is there afterwards
      HasSet-added : (value : T) (es' : List (Stored K C R T)) → Adds eq same eqk es key s value es' → HasSet eq same (under eqk es' key) s
      HasSet-added value es' adds =
          let entry = stored adds.own adds.path value in
          let there = Contains-permutation (entry ∷ es) es' entry adds.entries (zero, omega arith, refl) in
          Any-under eqk es' key (λ e. HasSamePairs eq same e.path s) (there.0, entry, there.1, there.2, (adds.is_key, HasSamePairs-new adds.path adds.is_new))

      reason : (e : InsertError) → IsReason eq same (under eqk es key) s e → IsRunReason (HasSet eq same (under eqk es key) s) e
      reason AlreadyExists h = HasSet-from_exists h
      reason MissingCall h = never_misses h
      reason Memory h = tt

      -- what an insertion of a run answers and leaves, of what an insertion of any sequence does
      module _ {V : Type 0} where
        pub insert-reason : (r : Result V InsertError) → IfErr r (IsReason eq same (under eqk es key) s) → IfErr r (IsRunReason (HasSet eq same (under eqk es key) s))
        insert-reason (Ok v) h = tt
        insert-reason (Err e) h = reason e h

        module _ (value : T) (es' : List (Stored K C R T)) where
          pub insert-settled : (r : Result V InsertError) → OnOk r (Adds eq same eqk es key s value es') → OnErr r (es' ≡ es) → IsSettled eq same asks es'
          insert-settled (Ok v) h k = IsSettled-insert value es' h
          insert-settled (Err e) h k = subst (λ (xs : List (Stored K C R T)). IsSettled eq same asks xs) (sym k) settled

          pub insert-there : (r : Result V InsertError) → OnOk r (Adds eq same eqk es key s value es') → OnOk r (HasSet eq same (under eqk es' key) s)
          insert-there (Ok v) h = HasSet-added value es' h
          insert-there (Err e) h = tt

          pub insert-set : (r : Result V InsertError) → OnOk r ((¬ Exists eq same (under eqk es key) s) × (¬ Misses eq same (under eqk es key) s)) → OnOk r (Adds eq same eqk es key s value es') → OnOk r (AddsSet eq same eqk key s value es es')
          insert-set (Ok v) new h = record {
            lacked = λ has. new.0 (Exists-from_has_set has);
            own = h.own;
            is_key = h.is_key;
            path = h.path;
            pairs = HasSamePairs-new h.path h.is_new;
            added = h.entries;
          }
          insert-set (Err e) new h = tt

  module _ {K T : Type 0} {eqk : K → K → Bool} (keys : IsEquivalence eqk) (es : List (Stored K C R T)) (tree : IsTree eq same eqk es) where
    -- each set of pairs is kept once
    pub HasEachSetOnce-from_tree : HasEachSetOnce eq same eqk es
    HasEachSetOnce-from_tree i j d l k n e h =
        Parts-among (get_or es j d).path (get_or es i d).path (get_or es j d).path (tree.parted i j d l k n e) h.1 (AllAmong-itself calls answers (get_or es j d).path (tree.distinct j d k))

    module _ (m : C → R) (respects : Respects eq same m) (key : K) (ps : List (C × R)) (agrees : Agrees same m ps) (stored_set : HasSet eq same (under eqk es key) ps) where
      has : Any (λ e. IsTrue (eqk e.key key) × HasSamePairs eq same e.path ps) es
      has = Any-from_under eqk es key (λ e. HasSamePairs eq same e.path ps) stored_set

      agrees_own : Agrees same m has.1.path
      agrees_own = Agrees-among calls answers m respects ps has.1.path agrees has.4.1.1

      -- a look-up whose answers agree with a stored set finds it
      FindsSet-from_agreeing : (r : Option T) → FindsAgreeing eq same (under eqk es key) m r → FindsSet eq same (under eqk es key) ps r
      FindsSet-from_agreeing None none =
          let at = has.3 in
          absurd (All-from_under eqk es key (λ e. ¬ Agrees same m e.path) none has.0 has.1 has.2 (ap (λ (x : Stored K C R T). eqk x.key key) at ∙ has.4.0) (subst (λ (x : Stored K C R T). Agrees same m x.path) (sym at) agrees_own))
      FindsSet-from_agreeing (Some v) there =
          let found = Any-from_under eqk es key (λ e. Agrees same m e.path × (e.value ≡ v)) there in
          elim (cases_eq found.0 has.0) [
            | inl e ↦
                let is : has.1 ≡ found.1 = sym has.3 ∙ ap (λ k. get_or es k has.1) (sym e) ∙ get_or_same es found.0 has.1 found.1 found.2 ∙ found.3 in
                Any-under eqk es key (λ e. HasSamePairs eq same e.path ps × (e.value ≡ v)) (found.0, found.1, found.2, found.3, (found.4.0, (subst (λ (x : Stored K C R T). HasSamePairs eq same x.path ps) is has.4.1, found.4.1.1)))
            | inr n ↦
                let d = found.1 in
                let own : get_or es has.0 d ≡ has.1 = get_or_same es has.0 d has.1 has.2 ∙ has.3 in
                let one_key : IsTrue (eqk (get_or es found.0 d).key (get_or es has.0 d).key) = ap (λ (x : Stored K C R T). eqk x.key (get_or es has.0 d).key) found.3 ∙ (joined keys d.key key (get_or es has.0 d).key found.4.0 (turned keys (get_or es has.0 d).key key (ap (λ (x : Stored K C R T). eqk x.key key) own ∙ has.4.0))) in
                absurd (Parts-agreeing m respects (get_or es found.0 d).path (get_or es has.0 d).path (tree.parted found.0 has.0 d found.2 has.2 n one_key) (subst (λ (x : Stored K C R T). Agrees same m x.path) (sym found.3) found.4.1.0) (subst (λ (x : Stored K C R T). Agrees same m x.path) (sym own) agrees_own))
          ]

      pub get-found : {B : Type 0} (value : B → Option T) (r : Result B AllocError) → IfOk r (λ b. FindsAgreeing eq same (under eqk es key) m (value b)) → IfOk r (λ b. FindsSet eq same (under eqk es key) ps (value b))
      get-found value (Ok b) h = FindsSet-from_agreeing (value b) h
      get-found value (Err e) h = tt
