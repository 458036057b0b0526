-- At most one entry agrees with given answers, so a hit touches the entry that a run was stored in.
use Rattle.std.proofs.Common.{◌≡◌, ◌+◌, ◌≤◌, ℕ, Bool, true, false, cond, List, [], ◌∷◌, IsTrue, get_or, map, refl, sym, subst, inl, inr, arith, ◌≢◌, ◌⊎◌, suc, length, ◌<◌}
use Rattle.std.proofs.lemmas.Bool.{cases_Bool}
use Rattle.std.proofs.lemmas.List.Sums.{sum_by-cons}
use Rattle.std.proofs.lemmas.List.Elements.{All-head, All-tail}
use Rattle.std.proofs.lemmas.List.Sorted.{IsPermutation-sym, sum_by-IsPermutation}
use Rattle.std.specs.Prelude.{nat_lt}
use Rattle.std.specs.List.{All, Any, filter, sum_by}
use Rattle.comemo_base.specs.Answers.{Respects, Agrees}
use Rattle.comemo_base.specs.Tree.{Stored, stored, Parts, IsTree}
use Rattle.comemo_base.specs.Lookup.{under}
use Rattle.comemo_base.proofs.Runs.{Parts-agreeing}
use Rattle.comemo_base.proofs.Paths.{joined, turned}
use Rattle.comemo_base.proofs.Under.{Any-here, Any-split, Any-weaker}
use Rattle.comemo_cache.specs.Meaning.{Meaning, Invocation, Run}
use Rattle.comemo_cache.specs.Cache.{Kept, Entries, young, older, aged}
use Rattle.comemo_cache.specs.Storing.{Stores}
use Rattle.comemo.proofs.Again.{agrees_stored_path, others_part}
use Rattle.comemo.specs.Finish.{Ends}
use Rattle.comemo.specs.declared.pending.How.{How}
use Rattle.comemo.specs.declared.pending.How.TheVariants as how
use Rattle.comemo_theorems.specs.History.{Step, found, touched, missed, ended, evicted, Does, History, Answers, Honest, Outlives}
use Rattle.comemo_theorems.specs.Statements.{HitsUntilOld}
use Rattle.comemo_theorems.proofs.Lawful.{IsLawful}
use Rattle.comemo_theorems.proofs.Plain.{any_permutation, agrees_back}
use Rattle.comemo_theorems.proofs.Steps.{Own, Aged, aged_same, aged_young, aged_ended, aged_touched, aged_evicted}
use Rattle.comemo_theorems.proofs.Again.{OfEntry, not_none}

module _ {X : Type 0} (t : X → Bool) where
  one : X → ℕ
  one x = cond (t x) 1 0

  one_yes : (x : X) → t x ≡ true → one x ≡ 1
  unfolding one
  one_yes x e = rw e refl

  one_no : (x : X) → t x ≡ false → one x ≡ 0
  unfolding one
  one_no x e = rw e refl

  none_sum : (xs : List X) → All (λ x. t x ≡ true → ⊥) xs → sum_by one xs ≡ 0
  none_sum [] h = refl
  none_sum (x ∷ xs) h =
      let rest = none_sum xs (All-tail (λ x. t x ≡ true → ⊥) x xs h) in
      elim (cases_Bool (t x)) [
        | inl a ↦ absurd (All-head (λ x. t x ≡ true → ⊥) x xs h a)
        | inr a ↦ omega (arith, sum_by-cons one x xs, one_no x a, rest)
      ]

  some_sum : (xs : List X) → Any (λ x. t x ≡ true) xs → 1 ≤ sum_by one xs
  some_sum [] h = let l = h.2 in absurd (omega (arith, l))
  some_sum (x ∷ xs) h = elim (Any-split (λ x. t x ≡ true) x xs h) [
    | inl here ↦ omega (arith, sum_by-cons one x xs, one_yes x here)
    | inr later ↦ omega (arith, sum_by-cons one x xs, some_sum xs later)
  ]

  filter_sum : (p : X → Bool) (xs : List X) → sum_by one (filter p xs) ≤ sum_by one xs
  filter_sum p [] = omega arith
  filter_sum p (x ∷ xs) =
      let rest = filter_sum p xs in
      elim (cases_Bool (p x)) [
        | inl a ↦ rw a (omega (arith, sum_by-cons one x xs, sum_by-cons one x (filter p xs), rest))
        | inr a ↦ rw a (omega (arith, sum_by-cons one x xs, rest))
      ]

  map_sum : (g : X → X) → ((x : X) → one (g x) ≡ one x) → (xs : List X) → sum_by one (map g xs) ≡ sum_by one xs
  map_sum g same [] = refl
  map_sum g same (x ∷ xs) = omega (arith, sum_by-cons one (g x) (map g xs), sum_by-cons one x xs, same x, map_sum g same xs)

module _ {K C R O : Type 0} (M : Meaning K C R O) (laws : IsLawful M) where
  passes : (C → R) → List (C × R) → Bool
  passes m [] = true
  passes m (p ∷ ps) = cond (M.same_answer (m p.0) p.1) (passes m ps) false

  passes_of : (m : C → R) (ps : List (C × R)) → Agrees M.same_answer m ps → passes m ps ≡ true
  unfolding passes
  passes_of m [] a = refl
  passes_of m (p ∷ ps) a = let h : M.same_answer (m p.0) p.1 ≡ true = a.0 in rw h (passes_of m ps a.1)

  of_passes : (m : C → R) (ps : List (C × R)) → passes m ps ≡ true → Agrees M.same_answer m ps
  unfolding passes
  of_passes m [] e = tt
  of_passes m (p ∷ ps) e = elim (cases_Bool (M.same_answer (m p.0) p.1)) [
    | inl a ↦ (a, of_passes m ps (rw a at e))
    | inr a ↦ let f : false ≡ true = rw a at e in cc
  ]

  matches : K → (C → R) → Stored K C R (Kept O C) → Bool
  matches key m e = cond (M.same_key e.key key) (passes m e.path) false

  matches_of : (key : K) (m : C → R) (e : Stored K C R (Kept O C)) → IsTrue (M.same_key e.key key) → Agrees M.same_answer m e.path → matches key m e ≡ true
  unfolding matches
  matches_of key m e k a = let h : M.same_key e.key key ≡ true = k in rw h (passes_of m e.path a)

  of_matches : (key : K) (m : C → R) (e : Stored K C R (Kept O C)) → matches key m e ≡ true → IsTrue (M.same_key e.key key) × Agrees M.same_answer m e.path
  unfolding matches
  of_matches key m e is = elim (cases_Bool (M.same_key e.key key)) [
    | inl a ↦ (a, of_passes m e.path (rw a at is))
    | inr a ↦ let f : false ≡ true = rw a at is in cc
  ]

  abbrev Unique : Entries K C R O → Type 0
  Unique es = (key : K) (m : C → R) → Respects M.same_call M.same_answer m → sum_by (one (matches key m)) es ≤ 1

  unique_same : (es es' : Entries K C R O) → es' ≡ es → Unique es → Unique es'
  unique_same es es' is u = subst Unique (sym is) u

  unique_stored : (call : Invocation K C R) (ran : Run K C R O) (es es' : Entries K C R O) → Answers M call ran → Stores M es ran es' → Unique es → Unique es'
  unique_stored call ran es es' is stores u = λ key m respects.
      let x = stores.2 in
      let e : Stored K C R (Kept O C) = stored x.adds.own x.adds.path x.kept in
      let t = matches key m in
      let all = sum_by-IsPermutation (one t) (e ∷ es) es' x.adds.entries in
      elim (cases_Bool (t e)) [
        | inl a ↦
            let of = of_matches key m e a in
            let again = agrees_back laws.answers call.answers is.alike m respects (under M.same_key es ran.key) ran.pairs x.adds.path x.adds.is_new is.agrees of.1 in
            let part = others_part M laws.answers ran es es' m respects stores again in
            let key_of_run = joined laws.keys key x.adds.own ran.key (turned laws.keys x.adds.own key of.0) x.adds.is_key in
            let none = none_sum t es (λ k d l match. let o = of_matches key m (get_or es k d) match in part k d l (joined laws.keys (get_or es k d).key key ran.key o.0 key_of_run) o.1) in
            omega (arith, all, sum_by-cons (one t) e es, one_yes t e a, none)
        | inr a ↦ omega (arith, all, sum_by-cons (one t) e es, one_no t e a, u key m respects)
      ]

  unique_ended : (call : Invocation K C R) (ran : Run K C R O) (h : How) (es es' : Entries K C R O) → ((h ≡ how.Late → ⊥) → Answers M call ran) → Ends M es ran h es' → Unique es → Unique es'
  unique_ended call ran how.Hit es es' is ends u = absurd ends
  unique_ended call ran how.Stored es es' is ends u = unique_stored call ran es es' (is (λ e. cc)) ends u
  unique_ended call ran how.AlreadyExists es es' is ends u = unique_same es es' ends.1 u
  unique_ended call ran how.MissingCall es es' is ends u = unique_same es es' ends.2 u
  unique_ended call ran how.NotStored es es' is ends u = unique_same es es' ends u
  unique_ended call ran how.Disabled es es' is ends u = unique_same es es' ends u
  unique_ended call ran how.Late es es' is ends u = unique_same es es' ends u

  one_young : (key : K) (m : C → R) (e : Stored K C R (Kept O C)) → one (matches key m) (young e) ≡ one (matches key m) e
  unfolding one matches
  one_young key m e = refl

  one_older : (key : K) (m : C → R) (e : Stored K C R (Kept O C)) → one (matches key m) (older e) ≡ one (matches key m) e
  unfolding one matches
  one_older key m e = refl

  unique_step : (s : Step K C R O) (es es' : Entries K C R O) → Honest M s → Does M s es es' → Unique es → Unique es'
  unique_step (found call ran) es es' honest does u = unique_same es es' does.1 u
  unique_step (touched call) es es' honest (inl t) u = λ key m respects.
      let f = one (matches key m) in
      omega (arith, u key m respects, sum_by-IsPermutation f (t.entry ∷ t.others) es t.before, sum_by-IsPermutation f (young t.entry ∷ t.others) es' t.after, sum_by-cons f t.entry t.others, sum_by-cons f (young t.entry) t.others, one_young key m t.entry)
  unique_step (touched call) es es' honest (inr none) u = unique_same es es' none.1 u
  unique_step (missed call) es es' honest does u = unique_same es es' does.1 u
  unique_step (ended call ran h) es es' honest does u = unique_ended call ran h es es' honest does u
  unique_step (evicted bound) es es' honest does u = λ key m respects.
      let t = matches key m in
      let test : Stored K C R (Kept O C) → Bool = λ e. nat_lt e.value.age bound in
      omega (arith, u key m respects, sum_by-IsPermutation (one t) (aged bound es) es' does, map_sum t older (one_older key m) (filter test es), filter_sum t test es)

  unique_after : (h : List (Step K C R O)) (es es' : Entries K C R O) → All (Honest M) h → History M h es es' → Unique es → Unique es'
  unique_after [] es es' honest is u = unique_same es es' is u
  unique_after (s ∷ h) es es' honest (mid, does, rest) u = unique_after h mid es' (All-tail (Honest M) s h honest) rest (unique_step s es mid (All-head (Honest M) s h honest) does u)

  -- The entry that a run was stored in.
  module _ (ran : Run K C R O) where
    -- a key that the run's key equals, and a path that agrees with what the run's pairs agree with
    abbrev Mine : K → List (C × R) → Type 0
    Mine own path = IsTrue (M.same_key own ran.key) × ((m : C → R) → Respects M.same_call M.same_answer m → Agrees M.same_answer m ran.pairs → Agrees M.same_answer m path)

    mine_of : (call : Invocation K C R) (e : Stored K C R (Kept O C)) → Answers M call ran → Own M Mine e → OfEntry M laws call.key call.answers e
    mine_of call e is mine = (joined laws.keys e.key ran.key call.key mine.0 (turned laws.keys call.key ran.key is.has_key), mine.1 call.answers is.alike is.agrees)

    -- a touch for a call that the run answers is of its entry
    aged_reset : (age : ℕ) (call : Invocation K C R) (es es' : Entries K C R O) → Unique es → Answers M call ran → Does M (touched call) es es' → Any (Aged M Mine age) es → Any (Aged M Mine 0) es'
    aged_reset age call es es' u is (inl t) some =
        let P : Stored K C R (Kept O C) → Type 0 = Aged M Mine age in
        let test = matches call.key call.answers in
        let now = any_permutation P es (t.entry ∷ t.others) (IsPermutation-sym (t.entry ∷ t.others) es t.before) some in
        elim (Any-split P t.entry t.others now) [
          | inl here ↦ any_permutation (Aged M Mine 0) (young t.entry ∷ t.others) es' t.after (Any-here (Aged M Mine 0) (young t.entry) t.others (aged_young M Mine age 0 t.entry here))
          | inr later ↦
              let two = some_sum test t.others (Any-weaker P (λ e. test e ≡ true) (λ e a. let of = mine_of call e is a.0 in matches_of call.key call.answers e of.0 of.1) t.others later) in
              absurd (omega (arith, u call.key call.answers is.alike, sum_by-IsPermutation (one test) (t.entry ∷ t.others) es t.before, sum_by-cons (one test) t.entry t.others, one_yes test t.entry (matches_of call.key call.answers t.entry t.has_key t.agrees), two))
        ]
    aged_reset age call es es' u is (inr none) some = absurd (not_none M laws es call (Any-weaker (Aged M Mine age) (OfEntry M laws call.key call.answers) (λ e a. mine_of call e is a.0) es some) none.0)

    survives : (h : List (Step K C R O)) (es es' : Entries K C R O) (age : ℕ) → History M h es es' → All (Honest M) h → Outlives M (λ call. Answers M call ran) age h → Unique es → Any (Aged M Mine age) es → Any (Own M Mine) es'
    survives [] es es' age is honest lives u some = subst (λ xs. Any (Own M Mine) xs) (sym is) (Any-weaker (Aged M Mine age) (Own M Mine) (λ e a. a.0) es some)
    survives (found call other ∷ h) es es' age (mid, does, rest) honest lives u some = survives h mid es' age rest (All-tail (Honest M) (found call other) h honest) lives (unique_same es mid does.1 u) (aged_same M Mine age es mid does.1 some)
    survives (touched call ∷ h) es es' age (mid, does, rest) honest (inl lives) u some = survives h mid es' age rest (All-tail (Honest M) (touched call) h honest) lives (unique_step (touched call) es mid (All-head (Honest M) (touched call) h honest) does u) (aged_touched M Mine age call es mid does some)
    survives (touched call ∷ h) es es' age (mid, does, rest) honest (inr reset) u some = survives h mid es' 0 rest (All-tail (Honest M) (touched call) h honest) reset.1 (unique_step (touched call) es mid (All-head (Honest M) (touched call) h honest) does u) (aged_reset age call es mid u reset.0 does some)
    survives (missed call ∷ h) es es' age (mid, does, rest) honest lives u some = survives h mid es' age rest (All-tail (Honest M) (missed call) h honest) lives (unique_same es mid does.1 u) (aged_same M Mine age es mid does.1 some)
    survives (ended call other end ∷ h) es es' age (mid, does, rest) honest lives u some = survives h mid es' age rest (All-tail (Honest M) (ended call other end) h honest) lives (unique_ended call other end es mid (All-head (Honest M) (ended call other end) h honest) does u) (aged_ended M Mine age other end es mid does some)
    survives (evicted bound ∷ h) es es' age (mid, does, rest) honest lives u some = survives h mid es' (age + 1) rest (All-tail (Honest M) (evicted bound) h honest) lives.1 (unique_step (evicted bound) es mid tt does u) (aged_evicted M Mine age bound es mid lives.0 does some)

  unique_none : Unique []
  unique_none = λ key m respects. let none = none_sum (matches key m) [] (λ k d l. absurd (omega arith)) in omega (arith, none)

  -- In a tree at most one entry agrees, as two paths under one key part.
  abbrev Parted : Entries K C R O → Type 0
  Parted es = (i j : ℕ) (d : Stored K C R (Kept O C)) → i < length es → j < length es → i ≢ j → IsTrue (M.same_key (get_or es i d).key (get_or es j d).key) → Parts M.same_call M.same_answer (get_or es i d).path (get_or es j d).path

  unique_parted : (es : Entries K C R O) → Parted es → Unique es
  unique_parted [] parted = unique_none
  unique_parted (e ∷ es) parted = λ key m respects.
      let t = matches key m in
      let later : Parted es = λ i j d l k n same. parted (suc i) (suc j) d (omega (arith, l)) (omega (arith, k)) (λ s. n (omega (arith, s))) same in
      elim (cases_Bool (t e)) [
        | inl a ↦
            let of = of_matches key m e a in
            let none = none_sum t es (λ k d l match.
            let f : Stored K C R (Kept O C) = get_or es k d in
            let o = of_matches key m f match in
            let one_key = joined laws.keys e.key key f.key of.0 (turned laws.keys f.key key o.0) in
            Parts-agreeing laws.calls laws.answers m respects e.path f.path (parted 0 (suc k) d (omega arith) (omega (arith, l)) (λ s. omega (arith, s)) one_key) of.1 o.1) in
            omega (arith, sum_by-cons (one t) e es, one_yes t e a, none)
        | inr a ↦ omega (arith, sum_by-cons (one t) e es, one_no t e a, unique_parted es later key m respects)
      ]

  unique_before : (before : Entries K C R O) → IsTree M.same_call M.same_answer M.same_key before ⊎ ((past : List (Step K C R O)) × History M past [] before × All (Honest M) past) → Unique before
  unique_before before (inl tree) = unique_parted before tree.parted
  unique_before before (inr past) = unique_after past.0 [] before past.2 past.1 unique_none

  pub hits_until_old : HitsUntilOld M
  hits_until_old call later ran h before es after once stores is goes honest lives again =
      let x = stores.2 in
      let e : Stored K C R (Kept O C) = stored x.adds.own x.adds.path x.kept in
      let mine : Own M (Mine ran) e = (x.adds.is_key, λ m r a. agrees_stored_path laws.answers m r (under M.same_key before ran.key) ran.pairs x.adds.path x.adds.is_new a) in
      let some = any_permutation (Aged M (Mine ran) 0) (e ∷ before) es x.adds.entries (Any-here (Aged M (Mine ran) 0) e before (mine, omega (arith, x.is_new))) in
      let u = unique_stored call ran before es is stores (unique_before before once) in
      let last = survives ran h es after 0 goes honest lives u some in
      not_none M laws after later (Any-weaker (Own M (Mine ran)) (OfEntry M laws later.key later.answers) (λ e a. mine_of ran later e again a) after last)
