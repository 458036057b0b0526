-- Laws of what scripts read.
use Rattle.std.proofs.Common.{◌≡◌, ◌⊎◌, ℕ, List, [], ◌∷◌, ℤ, ◌+ℤ◌, Ok, Err, sym, subst, inl, inr}
use Rattle.calc_core.specs.declared.scripts.outcome.CalcFault.{CalcFault}
use Rattle.calc_core.specs.Meaning.{Value, Fits, Means, means, PartMeans, is_number, is_bad, is_eval, Takes, ends, adds, overflows, fails}
use Rattle.calc_core.specs.Asked.{Asks, asks, AsksIn, asks_here, asks_later, PartAsks, asks_itself, asks_inside}
use Rattle.calc_core.specs.Totals.{IsAdded}
use Rattle.calc_core.proofs.Meanings.{part_means_map, one_part_meaning, ok_is, ok_is_no_err}

-- no part is left that could ask
pub asks_none : {At : List ℕ → List ℕ → Type 0} {sum : ℤ} {path : List ℕ} → AsksIn At [] sum path → ⊥
asks_none never = elim never [ ]

module _ (At : List ℕ → List ℕ → Type 0) where
  -- a part was taken: what the parts after it ask for, all do
  pub asks_on : {p path : List ℕ} {ps : List (List ℕ)} {v : Value} {g : ℕ} {old new : ℤ} → PartMeans At p v g → IsAdded old v new (Ok tt) → AsksIn At ps new path → AsksIn At (p ∷ ps) old path
  asks_on {path = path} {ps = ps} {v = Ok n} m (fits, sum) a = asks_later m fits (subst (λ s. AsksIn At ps s path) sum a)
  asks_on {v = Err fault} m never a = absurd never

-- more knowledge keeps what is asked for
module _ (At Bt : List ℕ → List ℕ → Type 0) (more : (path text : List ℕ) → At path text → Bt path text) where
  mutual
    pub asks_map : {script path : List ℕ} → Asks At script path → Asks Bt script path
    asks_map (asks a) = asks (asks_in_map a)

    pub asks_in_map : {ps : List (List ℕ)} {sum : ℤ} {path : List ℕ} → AsksIn At ps sum path → AsksIn Bt ps sum path
    asks_in_map (asks_here a) = asks_here (part_asks_map a)
    asks_in_map (asks_later m fits a) = asks_later (part_means_map At Bt more m) fits (asks_in_map a)

    pub part_asks_map : {part path : List ℕ} → PartAsks At part path → PartAsks Bt part path
    part_asks_map (asks_itself is) = asks_itself is
    part_asks_map (asks_inside {called = called} {text = text} is at a) = asks_inside is (more called text at) (asks_map a)

-- where one text stands at each path
module _ (At : List ℕ → List ℕ → Type 0) (one : (path text other : List ℕ) → At path text → At path other → text ≡ other) where
  -- a part was taken: what is asked for, that part asks for, or those left do
  pub asked_of_rest : {p path : List ℕ} {ps : List (List ℕ)} (v : Value) {g : ℕ} (old new : ℤ) → PartMeans At p v g → IsAdded old v new (Ok tt) → AsksIn At (p ∷ ps) old path → PartAsks At p path ⊎ AsksIn At ps new path
  asked_of_rest (Ok k) old new m added (asks_here a) = inl a
  asked_of_rest {path = path} {ps = ps} (Ok k) old new m added (asks_later {n = n} m' fits' a) =
      inr (subst (λ s. AsksIn At ps s path) (sym added.1) (subst (λ n. AsksIn At ps (old +ℤ n) path) (sym (ok_is (one_part_meaning At one m m').0)) a))
  asked_of_rest (Err fault) old new m never a = absurd never

  -- a part was refused: that part alone can ask
  pub asked_of_last : {p path : List ℕ} {ps : List (List ℕ)} (v : Value) {g : ℕ} (old new : ℤ) (fault : CalcFault) → PartMeans At p v g → IsAdded old v new (Err fault) → AsksIn At (p ∷ ps) old path → PartAsks At p path
  asked_of_last (Ok k) old new fault m added (asks_here a) = a
  asked_of_last (Ok k) old new fault m added (asks_later m' fits' a) = absurd (added.0 (subst (λ n. Fits (old +ℤ n)) (sym (ok_is (one_part_meaning At one m m').0)) fits'))
  asked_of_last (Err fault') old new fault m added (asks_here a) = a
  asked_of_last (Err fault') old new fault m added (asks_later m' fits' a) = absurd (ok_is_no_err (sym (one_part_meaning At one m m').0))

-- a script means the same where the texts at all paths that it asks for stand there still
module _ (At Bt : List ℕ → List ℕ → Type 0) where
  abbrev Stay : (List ℕ → Type 0) → Type 0
  Stay asked = (path text : List ℕ) → asked path → At path text → Bt path text

  mutual
    pub means_still : {script : List ℕ} {v : Value} {h : ℕ} → Means At script v h → Stay (Asks At script) → Means Bt script v h
    means_still (means t) stay = means (takes_still t (λ path text a. stay path text (asks a)))

    pub part_means_still : {part : List ℕ} {v : Value} {h : ℕ} → PartMeans At part v h → Stay (PartAsks At part) → PartMeans Bt part v h
    part_means_still (is_number n) stay = is_number n
    part_means_still (is_bad b) stay = is_bad b
    part_means_still (is_eval {part = part} {path = path} {text = text} e at m) stay =
        is_eval e (stay path text (asks_itself e) at) (means_still m (λ q t a. stay q t (asks_inside e at a)))

    pub takes_still : {ps : List (List ℕ)} {sum : ℤ} {h : ℕ} {v : Value} {e : ℕ} → Takes At ps sum h v e → Stay (AsksIn At ps sum) → Takes Bt ps sum h v e
    takes_still ends stay = ends
    takes_still (adds p fits t) stay = adds (part_means_still p (λ q x a. stay q x (asks_here a))) fits (takes_still t (λ q x a. stay q x (asks_later p fits a)))
    takes_still (overflows p over) stay = overflows (part_means_still p (λ q x a. stay q x (asks_here a))) over
    takes_still (fails p) stay = fails (part_means_still p (λ q x a. stay q x (asks_here a)))
