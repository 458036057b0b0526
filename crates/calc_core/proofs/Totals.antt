-- How the parts of a script are added one by one, and their total.
use Rattle.std.proofs.Common.{◌≡◌, ℕ, suc, ◌+◌, ◌-◌, ◌<◌, arith, add-one, max, List, [], ◌∷◌, ℤ, pos, Ok, Err, w32, FitsSigned, to_z, of_z, sym, subst, ◌∙◌}
use Rattle.std.proofs.lemmas.Int.{to_z-of_z}
use Rattle.calc_core.specs.Parts.{parts, IsEval, IsNumber}
use Rattle.calc_core.specs.declared.scripts.outcome.CalcFault.{CalcFault}
use Rattle.calc_core.specs.Meaning.{Value, Means, means, PartMeans, is_number, Takes, ends, adds, overflows, fails, Deep, below, DeepIn, here, later}
use Rattle.calc_core.specs.Asked.{AsksIn}
use Rattle.calc_core.specs.Taken.{Taken}
use Rattle.calc_core.specs.Totals.{IsAdded, value_at}
use Rattle.calc_core.proofs.ScriptAsking.{asks_on}

module _ (At : List ℕ → List ℕ → Type 0) where
  -- a part that is a number, as an `i32` holds it
  pub number_means : {part : List ℕ} {n : ℤ} → IsNumber part n → PartMeans At part (Ok (to_z w32 (of_z w32 n))) 0
  number_means {part = part} {n = n} is =
      let same : to_z w32 (of_z w32 n) ≡ n = to_z-of_z w32 n (subst (FitsSigned w32) (sym is.2) is.1.1) in
      subst (λ n. PartMeans At part (Ok n) 0) (sym same) (is_number is)

  -- a part was taken: what the parts after it give, it gives with them
  pub takes_on : {p : List ℕ} {ps : List (List ℕ)} {v w : Value} {g e : ℕ} (old new : Taken) → PartMeans At p v g → IsAdded old.sum v new.sum (Ok tt) → new.height ≡ max old.height g
      → Takes At ps new.sum new.height w e → Takes At (p ∷ ps) old.sum old.height w e
  takes_on {p = p} {ps = ps} {v = Ok n} {w = w} {g = g} {e = e} old new m (fits, sum) height t =
      adds m fits (subst (λ s. Takes At ps s (max old.height g) w e) sum (subst (λ h. Takes At ps new.sum h w e) height t))
  takes_on {v = Err fault} old new m never height t = absurd never

  -- a part was refused: nothing after it is taken
  pub takes_end : {p : List ℕ} (ps : List (List ℕ)) {v : Value} {g : ℕ} {fault : CalcFault} (old new : Taken) → PartMeans At p v g → IsAdded old.sum v new.sum (Err fault) → new.height ≡ max old.height g
      → Takes At (p ∷ ps) old.sum old.height (Err fault) new.height
  takes_end {p = p} ps {v = Ok n} {g = g} {fault = fault} old new m (over, is, same) height =
      subst (λ h. Takes At (p ∷ ps) old.sum old.height (Err fault) h) (sym height) (subst (λ f. Takes At (p ∷ ps) old.sum old.height (Err f) (max old.height g)) (sym is) (overflows m over))
  takes_end {p = p} ps {v = Err fault'} {g = g} {fault = fault} old new m (is, same) height =
      subst (λ h. Takes At (p ∷ ps) old.sum old.height (Err fault) h) (sym height) (subst (λ f. Takes At (p ∷ ps) old.sum old.height (Err f) (max old.height g)) (sym is) (fails m))

  -- a part was taken: where the parts after it go deeper than the limit, so do all
  pub deep_on : {p : List ℕ} {ps : List (List ℕ)} {v : Value} {g limit : ℕ} (old new : Taken) → PartMeans At p v g → IsAdded old.sum v new.sum (Ok tt)
      → DeepIn At ps new.sum limit → DeepIn At (p ∷ ps) old.sum limit
  deep_on {ps = ps} {v = Ok n} {limit = limit} old new m (fits, sum) d = later m fits (subst (λ s. DeepIn At ps s limit) sum d)
  deep_on {v = Err fault} old new m never d = absurd never

  -- in a script, these parts are left after this was taken: what they give, the script gives, and what they ask for, it does
  pub record Leaves (script : List ℕ) (ps : List (List ℕ)) (taken : Taken) : Type 0 where
    pub gives : {v : Value} {e : ℕ} → Takes At ps taken.sum taken.height v e → Takes At (parts script) (pos 0) 0 v e
    pub goes_deep : {limit : ℕ} → DeepIn At ps taken.sum limit → DeepIn At (parts script) (pos 0) limit
    pub reaches : {path : List ℕ} → AsksIn At ps taken.sum path → AsksIn At (parts script) (pos 0) path

  -- before the first part
  pub leaves_all : {script : List ℕ} {ps : List (List ℕ)} {taken : Taken} → ps ≡ parts script → taken ≡ record { sum = pos 0; height = 0 } → Leaves script ps taken
  leaves_all {script = script} {ps = ps} all none =
      subst (Leaves script ps) (sym none) (subst (λ qs. Leaves script qs (record { sum = pos 0; height = 0 })) (sym all) (record { gives = λ t. t; goes_deep = λ d. d; reaches = λ a. a }))

  -- after one more part
  pub leaves_rest : {script p : List ℕ} {qs ps : List (List ℕ)} {v : Value} {g : ℕ} {old new : Taken} → Leaves script qs old → qs ≡ p ∷ ps
      → PartMeans At p v g → IsAdded old.sum v new.sum (Ok tt) → new.height ≡ max old.height g → Leaves script ps new
  leaves_rest {script = script} {old = old} {new = new} leaves cut m sum height =
      let l = subst (λ qs. Leaves script qs old) cut leaves in
      record { gives = λ t. l.gives (takes_on old new m sum height t); goes_deep = λ d. l.goes_deep (deep_on old new m sum d); reaches = λ a. l.reaches (asks_on At m sum a) }

  -- the script, where no part is left
  pub means_at_end : {script : List ℕ} {qs : List (List ℕ)} {taken : Taken} {v : Value} {h : ℕ} → Leaves script qs taken → qs ≡ []
      → v ≡ value_at taken.sum (Ok tt) → h ≡ taken.height + 1 → Means At script v h
  means_at_end {script = script} {taken = taken} {h = h} leaves cut value height =
      let l = subst (λ qs. Leaves script qs taken) cut leaves in
      subst (λ v. Means At script v h) (sym value) (subst (Means At script (Ok taken.sum)) (sym (height ∙ add-one _)) (means (l.gives ends)))

  -- the script, where a part was refused
  pub means_at_fault : {script p : List ℕ} {qs ps : List (List ℕ)} {old : Taken} (new : Taken) {v w : Value} {g h : ℕ} {fault : CalcFault} → Leaves script qs old → qs ≡ p ∷ ps
      → PartMeans At p v g → IsAdded old.sum v new.sum (Err fault) → new.height ≡ max old.height g → w ≡ value_at new.sum (Err fault) → h ≡ new.height + 1 → Means At script w h
  means_at_fault {script = script} {ps = ps} {old = old} new {h = h} {fault = fault} leaves cut m sum top value height =
      let l = subst (λ qs. Leaves script qs old) cut leaves in
      subst (λ w. Means At script w h) (sym value) (subst (Means At script (Err fault)) (sym (height ∙ add-one _)) (means (l.gives (takes_end ps old new m sum top))))

  -- the script, where a part calls a script that goes deeper than what is left of the limit
  pub deep_at_part : {script p path text : List ℕ} {qs ps : List (List ℕ)} {taken : Taken} (limit : ℕ) → 0 < limit → Leaves script qs taken → qs ≡ p ∷ ps
      → IsEval p path → At path text → Deep At text (limit - 1) → Deep At script limit
  deep_at_part {script = script} {taken = taken} limit room leaves cut e at d =
      let l = subst (λ qs. Leaves script qs taken) cut leaves in
      let all : suc (limit - 1) ≡ limit = omega arith in
      subst (Deep At script) all (below (l.goes_deep (here e at d)))
