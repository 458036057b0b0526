-- Laws of what scripts mean, for every map from paths to texts.
use Rattle.std.proofs.Common.{arith, ◌≡◌, ℕ, zero, suc, ◌≤◌, ◌<◌, max, List, ◌∷◌, ℤ, ◌+ℤ◌, Ok, Err, refl, sym, ap, subst, ◌∙◌, inl, inr}
use Rattle.std.specs.Prelude.{codes}
use Rattle.std.proofs.lemmas.Bool.{cases_lt}
use Rattle.std.proofs.lemmas.List.{append_cancel_left}
use Rattle.calc_core.specs.Parts.{IsEval}
use Rattle.calc_core.specs.declared.scripts.outcome.CalcFault.{CalcFault}
use Rattle.calc_core.specs.Meaning.{Value, Fits, Means, means, PartMeans, is_number, is_bad, is_eval, Takes, ends, adds, overflows, fails, Deep, no_room, below, DeepIn, here, later, IsTooDeep}

-- more knowledge keeps every meaning
module _ (At Bt : List ℕ → List ℕ → Type 0) (more : (path text : List ℕ) → At path text → Bt path text) where
  mutual
    pub means_map : {script : List ℕ} {v : Value} {h : ℕ} → Means At script v h → Means Bt script v h
    means_map (means t) = means (takes_map t)

    pub part_means_map : {part : List ℕ} {v : Value} {h : ℕ} → PartMeans At part v h → PartMeans Bt part v h
    part_means_map (is_number n) = is_number n
    part_means_map (is_bad b) = is_bad b
    part_means_map (is_eval {part = part} {path = path} {text = text} e at m) = is_eval e (more path text at) (means_map m)

    pub takes_map : {ps : List (List ℕ)} {sum : ℤ} {h : ℕ} {v : Value} {e : ℕ} → Takes At ps sum h v e → Takes Bt ps sum h v e
    takes_map ends = ends
    takes_map (adds p fits t) = adds (part_means_map p) fits (takes_map t)
    takes_map (overflows p over) = overflows (part_means_map p) over
    takes_map (fails p) = fails (part_means_map p)

  mutual
    pub deep_map : {script : List ℕ} {limit : ℕ} → Deep At script limit → Deep Bt script limit
    deep_map no_room = no_room
    deep_map (below d) = below (deep_in_map d)

    pub deep_in_map : {ps : List (List ℕ)} {sum : ℤ} {limit : ℕ} → DeepIn At ps sum limit → DeepIn Bt ps sum limit
    deep_in_map (here {path = path} {text = text} e at d) = here e (more path text at) (deep_map d)
    deep_in_map (later p fits d) = later (part_means_map p) fits (deep_in_map d)

-- a part that calls a script which goes deeper than the limit
abbrev pub DeepPart : (List ℕ → List ℕ → Type 0) → List ℕ → ℕ → Type 0
DeepPart At part limit = (path text : List ℕ) × IsEval part path × At path text × Deep At text limit

module _ (At : List ℕ → List ℕ → Type 0) where
  deep_here : {part : List ℕ} {ps : List (List ℕ)} {sum : ℤ} {limit : ℕ} → DeepPart At part limit → DeepIn At (part ∷ ps) sum limit
  deep_here (path, text, e, at, d) = here e at d

  -- what is higher than the limit goes deeper than it
  mutual
    pub deep_of_height : {script : List ℕ} {v : Value} {h : ℕ} → Means At script v h → (limit : ℕ) → limit < h → Deep At script limit
    deep_of_height (means t) zero low = no_room
    deep_of_height (means t) (suc limit) low = below (deep_in_of_height t limit (omega arith) (omega arith))

    pub deep_part_of_height : {part : List ℕ} {v : Value} {h : ℕ} → PartMeans At part v h → (limit : ℕ) → limit < h → DeepPart At part limit
    deep_part_of_height (is_number n) limit low = absurd (let no : ⊥ = omega arith in no)
    deep_part_of_height (is_bad b) limit low = absurd (let no : ⊥ = omega arith in no)
    deep_part_of_height (is_eval {part = part} {path = path} {text = text} e at m) limit low = (path, text, e, at, deep_of_height m limit low)

    pub deep_in_of_height : {ps : List (List ℕ)} {sum : ℤ} {h : ℕ} {v : Value} {e : ℕ} → Takes At ps sum h v e → (limit : ℕ) → h ≤ limit → limit < e → DeepIn At ps sum limit
    deep_in_of_height ends limit room low = absurd (let no : ⊥ = omega arith in no)
    deep_in_of_height (adds {h = h} {g = g} p fits t) limit room low =
        elim (cases_lt limit g) [
          | inl over ↦ deep_here (deep_part_of_height p limit over)
          | inr under ↦ later p fits (deep_in_of_height t limit (omega arith) low)
        ]
    deep_in_of_height (overflows {h = h} {g = g} p over) limit room low = deep_here (deep_part_of_height p limit (omega arith))
    deep_in_of_height (fails {h = h} {g = g} p) limit room low = deep_here (deep_part_of_height p limit (omega arith))

-- a part names at most one path
pub same_path : {part p q : List ℕ} → IsEval part p → IsEval part q → p ≡ q
same_path {p = p} {q = q} e f = append_cancel_left (codes "eval ") p q (sym e ∙ f)

pub ok_is : {n m : ℤ} → (let v : Value = Ok n in v) ≡ Ok m → n ≡ m
ok_is e = cc

pub ok_is_no_err : {n : ℤ} {fault : CalcFault} → (let v : Value = Ok n in v) ≡ Err fault → ⊥
ok_is_no_err e = cc

-- where at most one text stands at each path, a script means at most one thing
module _ (At : List ℕ → List ℕ → Type 0) (one : (path text other : List ℕ) → At path text → At path other → text ≡ other) where
  mutual
    pub one_meaning : {script : List ℕ} {v w : Value} {h g : ℕ} → Means At script v h → Means At script w g → (v ≡ w) × (h ≡ g)
    one_meaning (means t) (means u) =
        let same = one_total t u in
        (same.0, ap (λ n. suc n) same.1)

    pub one_part_meaning : {part : List ℕ} {v w : Value} {h g : ℕ} → PartMeans At part v h → PartMeans At part w g → (v ≡ w) × (h ≡ g)
    one_part_meaning (is_number n) (is_number m) = (ap (λ n. Ok n) (n.2 ∙ sym m.2), refl)
    one_part_meaning (is_number n) (is_bad b) = absurd (b.1 n.1)
    one_part_meaning (is_number n) (is_eval {path = path} e at m) = absurd (n.0 path e)
    one_part_meaning (is_bad b) (is_number n) = absurd (b.1 n.1)
    one_part_meaning (is_bad b) (is_bad c) = (refl, refl)
    one_part_meaning (is_bad b) (is_eval {path = path} e at m) = absurd (b.0 path e)
    one_part_meaning (is_eval {path = path} e at m) (is_number n) = absurd (n.0 path e)
    one_part_meaning (is_eval {path = path} e at m) (is_bad b) = absurd (b.0 path e)
    one_part_meaning {w = w} {g = g} (is_eval {path = path} {text = text} e at m) (is_eval {path = path'} {text = text'} e' at' m') =
        let same : text' ≡ text = one path text' text (subst (λ p. At p text') (same_path e' e) at') at in
        one_meaning m (subst (λ t. Means At t w g) same m')

    pub one_total : {ps : List (List ℕ)} {sum : ℤ} {h : ℕ} {v w : Value} {e f : ℕ} → Takes At ps sum h v e → Takes At ps sum h w f → (v ≡ w) × (e ≡ f)
    one_total ends ends = (refl, refl)
    one_total {w = w} {f = f} (adds {ps = ps} {sum = sum} {n = n} {h = h} {g = g} p fits t) (adds {n = n'} {g = g'} p' fits' t') =
        let same = one_part_meaning p p' in
        one_total t (subst (λ s. Takes At ps s (max h g) w f) (ap (λ n. sum +ℤ n) (sym (ok_is same.0))) (subst (λ k. Takes At ps (sum +ℤ n') (max h k) w f) (sym same.1) t'))
    one_total (adds {sum = sum} p fits t) (overflows p' over) = absurd (over (subst (λ n. Fits (sum +ℤ n)) (ok_is (one_part_meaning p p').0) fits))
    one_total (adds p fits t) (fails p') = absurd (ok_is_no_err (one_part_meaning p p').0)
    one_total (overflows {sum = sum} p over) (adds p' fits' t') = absurd (over (subst (λ n. Fits (sum +ℤ n)) (sym (ok_is (one_part_meaning p p').0)) fits'))
    one_total (overflows {h = h} p over) (overflows p' over') = (refl, ap (max h) (one_part_meaning p p').1)
    one_total (overflows p over) (fails p') = absurd (ok_is_no_err (one_part_meaning p p').0)
    one_total (fails p) (adds p' fits' t') = absurd (ok_is_no_err (sym (one_part_meaning p p').0))
    one_total (fails p) (overflows p' over') = absurd (ok_is_no_err (sym (one_part_meaning p p').0))
    one_total (fails {h = h} p) (fails p') =
        let same = one_part_meaning p p' in
        (same.0, ap (max h) same.1)

  -- the greatest height never falls
  takes_more : {ps : List (List ℕ)} {sum : ℤ} {h : ℕ} {v : Value} {e : ℕ} → Takes At ps sum h v e → h ≤ e
  takes_more ends = omega arith
  takes_more (adds {h = h} {g = g} p fits t) = omega (arith, takes_more t)
  takes_more (overflows p over) = omega arith
  takes_more (fails p) = omega arith

  -- what is no higher than the limit does not go deeper than it
  mutual
    pub not_deep : {script : List ℕ} {v : Value} {h : ℕ} → Means At script v h → (limit : ℕ) → h ≤ limit → ¬ Deep At script limit
    not_deep (means t) zero low no_room = let never : ⊥ = omega arith in never
    not_deep (means t) (suc limit) low (below d) = not_deep_in t limit (omega arith) d

    pub not_deep_part : {part : List ℕ} {v : Value} {h : ℕ} → PartMeans At part v h → (limit : ℕ) → h ≤ limit → (path text : List ℕ) → IsEval part path → At path text → ¬ Deep At text limit
    not_deep_part (is_number n) limit low path text e at d = n.0 path e
    not_deep_part (is_bad b) limit low path text e at d = b.0 path e
    not_deep_part (is_eval {path = path'} {text = text'} e' at' m) limit low path text e at d =
        let same : text ≡ text' = one path' text text' (subst (λ p. At p text) (same_path e e') at) at' in
        not_deep m limit low (subst (λ t. Deep At t limit) same d)

    pub not_deep_in : {ps : List (List ℕ)} {sum : ℤ} {h : ℕ} {v : Value} {e : ℕ} → Takes At ps sum h v e → (limit : ℕ) → e ≤ limit → ¬ DeepIn At ps sum limit
    not_deep_in ends limit low never = elim never [ ]
    not_deep_in (adds {h = h} {g = g} p fits t) limit low (here {path = path} {text = text} is at d) = not_deep_part p limit (omega (arith, takes_more t)) path text is at d
    not_deep_in (adds {ps = ps} {sum = sum} p fits t) limit low (later p' fits' d) =
        not_deep_in t limit low (subst (λ n. DeepIn At ps (sum +ℤ n) limit) (sym (ok_is (one_part_meaning p p').0)) d)
    not_deep_in (overflows {h = h} {g = g} p over) limit low (here {path = path} {text = text} is at d) = not_deep_part p limit (omega arith) path text is at d
    not_deep_in (overflows {sum = sum} p over) limit low (later p' fits' d) = over (subst (λ n. Fits (sum +ℤ n)) (sym (ok_is (one_part_meaning p p').0)) fits')
    not_deep_in (fails {h = h} {g = g} p) limit low (here {path = path} {text = text} is at d) = not_deep_part p limit (omega arith) path text is at d
    not_deep_in (fails p) limit low (later p' fits' d) = ok_is_no_err (sym (one_part_meaning p p').0)

  -- what goes deeper than the limit is higher than it, or means nothing
  pub deep_is_too_deep : {script : List ℕ} {limit : ℕ} → Deep At script limit → IsTooDeep At script limit
  deep_is_too_deep {limit = limit} d v h m low = not_deep m limit low d
