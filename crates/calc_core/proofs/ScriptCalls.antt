-- How the calls of a script add up in a loop over its parts.
use Rattle.std.proofs.Common.{◌≡◌, ℕ, max, List, [], ◌∷◌, ℤ, pos, ◌+ℤ◌, Ok, Err, refl, sym, subst}
use Rattle.calc_core.specs.Parts.{parts}
use Rattle.calc_core.specs.Meaning.{Value, Fits, PartMeans, Takes, ends, adds, overflows, fails}
use Rattle.calc_core.specs.ScriptCalls.{Moves, CallLeads, is_hit, is_run, PartLeads, no_call, one_call, PartsLead, at_end, at_number, at_overflow, at_fault, RunLeads, PartFails, PartsFail, at_this, after_number, RunFails}
use Rattle.calc_core.specs.declared.scripts.outcome.CalcFault.{CalcFault}
use Rattle.calc_core.specs.declared.scripts.outcome.CalcFault.TheVariants.{Overflow}
use Rattle.calc_core.proofs.Meanings.{same_path, ok_is, ok_is_no_err, one_part_meaning}
use Rattle.calc_core.specs.Taken.{Taken}
use Rattle.calc_core.specs.Totals.{IsAdded}

module _ (At : List ℕ → List ℕ → Type 0) {S : Type 0} (move : Moves S) where
  -- in a run of a script that began at s, these parts are left after this was taken, which led to m: where they lead, the run leads
  pub record Led (script : List ℕ) (ps : List (List ℕ)) (taken : Taken) (s m : S) : Type 0 where
    pub leads : {t : S} → PartsLead At move ps taken.sum m t → RunLeads At move script s t
    pub fails : {t : S} → PartsFail At move ps taken.sum m t → RunFails At move script s t

  -- before the first part
  pub led_none : {script : List ℕ} {ps : List (List ℕ)} {taken : Taken} (s : S) → ps ≡ parts script → taken ≡ record { sum = pos 0; height = 0 } → Led script ps taken s s
  led_none {script = script} {ps = ps} s all none =
      subst (λ taken. Led script ps taken s s) (sym none) (subst (λ qs. Led script qs (record { sum = pos 0; height = 0 }) s s) (sym all) (record { leads = λ l. l; fails = λ f. f }))

  -- after one more part
  pub led_rest : {script p : List ℕ} {qs ps : List (List ℕ)} {v : Value} {g : ℕ} {old new : Taken} {s m n : S} → Led script qs old s m → qs ≡ p ∷ ps
      → PartMeans At p v g → IsAdded old.sum v new.sum (Ok tt) → PartLeads At move p m n → Led script ps new s n
  led_rest {script = script} {ps = ps} {v = Ok k} {old = old} {s = s} {m = m} {n = n} led cut means (fits, sum) part =
      let l = subst (λ qs. Led script qs old s m) cut led in
      record {
        leads = λ {t} rest. l.leads (at_number means fits part (subst (λ k. PartsLead At move ps k n t) sum rest));
        fails = λ {t} rest. l.fails (after_number means fits part (subst (λ k. PartsFail At move ps k n t) sum rest));
      }
  led_rest {v = Err fault} led cut means never part = absurd never

  -- the whole run, where no part is left
  pub leads_at_end : {script : List ℕ} {qs : List (List ℕ)} {taken : Taken} {s m : S} → Led script qs taken s m → qs ≡ [] → RunLeads At move script s m
  leads_at_end {script = script} {taken = taken} {s = s} {m = m} led cut = (subst (λ qs. Led script qs taken s m) cut led).leads at_end

  -- the whole run, where a part was refused
  pub leads_at_fault : {script p : List ℕ} {qs ps : List (List ℕ)} {old : Taken} (new : Taken) (fault : CalcFault) {v : Value} {g : ℕ} {s m t : S} → Led script qs old s m → qs ≡ p ∷ ps
      → PartMeans At p v g → IsAdded old.sum v new.sum (Err fault) → PartLeads At move p m t → RunLeads At move script s t
  leads_at_fault {script = script} {old = old} new fault {v = Ok k} {s = s} {m = m} led cut means (over, is, same) part =
      (subst (λ qs. Led script qs old s m) cut led).leads (at_overflow means over part)
  leads_at_fault {script = script} {old = old} new fault {v = Err fault'} {s = s} {m = m} led cut means same part =
      (subst (λ qs. Led script qs old s m) cut led).leads (at_fault means part)

  -- the run that broke off, where a part failed
  pub fails_at_part : {script p : List ℕ} {qs ps : List (List ℕ)} {taken : Taken} {s m t : S} → Led script qs taken s m → qs ≡ p ∷ ps → PartFails At move p m t → RunFails At move script s t
  fails_at_part {script = script} {taken = taken} {s = s} {m = m} led cut part = (subst (λ qs. Led script qs taken s m) cut led).fails (at_this part)

  -- parts that were taken to their end have a value
  pub value_of_led : {ps : List (List ℕ)} {sum : ℤ} {s t : S} → PartsLead At move ps sum s t → (h : ℕ) → (v : Value) × (e : ℕ) × Takes At ps sum h v e
  value_of_led (at_end {sum = sum}) h = (Ok sum, h, ends)
  value_of_led (at_number {g = g} means fits part rest) h =
      let (v, e, takes) = value_of_led rest (max h g) in
      (v, e, adds means fits takes)
  value_of_led (at_overflow {g = g} means over part) h = (Err Overflow, max h g, overflows means over)
  value_of_led (at_fault {fault = fault} {g = g} means part) h = (Err fault, max h g, fails means)

-- where one text stands at each path, and each call by itself leads to one state, as a hit or as a run, a script's call leads to one state
module _ (At : List ℕ → List ℕ → Type 0) (one : (path text other : List ℕ) → At path text → At path other → text ≡ other) {S : Type 0} (move : Moves S)
    (apart : (script : List ℕ) (s t : S) → move.hit script s t → ¬ move.missed script s)
    (hits : (script : List ℕ) (s t u : S) → move.hit script s t → move.hit script s u → t ≡ u)
    (endings : (script : List ℕ) (s t u : S) → move.ended script s t → move.ended script s u → t ≡ u) where
  mutual
    pub one_call_leads : {script : List ℕ} {s t u : S} → CallLeads At move script s t → CallLeads At move script s u → t ≡ u
    one_call_leads (is_hit h) (is_hit k) = hits _ _ _ _ h k
    one_call_leads (is_hit h) (is_run missed calls end) = absurd (apart _ _ _ h missed)
    one_call_leads (is_run missed calls end) (is_hit h) = absurd (apart _ _ _ h missed)
    one_call_leads {u = u} (is_run {script = script} missed calls end) (is_run missed' calls' end') =
        endings _ _ _ _ end (subst (λ m. move.ended script m u) (sym (one_way calls calls')) end')

    pub one_part_leads : {part : List ℕ} {s t u : S} → PartLeads At move part s t → PartLeads At move part s u → t ≡ u
    one_part_leads (no_call none) (no_call none') = refl
    one_part_leads (no_call none) (one_call {path = path} is at call) = absurd (none path is)
    one_part_leads (one_call {path = path} is at call) (no_call none) = absurd (none path is)
    one_part_leads {u = u} (one_call {path = path} {text = text} {s = s} is at call) (one_call {path = path'} {text = text'} is' at' call') =
        let same : text' ≡ text = one path text' text (subst (λ p. At p text') (same_path is' is) at') at in
        one_call_leads call (subst (λ text. CallLeads At move text s u) same call')

    pub one_way : {ps : List (List ℕ)} {sum : ℤ} {s t u : S} → PartsLead At move ps sum s t → PartsLead At move ps sum s u → t ≡ u
    one_way at_end at_end = refl
    one_way {u = u} (at_number {ps = ps} {sum = sum} {n = n} {m = m} means fits part rest) (at_number {n = n'} {m = m'} means' fits' part' rest') =
        one_way rest (subst (λ k. PartsLead At move ps (sum +ℤ k) m u) (sym (ok_is (one_part_meaning At one means means').0)) (subst (λ m. PartsLead At move ps (sum +ℤ n') m u) (sym (one_part_leads part part')) rest'))
    one_way (at_number {sum = sum} means fits part rest) (at_overflow means' over part') = absurd (over (subst (λ n. Fits (sum +ℤ n)) (ok_is (one_part_meaning At one means means').0) fits))
    one_way (at_number means fits part rest) (at_fault means' part') = absurd (ok_is_no_err (one_part_meaning At one means means').0)
    one_way (at_overflow {sum = sum} means over part) (at_number means' fits part' rest) = absurd (over (subst (λ n. Fits (sum +ℤ n)) (sym (ok_is (one_part_meaning At one means means').0)) fits))
    one_way (at_overflow means over part) (at_overflow means' over' part') = one_part_leads part part'
    one_way (at_overflow means over part) (at_fault means' part') = absurd (ok_is_no_err (one_part_meaning At one means means').0)
    one_way (at_fault means part) (at_number means' fits part' rest) = absurd (ok_is_no_err (sym (one_part_meaning At one means means').0))
    one_way (at_fault means part) (at_overflow means' over part') = absurd (ok_is_no_err (sym (one_part_meaning At one means means').0))
    one_way (at_fault means part) (at_fault means' part') = one_part_leads part part'
