use Rattle.std.proofs.Common.{rules, arith, ◌≡◌, ◌≢◌, ℕ, List, Option, Some, None, IsSome, IfSome, Contains, Result, Ok, Err, Bool, true, false, refl, sym, subst}
use Rattle.bench_rows.specs.Started.{row_numbers}
use Rattle.bench_rows.proofs.table.run_rows.Goals as goal

-- one more row
next : {E : Type 0} (old new : Option (List ℕ)) (came_to : Result Bool E) (number : List ℕ) → (came_to ≡ Ok true → new ≡ old) → (IsSome old → new ≡ old)
    → (old ≡ None → came_to ≢ Ok true → new ≡ Some number) → Contains row_numbers number → IfSome old (Contains row_numbers) → IfSome new (Contains row_numbers)
next (Some _) _ _ _ held earlier failed is h = subst (λ o. IfSome o (Contains row_numbers)) (sym (earlier refl)) h
next None _ (Ok true) _ held earlier failed is h = subst (λ o. IfSome o (Contains row_numbers)) (sym (held refl)) tt
next None _ (Ok false) _ held earlier failed is h = subst (λ o. IfSome o (Contains row_numbers)) (sym (failed refl (λ e. search (rules, e)))) is
next None _ (Err _) _ held earlier failed is h = subst (λ o. IfSome o (Contains row_numbers)) (sym (failed refl (λ e. search (rules, e)))) is

pub returns : goal.returns
returns g c =
    let upto0 = next _ _ _ _ c.row.ensures.held c.row.ensures.earlier c.row.ensures.failed (0, omega arith, refl) (subst (λ o. IfSome o (Contains row_numbers)) (sym c.new-rows.ensures) tt) in
    let upto1 = next _ _ _ _ c.row-2.ensures.held c.row-2.ensures.earlier c.row-2.ensures.failed (1, omega arith, refl) upto0 in
    let upto2 = next _ _ _ _ c.row-3.ensures.held c.row-3.ensures.earlier c.row-3.ensures.failed (2, omega arith, refl) upto1 in
    let upto3 = next _ _ _ _ c.row-4.ensures.held c.row-4.ensures.earlier c.row-4.ensures.failed (3, omega arith, refl) upto2 in
    let upto4 = next _ _ _ _ c.row-5.ensures.held c.row-5.ensures.earlier c.row-5.ensures.failed (4, omega arith, refl) upto3 in
    let upto5 = next _ _ _ _ c.row-6.ensures.held c.row-6.ensures.earlier c.row-6.ensures.failed (5, omega arith, refl) upto4 in
    let upto6 = next _ _ _ _ c.row-7.ensures.held c.row-7.ensures.earlier c.row-7.ensures.failed (6, omega arith, refl) upto5 in
    let upto7 = next _ _ _ _ c.row-8.ensures.held c.row-8.ensures.earlier c.row-8.ensures.failed (7, omega arith, refl) upto6 in
    let upto8 = next _ _ _ _ c.row-9.ensures.held c.row-9.ensures.earlier c.row-9.ensures.failed (8, omega arith, refl) upto7 in
    let upto9 = next _ _ _ _ c.row-10.ensures.held c.row-10.ensures.earlier c.row-10.ensures.failed (9, omega arith, refl) upto8 in
    let upto10 = next _ _ _ _ c.row-11.ensures.held c.row-11.ensures.earlier c.row-11.ensures.failed (10, omega arith, refl) upto9 in
    let upto11 = next _ _ _ _ c.row-12.ensures.held c.row-12.ensures.earlier c.row-12.ensures.failed (11, omega arith, refl) upto10 in
    let upto12 = next _ _ _ _ c.row-13.ensures.held c.row-13.ensures.earlier c.row-13.ensures.failed (12, omega arith, refl) upto11 in
    let upto13 = next _ _ _ _ c.row-14.ensures.held c.row-14.ensures.earlier c.row-14.ensures.failed (13, omega arith, refl) upto12 in
    let upto14 = next _ _ _ _ c.row-15.ensures.held c.row-15.ensures.earlier c.row-15.ensures.failed (14, omega arith, refl) upto13 in
    let upto15 = next _ _ _ _ c.row-16.ensures.held c.row-16.ensures.earlier c.row-16.ensures.failed (15, omega arith, refl) upto14 in
    let upto16 = next _ _ _ _ c.row-17.ensures.held c.row-17.ensures.earlier c.row-17.ensures.failed (16, omega arith, refl) upto15 in
    let upto17 = next _ _ _ _ c.row-18.ensures.held c.row-18.ensures.earlier c.row-18.ensures.failed (17, omega arith, refl) upto16 in
    let upto18 = next _ _ _ _ c.row-19.ensures.held c.row-19.ensures.earlier c.row-19.ensures.failed (18, omega arith, refl) upto17 in
    let upto19 = next _ _ _ _ c.row-20.ensures.held c.row-20.ensures.earlier c.row-20.ensures.failed (19, omega arith, refl) upto18 in
    let upto20 = next _ _ _ _ c.row-21.ensures.held c.row-21.ensures.earlier c.row-21.ensures.failed (20, omega arith, refl) upto19 in
    let upto21 = next _ _ _ _ c.row-22.ensures.held c.row-22.ensures.earlier c.row-22.ensures.failed (21, omega arith, refl) upto20 in
    let upto22 = next _ _ _ _ c.row-23.ensures.held c.row-23.ensures.earlier c.row-23.ensures.failed (22, omega arith, refl) upto21 in
    let upto23 = next _ _ _ _ c.row-24.ensures.held c.row-24.ensures.earlier c.row-24.ensures.failed (23, omega arith, refl) upto22 in
    let upto24 = next _ _ _ _ c.row-25.ensures.held c.row-25.ensures.earlier c.row-25.ensures.failed (24, omega arith, refl) upto23 in
    let upto25 = next _ _ _ _ c.row-26.ensures.held c.row-26.ensures.earlier c.row-26.ensures.failed (25, omega arith, refl) upto24 in
    let upto26 = next _ _ _ _ c.row-27.ensures.held c.row-27.ensures.earlier c.row-27.ensures.failed (26, omega arith, refl) upto25 in
    let upto27 = next _ _ _ _ c.row-28.ensures.held c.row-28.ensures.earlier c.row-28.ensures.failed (27, omega arith, refl) upto26 in
    let upto28 = next _ _ _ _ c.row-29.ensures.held c.row-29.ensures.earlier c.row-29.ensures.failed (28, omega arith, refl) upto27 in
    let upto29 = next _ _ _ _ c.row-30.ensures.held c.row-30.ensures.earlier c.row-30.ensures.failed (28, omega arith, refl) upto28 in
    let upto30 = next _ _ _ _ c.row-31.ensures.held c.row-31.ensures.earlier c.row-31.ensures.failed (28, omega arith, refl) upto29 in
    let upto31 = next _ _ _ _ c.row-32.ensures.held c.row-32.ensures.earlier c.row-32.ensures.failed (28, omega arith, refl) upto30 in
    let upto32 = next _ _ _ _ c.row-33.ensures.held c.row-33.ensures.earlier c.row-33.ensures.failed (28, omega arith, refl) upto31 in
    let upto33 = next _ _ _ _ c.row-34.ensures.held c.row-34.ensures.earlier c.row-34.ensures.failed (29, omega arith, refl) upto32 in
    let upto34 = next _ _ _ _ c.row-35.ensures.held c.row-35.ensures.earlier c.row-35.ensures.failed (29, omega arith, refl) upto33 in
    let upto35 = next _ _ _ _ c.row-36.ensures.held c.row-36.ensures.earlier c.row-36.ensures.failed (29, omega arith, refl) upto34 in
    let upto36 = next _ _ _ _ c.row-37.ensures.held c.row-37.ensures.earlier c.row-37.ensures.failed (30, omega arith, refl) upto35 in
    upto36
