use Rattle.std.proofs.Common.{◌≡◌, ◌∙◌, refl, sym, rules}
use Rattle.comemo_base.proofs.Keeps.{get_keeps}
use Rattle.comemo_tree_tests.proofs.Once.{told}
use Rattle.comemo_tree_tests.proofs.refusals.get_with_one_answer.Goals as goal

pub returns : goal.returns
returns g c =
    let kept = get_keeps _ (λ f f'. f'.1.ghost_name ≡ f.1.ghost_name) (λ f. refl) (λ f f' f'' h k. k ∙ h) (λ f f' x r k. let called = k.called in search rules) _ _ _ _ _ _ c.get-found.result c.get-found.ensures.asked c.get-found.ensures.refused in
    let name = sym kept in
    let told = told _ (λ f. f.0.now) (λ f. f.1.now) (record {
      given = λ f f' x r k. let called = k.called in (search rules, search rules, search rules);
      refuses = λ f f' x e k. let called = k.called in (search rules, search rules);
    }) c.args.answer _ _ _ _ _ refl refl _ c.get-found.result c.get-found.ensures.asked c.get-found.ensures.refused in
    record { passed_on = search (rules, told.noted); refused = told.goes_on; missed = told.missed; found = told.found }
