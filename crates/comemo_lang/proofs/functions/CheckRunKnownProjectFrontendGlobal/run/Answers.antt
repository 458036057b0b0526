use Rattle.std.proofs.Common.{◌≡◌, ◌∙◌, sym, ap, Some}
use Rattle.std.specs.List.{flat_map}
use Rattle.comemo_lang.specs.Checking.{checked, diagnosed, imported}
use Rattle.comemo_lang.specs.Questions.{asked_declarations, asked_exports}
use Rattle.comemo_lang.proofs.functions.CheckRunKnownProjectFrontendGlobal.run.Goals as goal

pub returns-clause-right : goal.returns-clause-right
returns-clause-right c = λ m f.
    let own = c.in-Some.declarations in
    let declared : asked_declarations m c.args.name.now ≡ Some own = sym (c.in_ok-declarations.ensures.told m (c.in_ok-imports.ensures.before m f)) ∙ c.in-Some.is in
    let imports : c.as_slice.result.now ≡ flat_map (imported (asked_exports m)) own = c.as_slice.ensures.value ∙ c.in_ok-imports.ensures.told m f ∙ ap (flat_map (imported (asked_exports m))) c.as_slice-declarations.ensures in
    c.in_ok-diagnose.ensures ∙ ap (λ all. diagnosed all c.as_slice.result.now) c.as_slice-declarations.ensures ∙ ap (diagnosed own) imports
    ∙ ap (λ all. checked all (asked_exports m)) (sym declared)
