use Rattle.std.proofs.Common.{◌≡◌, ◌∙◌, sym, ap}
use Rattle.comemo_lang.specs.Checking.{check_of}
use Rattle.comemo_lang.specs.Projects.{source_of}
use Rattle.comemo_lang.specs.QuestionLaws.{output_same}
use Rattle.comemo_lang.specs.declared.question.Output.TheVariants.{Diagnostics}
use Rattle.comemo_lang.proofs.frontend.Frontend.check.Goals as goal

pub returns-clause-right : goal.returns-clause-right
returns-clause-right c =
    let sources = source_of c.args.round.now.value in
    let all = check_of sources c.in_ok-clone.field-0 in
    let same : Diagnostics c.in-Diagnostics.diagnostics ≡ Diagnostics all = sym c.in-Diagnostics.is ∙ output_same (Diagnostics all) c.in_ok-diagnostics.field-0 c.in_ok-diagnostics.ensures.gives in
    let here : c.in-Diagnostics.diagnostics ≡ all = cc same in
    here ∙ ap (check_of sources) c.in_ok-clone.ensures.cases
