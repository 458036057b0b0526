use Rattle.std.proofs.Common.{◌≡◌, ◌∙◌, ap}
use Rattle.comemo_lang.specs.Checking.{declarations_of, exports_of, check_of}
use Rattle.comemo_lang.specs.Projects.{source_of}
use Rattle.comemo_lang.specs.Questions.{output_at}
use Rattle.comemo_lang.specs.QuestionLaws.{output_equal}
use Rattle.comemo_lang.specs.declared.question.Output.TheVariants.{Declarations, Exports, Diagnostics}
use Rattle.comemo_lang.proofs.frontend.FrontendProviderProject.provide.Goals as goal

pub returns-in_ok-declarations-in-DeclarationsOf-clause-gives : goal.returns-in_ok-declarations-in-DeclarationsOf-clause-gives
returns-in_ok-declarations-in-DeclarationsOf-clause-gives c =
    let sources = source_of c.args.turn.now in
    let same : Declarations c.in_ok-declarations-in-DeclarationsOf.declarations ≡ output_at c.args.question.now sources = rw c.in-DeclarationsOf.is (ap Declarations (c.in_ok-declarations-in-DeclarationsOf.ensures.right ∙ ap (declarations_of sources) c.in_ok-name-in-DeclarationsOf.ensures.cases)) in
    output_equal (output_at c.args.question.now sources) (Declarations c.in_ok-declarations-in-DeclarationsOf.declarations) same

pub returns-in_ok-exports-in-ExportsOf-clause-gives : goal.returns-in_ok-exports-in-ExportsOf-clause-gives
returns-in_ok-exports-in-ExportsOf-clause-gives c =
    let sources = source_of c.args.turn.now in
    let same : Exports c.in_ok-exports-in-ExportsOf.exports ≡ output_at c.args.question.now sources = rw c.in-ExportsOf.is (ap Exports (c.in_ok-exports-in-ExportsOf.ensures.right ∙ ap (exports_of sources) c.in_ok-name-in-ExportsOf.ensures.cases)) in
    output_equal (output_at c.args.question.now sources) (Exports c.in_ok-exports-in-ExportsOf.exports) same

pub returns-in_ok-diagnostics-in-DiagnosticsOf-clause-gives : goal.returns-in_ok-diagnostics-in-DiagnosticsOf-clause-gives
returns-in_ok-diagnostics-in-DiagnosticsOf-clause-gives c =
    let sources = source_of c.args.turn.now in
    let same : Diagnostics c.in_ok-diagnostics-in-DiagnosticsOf.diagnostics ≡ output_at c.args.question.now sources = rw c.in-DiagnosticsOf.is (ap Diagnostics (c.in_ok-diagnostics-in-DiagnosticsOf.ensures.right ∙ ap (check_of sources) c.in_ok-name-in-DiagnosticsOf.ensures.cases)) in
    output_equal (output_at c.args.question.now sources) (Diagnostics c.in_ok-diagnostics-in-DiagnosticsOf.diagnostics) same
