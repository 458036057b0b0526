-- What runs ask, and what the answers hold.
use Rattle.std.specs.Prelude.{ℕ, List, Option, None}
use Rattle.comemo.specs.declared.known.At.{At}
use Rattle.comemo.specs.declared.MultiCall.{MultiCall}
use Rattle.comemo.specs.declared.MultiCall.TheVariants as call
use Rattle.comemo.specs.declared.MultiAnswer.{MultiAnswer}
use Rattle.comemo.specs.declared.MultiAnswer.TheVariants as answer
use Rattle.comemo_lang.specs.Checking as language
use Rattle.comemo_lang.specs.declared.declaration.Declaration.{Declaration}
use Rattle.comemo_lang.specs.declared.project.Source.{Source}
use Rattle.comemo_lang.specs.declared.project.Source.TheVariants.{Missing}
use Rattle.comemo_lang.specs.declared.project.SourceOf.{SourceOf}
use Rattle.comemo_lang.specs.declared.question.Question.{Question}
use Rattle.comemo_lang.specs.declared.question.Question.TheVariants.{DeclarationsOf, ExportsOf, DiagnosticsOf}
use Rattle.comemo_lang.specs.declared.question.Output.{Output}
use Rattle.comemo_lang.specs.declared.question.Output.TheVariants.{Declarations, Exports, Diagnostics}

-- what a run asks, and what it is answered
abbrev pub Asked : Type 0
Asked = MultiCall SourceOf (At Question)

abbrev pub Answered : Type 0
Answered = MultiAnswer Source Output

-- the source, the declarations and the exports in an answer
abbrev pub source_in : Answered → Source
source_in (answer.A source) = source
source_in (answer.B output) = Missing

abbrev pub declarations_in : Answered → Option (List Declaration)
declarations_in (answer.A source) = None
declarations_in (answer.B (Declarations declarations)) = declarations
declarations_in (answer.B (Exports exports)) = None
declarations_in (answer.B (Diagnostics diagnostics)) = None

abbrev pub exports_in : Answered → Option (List (List ℕ))
exports_in (answer.A source) = None
exports_in (answer.B (Declarations declarations)) = None
exports_in (answer.B (Exports exports)) = exports
exports_in (answer.B (Diagnostics diagnostics)) = None

-- the same of the module of a name, by what is answered
abbrev pub asked_source : (Asked → Answered) → List ℕ → Source
asked_source m name = source_in (m (call.A (record { name = name })))

abbrev pub asked_declarations : (Asked → Answered) → List ℕ → Option (List Declaration)
asked_declarations m name = declarations_in (m (call.B (record { key = DeclarationsOf name })))

abbrev pub asked_exports : (Asked → Answered) → List ℕ → Option (List (List ℕ))
asked_exports m name = exports_in (m (call.B (record { key = ExportsOf name })))

-- the output at a question, by the sources of modules
abbrev pub output_at : Question → (List ℕ → Source) → Output
output_at (DeclarationsOf name) sources = Declarations (language.declarations_of sources name)
output_at (ExportsOf name) sources = Exports (language.exports_of sources name)
output_at (DiagnosticsOf name) sources = Diagnostics (language.check_of sources name)
