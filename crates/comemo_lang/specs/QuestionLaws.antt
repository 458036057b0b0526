-- Equal questions and equal answers are the same. A reader needn't trust it.
use Rattle.std.specs.Prelude.{◌≡◌, ℕ, List, Bool, None, Some}
use Rattle.std.proofs.Common.{IsTrue, rules, refl}
use Rattle.std.specs.Cmp.Lexicographic.{same_text, nat_list_eq_equiv}
use Rattle.comemo.specs.declared.MultiAnswer.TheVariants as answers
use Rattle.comemo.proofs.Texts.{items_refl, items_same}
use Rattle.comemo.specs.contracts.known.At as at_type
use Rattle.comemo.specs.contracts.known.AtPartialEq.TheImpl as at
use Rattle.comemo_track.specs.contracts.multi.MultiAnswerPartialEq.TheImpl as multi_answer
use Rattle.comemo_track.specs.contracts.multi.MultiCallPartialEq.TheImpl as multi_call
use Rattle.comemo_text.specs.contracts.items.ItemsPartialEq.TheImpl as items
use Rattle.comemo_text.specs.contracts.text.Text as text_type
use Rattle.comemo_text.specs.contracts.text.TextPartialEq.TheImpl as text
use Rattle.comemo_lang.specs.Questions.{Asked, Answered, output_at}
use Rattle.comemo_lang.specs.SourceLaws.{source_same}
use Rattle.comemo_lang.specs.contracts.project.Source as source_type
use Rattle.comemo_lang.specs.contracts.project.SourcePartialEq.TheImpl as source
use Rattle.comemo_lang.specs.contracts.question.Output as output_type
use Rattle.comemo_lang.specs.contracts.question.OutputPartialEq.TheImpl as output
use Rattle.comemo_lang.specs.contracts.project.SourceOf as call_type
use Rattle.comemo_lang.specs.contracts.project.SourceOfPartialEq.TheImpl as call
use Rattle.comemo_lang.specs.contracts.question.Question as question_type
use Rattle.comemo_lang.specs.contracts.question.QuestionPartialEq.TheImpl as question
use Rattle.comemo_lang.specs.contracts.declaration.Declaration as declaration_type
use Rattle.comemo_lang.specs.contracts.declaration.DeclarationPartialEq.TheImpl as declaration
use Rattle.comemo_lang.specs.contracts.diagnostic.Diagnostic as diagnostic_type
use Rattle.comemo_lang.specs.contracts.diagnostic.DiagnosticPartialEq.TheImpl as diagnostic
use Rattle.comemo_lang.specs.declared.declaration.Declaration.{Declaration}
use Rattle.comemo_lang.specs.declared.declaration.Declaration.TheVariants.{Define}
use Rattle.comemo_lang.specs.declared.diagnostic.Diagnostic.{Diagnostic}
use Rattle.comemo_lang.specs.declared.project.Source.{Source}
use Rattle.comemo_lang.specs.declared.question.Output.{Output}
use Rattle.comemo_lang.specs.declared.question.Output.TheVariants.{Declarations, Exports, Diagnostics}
use Rattle.comemo_lang.specs.declared.question.Question.{Question}

pub question_refl : (x : Question) → IsTrue (question.ghosts.eq x x)
question_refl x = search (rules, nat_list_eq_equiv)

pub question_same : (x y : Question) → IsTrue (question.ghosts.eq x y) → y ≡ x
question_same x y h = search (rules, same_text)

text_refl : (x : List ℕ) → IsTrue (text.ghosts.eq x x)
text_refl x = search (rules, nat_list_eq_equiv)

text_same : (x y : List ℕ) → IsTrue (text.ghosts.eq x y) → y ≡ x
text_same x y h = search (rules, same_text)

-- lists of names
names_refl : (x : List (List ℕ)) → IsTrue ((items.ghosts text_type.the_row text.ghosts text.dict).eq x x)
names_refl = items_refl text.ghosts.eq text_refl

names_same : (x y : List (List ℕ)) → IsTrue ((items.ghosts text_type.the_row text.ghosts text.dict).eq x y) → y ≡ x
names_same = items_same text.ghosts.eq text_same

declaration_refl : (x : Declaration) → IsTrue (declaration.ghosts.eq x x)
declaration_refl x = search (rules, nat_list_eq_equiv, names_refl)

declaration_same : (x y : Declaration) → IsTrue (declaration.ghosts.eq x y) → y ≡ x
declaration_same (Define a xs) (Define b ys) h =
    let both : IsTrue (text.ghosts.eq a b) × IsTrue ((items.ghosts text_type.the_row text.ghosts text.dict).eq xs ys) = search rules in
    rw (text_same a b both.0, names_same xs ys both.1) refl
declaration_same x y h = search (rules, same_text)

-- lists of declarations
declarations_refl : (x : List Declaration) → IsTrue ((items.ghosts declaration_type.the_row declaration.ghosts declaration.dict).eq x x)
declarations_refl = items_refl declaration.ghosts.eq declaration_refl

declarations_same : (x y : List Declaration) → IsTrue ((items.ghosts declaration_type.the_row declaration.ghosts declaration.dict).eq x y) → y ≡ x
declarations_same = items_same declaration.ghosts.eq declaration_same

diagnostic_refl : (x : Diagnostic) → IsTrue (diagnostic.ghosts.eq x x)
diagnostic_refl x = search (rules, nat_list_eq_equiv)

diagnostic_same : (x y : Diagnostic) → IsTrue (diagnostic.ghosts.eq x y) → y ≡ x
diagnostic_same x y h = search (rules, same_text)

-- lists of diagnostics
diagnostics_refl : (x : List Diagnostic) → IsTrue ((items.ghosts diagnostic_type.the_row diagnostic.ghosts diagnostic.dict).eq x x)
diagnostics_refl = items_refl diagnostic.ghosts.eq diagnostic_refl

diagnostics_same : (x y : List Diagnostic) → IsTrue ((items.ghosts diagnostic_type.the_row diagnostic.ghosts diagnostic.dict).eq x y) → y ≡ x
diagnostics_same = items_same diagnostic.ghosts.eq diagnostic_same

pub output_refl : (x : Output) → IsTrue (output.ghosts.eq x x)
output_refl (Declarations None) = search rules
output_refl (Declarations (Some xs)) = search (rules, declarations_refl xs)
output_refl (Exports None) = search rules
output_refl (Exports (Some xs)) = search (rules, names_refl xs)
output_refl (Diagnostics xs) = search (rules, diagnostics_refl xs)

-- what is the same output is equal
pub output_equal : (x y : Output) → y ≡ x → IsTrue (output.ghosts.eq x y)
output_equal x y same = rw same (output_refl x)

pub output_same : (x y : Output) → IsTrue (output.ghosts.eq x y) → y ≡ x
output_same (Declarations (Some xs)) (Declarations (Some ys)) h = let e : IsTrue ((items.ghosts declaration_type.the_row declaration.ghosts declaration.dict).eq xs ys) = search rules in rw (declarations_same xs ys e) refl
output_same (Exports (Some xs)) (Exports (Some ys)) h = let e : IsTrue ((items.ghosts text_type.the_row text.ghosts text.dict).eq xs ys) = search rules in rw (names_same xs ys e) refl
output_same (Diagnostics xs) (Diagnostics ys) h = let e : IsTrue ((items.ghosts diagnostic_type.the_row diagnostic.ghosts diagnostic.dict).eq xs ys) = search rules in rw (diagnostics_same xs ys e) refl
output_same x y h = search rules

-- the equality of calls, and that of answers
abbrev pub same_call : Asked → Asked → Bool
same_call = (multi_call.ghosts call_type.the_row (at_type.the_row question_type.the_row) call.ghosts call.dict (at.ghosts question_type.the_row question.ghosts question.dict) (at.dict question_type.the_row question.ghosts question.dict)).eq

abbrev pub same_answer : Answered → Answered → Bool
same_answer = (multi_answer.ghosts source_type.the_row output_type.the_row source.ghosts source.dict output.ghosts output.dict).eq

pub answer_same : (x y : Answered) → IsTrue (same_answer x y) → y ≡ x
answer_same (answers.A x) (answers.A y) h = let e : IsTrue (source.ghosts.eq x y) = search rules in rw (source_same x y e) refl
answer_same (answers.B x) (answers.B y) h = let e : IsTrue (output.ghosts.eq x y) = search rules in rw (output_same x y e) refl
answer_same x y h = search rules

-- an output is the same at equal questions
pub output_alike : (sources : List ℕ → Source) (x y : Question) → IsTrue (question.ghosts.eq x y) → IsTrue (output.ghosts.eq (output_at x sources) (output_at y sources))
output_alike sources x y h = rw (question_same x y h) (output_refl (output_at x sources))
