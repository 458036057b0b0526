use Rattle.std.proofs.Common.{◌∙◌, ap}
use Rattle.comemo.specs.declared.MultiCall.TheVariants as call
use Rattle.comemo_lang.specs.Questions.{declarations_in, asked_declarations}
use Rattle.comemo_lang.specs.QuestionLaws.{answer_same}
use Rattle.comemo_lang.specs.declared.question.Question.TheVariants.{DeclarationsOf}
use Rattle.comemo_lang.proofs.question.ask_declarations.Goals as goal

pub returns : goal.returns
returns c =
    let k = c.in_ok-answer.ensures.tells in
    record {
      same_value = k.same_value;
      before = k.before;
      told = λ m f. c.into_declarations.ensures ∙ ap declarations_in (answer_same (m (call.B (record { key = DeclarationsOf c.in_ok-clone.field-0 }))) c.in_ok-answer.answer (k.told m f)) ∙ ap (asked_declarations m) c.in_ok-clone.ensures.cases;
      complete = k.complete;
      fault = tt;
    }
