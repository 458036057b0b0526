use Rattle.std.proofs.Common.{◌∙◌, ap}
use Rattle.comemo.specs.declared.MultiCall.TheVariants as call
use Rattle.comemo_lang.specs.Questions.{exports_in, asked_exports}
use Rattle.comemo_lang.specs.QuestionLaws.{answer_same}
use Rattle.comemo_lang.specs.declared.question.Question.TheVariants.{ExportsOf}
use Rattle.comemo_lang.proofs.question.ask_exports.Goals as goal

pub returns : goal.returns
returns c =
    let k = c.in_ok-answer.ensures.tells in
    record {
      same_value = k.same_value;
      before = k.before;
      told = λ m f. c.into_exports.ensures ∙ ap exports_in (answer_same (m (call.B (record { key = ExportsOf c.in_ok-clone.field-0 }))) c.in_ok-answer.answer (k.told m f)) ∙ ap (asked_exports m) c.in_ok-clone.ensures.cases;
      complete = k.complete;
      fault = tt;
    }
