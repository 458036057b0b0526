use Rattle.std.proofs.Common.{◌∙◌, ap}
use Rattle.comemo.specs.declared.MultiCall.TheVariants as call
use Rattle.comemo_lang.specs.Questions.{source_in, asked_source}
use Rattle.comemo_lang.specs.QuestionLaws.{answer_same}
use Rattle.comemo_lang.proofs.question.ask_source.Goals as goal

pub returns : goal.returns
returns c =
    let k = c.in_ok-answer.ensures.tells in
    record {
      same_value = k.same_value;
      before = k.before;
      told = λ m f. c.into_source.ensures ∙ ap source_in (answer_same (m (call.A (record { name = c.in_ok-name.name }))) c.in_ok-answer.answer (k.told m f)) ∙ ap (asked_source m) c.in_ok-name.ensures.cases;
      complete = k.complete;
      fault = tt;
    }
