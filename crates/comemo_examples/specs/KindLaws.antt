-- Equal questions to a text have equal answers.
use Rattle.std.proofs.Common.{rules}
use Rattle.std.specs.Prelude.{String}
use Rattle.std.specs.Global.{Global}
use Rattle.comemo.specs.Answers.{Respects}
use Rattle.comemo_examples.specs.Kinds.{text_answer}
use Rattle.comemo_examples.specs.declared.kinds.TextCall.TheVariants.{Itself, LengthPlus}
use Rattle.comemo_examples.specs.contracts.kinds.TextCallPartialEq.TheImpl as call
use Rattle.comemo_examples.specs.contracts.kinds.TextAnswerPartialEq.TheImpl as answer

pub answers_alike : (text : String Global) → Respects call.ghosts.eq answer.ghosts.eq (text_answer text)
answers_alike text Itself Itself h = search rules
answers_alike text Itself (LengthPlus n) h = search rules
answers_alike text (LengthPlus n) Itself h = search rules
answers_alike text (LengthPlus n) (LengthPlus k) h = search rules
