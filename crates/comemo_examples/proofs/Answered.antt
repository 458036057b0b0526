-- What an answer of a text holds that is equal to a text or to a length.
use Rattle.std.proofs.Common.{◌≡◌, ℕ, IsTrue, rules}
use Rattle.std.specs.Prelude.{String, string_bytes}
use Rattle.std.specs.Global.{Global}
use Rattle.comemo_examples.specs.Kinds.{text_in, length_in}
use Rattle.comemo_examples.specs.declared.kinds.TextAnswer.{TextAnswer}
use Rattle.comemo_examples.specs.declared.kinds.TextAnswer.TheVariants.{Text, Length}
use Rattle.comemo_examples.specs.contracts.kinds.TextAnswerPartialEq.TheImpl as answer

pub told_text : (a : TextAnswer) (text : String Global) → IsTrue (answer.ghosts.eq a (Text text)) → string_bytes text ≡ text_in a
told_text (Text own) text h = search rules
told_text (Length n) text h = search rules

pub told_length : (a : TextAnswer) (n : ℕ) → IsTrue (answer.ghosts.eq a (Length n)) → n ≡ length_in a
told_length (Text own) n h = search rules
told_length (Length k) n h = search rules
