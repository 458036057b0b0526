-- What a text answers.
use Rattle.std.specs.Prelude.{ℕ, List, [], String, string_bytes, length, ◌+◌, ◌%◌, ◌^◌}
use Rattle.std.specs.Global.{Global}
use Rattle.comemo_examples.specs.declared.kinds.TextCall.{TextCall}
use Rattle.comemo_examples.specs.declared.kinds.TextCall.TheVariants.{Itself, LengthPlus}
use Rattle.comemo_examples.specs.declared.kinds.TextAnswer.{TextAnswer}
use Rattle.comemo_examples.specs.declared.kinds.TextAnswer.TheVariants.{Text, Length}

abbrev pub text_answer : String Global → TextCall → TextAnswer
text_answer text Itself = Text text
text_answer text (LengthPlus n) = Length ((length (string_bytes text) + n) % 2 ^ 64)

-- the text of an answer; empty if it holds a length
abbrev pub text_in : TextAnswer → List ℕ
text_in (Text text) = string_bytes text
text_in (Length n) = []

-- the length of an answer; 0 if it holds a text
abbrev pub length_in : TextAnswer → ℕ
length_in (Text text) = 0
length_in (Length n) = n
