-- What is printed.
use Rattle.std.specs.Prelude.{ℕ, Bool, true, false, List, [], ◌∷◌, ◌++◌, codes, decimal, Ok, Err}
use Rattle.std.specs.Fmt.{signed_decimal}
use Rattle.calc_core.specs.Meaning.{Value}
use Rattle.calc_core.specs.declared.scripts.outcome.CalcFault.{CalcFault}
use Rattle.calc_core.specs.declared.scripts.outcome.CalcFault.TheVariants.{NotANumber, Overflow}
use Rattle.calc_lines.specs.Answers.{out_of_memory}
use Rattle.calc_core.specs.declared.commands.answer.Answer.{Answer}
use Rattle.calc_core.specs.declared.commands.answer.Answer.TheVariants as answer

-- the word before a value: whether it comes from a cache
abbrev pub found : Bool → List ℕ
found true = codes "hit "
found false = codes "miss "

-- the text for a script without a number
abbrev pub fault_text : CalcFault → List ℕ
fault_text NotANumber = codes "not a number"
fault_text Overflow = codes "overflow"

-- what a script's value prints
abbrev pub value_text : Value → List ℕ
value_text (Ok n) = signed_decimal n
value_text (Err fault) = fault_text fault

-- what an answer prints
abbrev pub printed : Answer → List ℕ
printed answer.Written = []
printed answer.Evicted = []
printed (answer.Value hit kept value) = found hit ++ value_text value ++ 10 ∷ []
printed (answer.Size hit bytes) = found hit ++ decimal bytes ++ 10 ∷ []
printed answer.TooDeep = codes "too deep\n"
printed answer.Memory = out_of_memory

-- what a line without a command prints
abbrev pub bad_command : List ℕ
bad_command = codes "bad command\n"
