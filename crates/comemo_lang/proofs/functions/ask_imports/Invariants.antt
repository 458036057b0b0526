use Rattle.std.proofs.Common.{◌≡◌, take, Ok}
use Rattle.std.specs.List.{flat_map}
use Rattle.comemo.specs.Function.{Fits, Tells}
use Rattle.comemo_lang.specs.Checking.{imported}
use Rattle.comemo_lang.specs.Questions.{asked_exports}
use Rattle.comemo_lang.specs.QuestionLaws.{same_call, same_answer}
use Rattle.comemo_lang.proofs.functions.ask_imports.Given as goal

-- the imports so far are those of the declarations so far
abbrev pub invariant-loop-declaration : goal.invariant-loop-declaration
invariant-loop-declaration l = Tells (Fits same_call same_answer) l.initial.of l.of (Ok l.imports) (λ imports m. imports.items ≡ flat_map (imported (asked_exports m)) (take l.declaration-index l.declarations))
