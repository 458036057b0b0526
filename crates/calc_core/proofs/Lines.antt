-- What a line prints, given the text made for it.
use Rattle.std.proofs.Common.{◌≡◌, ℕ, List, Result, Ok, Err, IfOk, String, string_bytes, sym, subst}
use Rattle.std.specs.Global.{Global}
use Rattle.calc_core.specs.Requests.{Request, IsLineOf, IsNoCommand}
use Rattle.calc_core.specs.Printed.{printed, bad_command}
use Rattle.calc_core.specs.declared.commands.answer.Answer.{Answer}
use Rattle.calc_core.specs.Files.{Texts}
use Rattle.calc_core.specs.Sessions.{Same, Answers, Prints, is_answered, is_bad}

module _ {E : Type 0} {before after : Texts} (line : List ℕ) where
  pub prints_answer : {request : Request} {reply : Answer} (r : Result (String Global) E) → IsLineOf line request → Answers before request reply after → IfOk r (λ text. string_bytes text ≡ printed reply) → IfOk r (λ text. Prints before line (string_bytes text) after)
  prints_answer (Ok text) asks answers same = subst (λ output. Prints before line output after) (sym same) (is_answered asks answers)
  prints_answer (Err e) asks answers same = tt

  pub prints_bad : (r : Result (String Global) E) → IsNoCommand line → Same before after → IfOk r (λ text. string_bytes text ≡ bad_command) → IfOk r (λ text. Prints before line (string_bytes text) after)
  prints_bad (Ok text) none stay same = subst (λ output. Prints before line output after) (sym same) (is_bad none stay)
  prints_bad (Err e) none stay same = tt
