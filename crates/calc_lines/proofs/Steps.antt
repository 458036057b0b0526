-- One line more.
use Rattle.std.proofs.Common.{◌≡◌, ℕ, ◌<◌, List, [], ◌∷◌, ◌++◌, length, Option, Some, None, Result, Ok, Err, MatchResult, IsErrAnd, IsUtf8, subst, sym, ap, append-nil, append_assoc}
use Rattle.std.specs.Io.KnownBytes.{Appends}
use Rattle.std.proofs.KnownBytes.{Appends-nil, Appends-trans}
use Rattle.calc_lines.specs.declared.fault.RunFault.{RunFault}
use Rattle.calc_lines.specs.declared.fault.RunFault.TheVariants.{Read, Write, Memory, NotText}
use Rattle.calc_lines.specs.Lines.{TakesLines, IsReadFault}
use Rattle.calc_lines.specs.Lines.{no_line as ends}
use Rattle.calc_lines.specs.Answers.{Answered, answered, refused, empty_line, no_line, out_of_memory}
use Rattle.calc_lines.specs.Written.{AnswersLine, WritesBeginning}
use Rattle.calc_lines.specs.Runs.{AnswersPrefix, Ran, StopsInRead}
use Rattle.calc_lines.proofs.Cut.{more_lines}

takes_none : (input : Option (List ℕ)) → TakesLines input [] input
takes_none None = tt
takes_none (Some bytes) = ends

takes_more : (a b c : Option (List ℕ)) (lines more : List (List ℕ)) → TakesLines a lines b → TakesLines b more c → TakesLines a (lines ++ more) c
takes_more None b c lines more p q = tt
takes_more (Some x) None c lines more p q = absurd p
takes_more (Some x) (Some y) None lines more p q = absurd q
takes_more (Some x) (Some y) (Some z) lines more p q = more_lines p q

pub failed_as : (r : Result (Unit {0}) RunFault) (fault : RunFault) → IsErrAnd r (λ e. e ≡ fault) → r ≡ Err fault
failed_as (Ok _) fault h = absurd h
failed_as (Err e) fault h = ap (λ e. Err e) h

module _ {S : Type 0} (answers : S → List ℕ → List ℕ → S → Type 0) (refuses : S → List ℕ → S → Type 0) where
  answered_append : (s m t : S) (prefix back : List (List ℕ)) (output text : List ℕ)
      → Answered answers refuses s prefix output m → Answered answers refuses m back text t → Answered answers refuses s (prefix ++ back) (output ++ text) t
  answered_append _ _ t _ back _ text no_line b = b
  answered_append s m t _ back output text (empty_line {lines = lines} a) b = empty_line (answered_append s m t lines back output text a b)
  answered_append s m t _ back _ text (answered {m = first} {line = line} here {lines = lines} output h utf8 said a) b =
      subst (λ o. Answered answers refuses s ((line ∷ lines) ++ back) o t) (sym (append_assoc here output text))
      (answered here (output ++ text) h utf8 said (answered_append first m t lines back output text a b))
  answered_append s m t _ back _ text (refused {m = first} {line = line} {lines = lines} output h utf8 said a) b =
      subst (λ o. Answered answers refuses s ((line ∷ lines) ++ back) o t) (sym (append_assoc out_of_memory output text))
      (refused (output ++ text) h utf8 said (answered_append first m t lines back output text a b))

  -- ---- one line

  pub line_empty : (line : List ℕ) (known : Option (List ℕ)) (s : S) → line ≡ [] → AnswersLine answers refuses line known known s s (Ok tt)
  line_empty line known s e = ([], subst (λ l. Answered answers refuses s (l ∷ []) [] s) (sym e) (empty_line no_line), Appends-nil known)

  line_put : (line text : List ℕ) (before after : Option (List ℕ)) (s t : S) (r : Result (Unit {0}) RunFault) → Answered answers refuses s (line ∷ []) text t
      → MatchResult r (λ _. Appends before after text) (λ _. WritesBeginning before after text) → AnswersLine answers refuses line before after s t r
  line_put line text before after s t (Ok x) said put = (text, said, put)
  line_put line text before after s t (Err e) said put = (text, said, put)

  pub line_answered : (line text bytes : List ℕ) (before after : Option (List ℕ)) (s t : S) (r : Result (Unit {0}) RunFault) → 0 < length line → IsUtf8 line
      → answers s line text t → bytes ≡ text
      → MatchResult r (λ _. Appends before after bytes) (λ _. WritesBeginning before after bytes) → AnswersLine answers refuses line before after s t r
  line_answered line text bytes before after s t r some utf8 said e put =
      line_put line text before after s t r (subst (λ o. Answered answers refuses s (line ∷ []) o t) (append-nil text) (answered text [] some utf8 said no_line))
      (subst (λ b. MatchResult r (λ _. Appends before after b) (λ _. WritesBeginning before after b)) e put)

  pub line_refused : (line : List ℕ) (before after : Option (List ℕ)) (s t : S) (r : Result (Unit {0}) RunFault) → 0 < length line → IsUtf8 line
      → refuses s line t
      → MatchResult r (λ _. Appends before after out_of_memory) (λ _. WritesBeginning before after out_of_memory) → AnswersLine answers refuses line before after s t r
  line_refused line before after s t r some utf8 said put =
      line_put line out_of_memory before after s t r (refused [] some utf8 said no_line) put

  -- ---- the loop

  pub prefix_none : (input before : Option (List ℕ)) (s : S) → AnswersPrefix answers refuses input input before before s s
  prefix_none input before s = ([], [], takes_none input, no_line, Appends-nil before)

  pub prefix_more : (input old new before mid after : Option (List ℕ)) (s m t : S) (line asked : List ℕ) → AnswersPrefix answers refuses input old before mid s m
      → TakesLines old (line ∷ []) new → asked ≡ line → AnswersLine answers refuses asked mid after m t (Ok tt) → AnswersPrefix answers refuses input new before after s t
  prefix_more input old new before mid after s m t line asked (lines, output, taken, said, wrote) next e h =
      let (text, here, put) = subst (λ l. AnswersLine answers refuses l mid after m t (Ok tt)) e h in (
        lines ++ line ∷ [],
        output ++ text,
        takes_more input old new lines (line ∷ []) taken next,
        answered_append s m t lines (line ∷ []) output text said here,
        Appends-trans before mid after output text wrote put,
      )

-- a run that stops at a fault of a read
pub stopped_in_read : {S : Type 0} (answers : S → List ℕ → List ℕ → S → Type 0) (refuses : S → List ℕ → S → Type 0) (input left before after : Option (List ℕ)) (s t : S) (r : Result (Unit {0}) RunFault) (fault : RunFault) → IsErrAnd r (λ e. e ≡ fault) → IsReadFault fault → StopsInRead answers refuses input left before after s t → Ran answers refuses input left before after s t r
stopped_in_read answers refuses input left before after s t r Read is h stops = subst (λ r. Ran answers refuses input left before after s t r) (sym (failed_as r Read is)) stops
stopped_in_read answers refuses input left before after s t r Memory is h stops = subst (λ r. Ran answers refuses input left before after s t r) (sym (failed_as r Memory is)) stops
stopped_in_read answers refuses input left before after s t r Write is h stops = absurd h
stopped_in_read answers refuses input left before after s t r NotText is h stops = absurd h
