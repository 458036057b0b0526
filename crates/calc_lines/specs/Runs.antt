-- What a run read and wrote, and the state of the session afterwards, for each way in which it ended.
use Rattle.std.specs.Prelude.{ℕ, List, [], ◌∷◌, Option, Result, Ok, Err, IsUtf8}
use Rattle.std.specs.Io.KnownBytes.{Appends}
use Rattle.calc_lines.specs.Lines.{TakesLines, BeginsLine, MeetsEnd}
use Rattle.calc_lines.specs.Answers.{Answered}
use Rattle.calc_lines.specs.Written.{WritesBeginning}
use Rattle.calc_lines.specs.declared.fault.RunFault.{RunFault}
use Rattle.calc_lines.specs.declared.fault.RunFault.TheVariants.{Read, Write, Memory, NotText}

-- the lines taken from the input, up to this rest, led the session from s to t, and what they print was written
abbrev pub AnswersPrefix : {S : Type 0} → (S → List ℕ → List ℕ → S → Type 0) → (S → List ℕ → S → Type 0)
    → Option (List ℕ) → Option (List ℕ) → Option (List ℕ) → Option (List ℕ) → S → S → Type 0
AnswersPrefix answers refuses input rest before after s t =
    (lines : List (List ℕ)) × (output : List ℕ) × TakesLines input lines rest
    × Answered answers refuses s lines output t × Appends before after output

-- all lines were answered
abbrev pub AnswersAll : {S : Type 0} → (S → List ℕ → List ℕ → S → Type 0) → (S → List ℕ → S → Type 0)
    → Option (List ℕ) → Option (List ℕ) → Option (List ℕ) → Option (List ℕ) → S → S → Type 0
AnswersAll answers refuses input left before after s t =
    (rest : Option (List ℕ)) × AnswersPrefix answers refuses input rest before after s t × MeetsEnd rest left

-- all lines that were read were answered; then a read failed, with at most a prefix of a line
abbrev pub StopsInRead : {S : Type 0} → (S → List ℕ → List ℕ → S → Type 0) → (S → List ℕ → S → Type 0)
    → Option (List ℕ) → Option (List ℕ) → Option (List ℕ) → Option (List ℕ) → S → S → Type 0
StopsInRead answers refuses input left before after s t =
    (rest : Option (List ℕ)) × AnswersPrefix answers refuses input rest before after s t × BeginsLine rest left

-- all lines that were read were answered but the last one, which is not UTF-8
abbrev pub StopsAtNoText : {S : Type 0} → (S → List ℕ → List ℕ → S → Type 0) → (S → List ℕ → S → Type 0)
    → Option (List ℕ) → Option (List ℕ) → Option (List ℕ) → Option (List ℕ) → S → S → Type 0
StopsAtNoText answers refuses input left before after s t =
    (rest : Option (List ℕ)) × (last : List ℕ) × AnswersPrefix answers refuses input rest before after s t
    × TakesLines rest (last ∷ []) left × (IsUtf8 last → ⊥)

-- all lines that were read were answered, and a proper prefix of what the last one prints was written
abbrev pub StopsInText : {S : Type 0} → (S → List ℕ → List ℕ → S → Type 0) → (S → List ℕ → S → Type 0)
    → Option (List ℕ) → Option (List ℕ) → Option (List ℕ) → Option (List ℕ) → S → S → Type 0
StopsInText {S} answers refuses input left before after s t =
    (rest written : Option (List ℕ)) × (m : S) × (last text : List ℕ) × AnswersPrefix answers refuses input rest before written s m
    × TakesLines rest (last ∷ []) left × Answered answers refuses m (last ∷ []) text t × WritesBeginning written after text

-- the state after a run that ended so: the rest of the input, what was written, and the session
abbrev pub Ran : {S : Type 0} → (S → List ℕ → List ℕ → S → Type 0) → (S → List ℕ → S → Type 0)
    → Option (List ℕ) → Option (List ℕ) → Option (List ℕ) → Option (List ℕ) → S → S → Result (Unit {0}) RunFault → Type 0
Ran answers refuses input left before after s t (Ok _) = AnswersAll answers refuses input left before after s t
Ran answers refuses input left before after s t (Err Read) = StopsInRead answers refuses input left before after s t
Ran answers refuses input left before after s t (Err Memory) = StopsInRead answers refuses input left before after s t
Ran answers refuses input left before after s t (Err NotText) = StopsAtNoText answers refuses input left before after s t
Ran answers refuses input left before after s t (Err Write) = StopsInText answers refuses input left before after s t
