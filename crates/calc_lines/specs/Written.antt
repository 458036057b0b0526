-- What an interrupted write leaves, and what one line writes.
use Rattle.std.specs.Prelude.{ℕ, ◌<◌, List, [], ◌∷◌, length, take, Option, Result, Ok, Err}
use Rattle.std.specs.Io.KnownBytes.{Appends}
use Rattle.calc_lines.specs.Answers.{Answered}
use Rattle.calc_lines.specs.declared.fault.RunFault.{RunFault}

-- a proper prefix of these bytes is appended to what was written, if that is known
abbrev pub WritesBeginning : Option (List ℕ) → Option (List ℕ) → List ℕ → Type 0
WritesBeginning old new bytes = (k : ℕ) × (k < length bytes) × Appends old new (take k bytes)

-- one line led the session from s to t, and what it prints was written or, after a fault, a proper prefix of it
abbrev pub AnswersLine : {S : Type 0} → (S → List ℕ → List ℕ → S → Type 0) → (S → List ℕ → S → Type 0)
    → List ℕ → Option (List ℕ) → Option (List ℕ) → S → S → Result (Unit {0}) RunFault → Type 0
AnswersLine answers refuses line before after s t (Ok _) = (text : List ℕ) × Answered answers refuses s (line ∷ []) text t × Appends before after text
AnswersLine answers refuses line before after s t (Err _) = (text : List ℕ) × Answered answers refuses s (line ∷ []) text t × WritesBeginning before after text
