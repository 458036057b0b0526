-- What a program's start does: its status and its message.
use Rattle.std.specs.Prelude.{◌≡◌, ℕ, List, [], ◌++◌, take, Option, Result, Ok, Err, codes}
use Rattle.std.specs.Io.KnownBytes.{Appends}
use Rattle.calc_lines.specs.Runs.{Ran}
use Rattle.calc_lines.specs.declared.fault.RunFault.{RunFault}
use Rattle.calc_lines.specs.declared.fault.RunFault.TheVariants.{Read, Write, Memory, NotText}

-- the text of a fault's message after the program's name
abbrev pub fault_text : RunFault → List ℕ
fault_text Read = codes ": cannot read\n"
fault_text Write = codes ": cannot write\n"
fault_text Memory = codes ": out of memory\n"
fault_text NotText = codes ": not UTF-8\n"

-- the message of the program of this name after a run that ended so
abbrev pub message_of : List ℕ → Result (Unit {0}) RunFault → List ℕ
message_of name (Ok _) = []
message_of name (Err fault) = name ++ fault_text fault

-- the message of the program of this name when it gets arguments
abbrev pub usage_of : List ℕ → List ℕ
usage_of name = codes "usage: " ++ name ++ codes "\n"

-- the exit status after a run that ended so
abbrev pub status_of : Result (Unit {0}) RunFault → ℕ
status_of (Ok _) = 0
status_of (Err _) = 1

-- a prefix of these bytes, perhaps all, is appended to what was written, if that is known
abbrev pub WritesPrefix : Option (List ℕ) → Option (List ℕ) → List ℕ → Type 0
WritesPrefix old new bytes = (k : ℕ) × Appends old new (take k bytes)

-- the program of this name, without arguments, ran and ended with this status, and wrote the fault's message as far as it could
abbrev pub RanAs : {S : Type 0} → (S → List ℕ → List ℕ → S → Type 0) → (S → List ℕ → S → Type 0)
    → List ℕ → Option (List ℕ) → Option (List ℕ) → Option (List ℕ) → Option (List ℕ) → Option (List ℕ) → Option (List ℕ) → S → S → ℕ → Type 0
RanAs answers refuses name input left before after silent said s t status =
    (outcome : Result (Unit {0}) RunFault) × Ran answers refuses input left before after s t outcome
    × (status ≡ status_of outcome) × WritesPrefix silent said (message_of name outcome)
