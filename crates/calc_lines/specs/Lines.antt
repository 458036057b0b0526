-- The lines of an input.
use Rattle.std.specs.Prelude.{◌≡◌, ◌≢◌, ℕ, ◌<◌, List, [], ◌∷◌, ◌++◌, length, All, Option, None, Some, IfSome, if◌then◌else◌}
use Rattle.std.specs.Io.BufRead.{strip_last, ends_with_byte}
use Rattle.std.specs.Io.KnownBytes.{Consumes}
use Rattle.calc_lines.specs.declared.fault.RunFault.{RunFault}
use Rattle.calc_lines.specs.declared.fault.RunFault.TheVariants.{Read, Write, Memory, NotText}

-- no line feed is among these bytes
abbrev pub HasNoLineFeed : List ℕ → Type 0
HasNoLineFeed bytes = All (λ byte. byte ≢ 10) bytes

-- these bytes begin with these lines, and those are left: a line ends at its line feed, one carriage return right before that is no part of it, and a last line may lack its end
pub data FirstLines : List ℕ → List (List ℕ) → List ℕ → Type 0 where
  no_line : {bytes : List ℕ} → FirstLines bytes [] bytes
  last_line : (line : List ℕ) → 0 < length line → HasNoLineFeed line → FirstLines line (line ∷ []) []
  one_line : (line rest : List ℕ) {lines : List (List ℕ)} {left : List ℕ} → HasNoLineFeed line → FirstLines rest lines left → FirstLines (line ++ 10 ∷ rest) (strip_last 13 line ∷ lines) left

-- these lines were taken from an input, if its bytes are known
abbrev pub TakesLines : Option (List ℕ) → List (List ℕ) → Option (List ℕ) → Type 0
TakesLines None lines left = Unit {0}
TakesLines (Some bytes) lines None = ⊥
TakesLines (Some bytes) lines (Some left) = FirstLines bytes lines left

-- at most a prefix of a line was taken from an input, if its bytes are known
abbrev pub BeginsLine : Option (List ℕ) → Option (List ℕ) → Type 0
BeginsLine input left = (begun : List ℕ) × HasNoLineFeed begun × Consumes input left begun

-- an input is at its end, if its bytes are known
abbrev pub MeetsEnd : Option (List ℕ) → Option (List ℕ) → Type 0
MeetsEnd input left = IfSome input (λ bytes. (bytes ≡ []) × (left ≡ Some []))

-- a line that was read, without a line feed at its end and one carriage return before that
abbrev pub without_line_end : List ℕ → List ℕ
without_line_end bytes = if ends_with_byte 10 bytes then strip_last 13 (strip_last 10 bytes) else bytes

-- a fault of reading
abbrev pub IsReadFault : RunFault → Type 0
IsReadFault Read = Unit {0}
IsReadFault Memory = Unit {0}
IsReadFault Write = ⊥
IsReadFault NotText = ⊥
