-- What the program of the rows prints, and its status.
use Rattle.std.specs.Prelude.{◌≡◌, ℕ, ◌<◌, ◌≤◌, ◌^◌, List, [], ◌∷◌, ◌++◌, Bool, true, false, Option, None, Some, IfSome, Contains, String, codes, decimal, string_bytes, bytes_eq}
use Rattle.std.specs.Str.Parse.{IsNumeral, digits_value}
use Rattle.std.specs.Global.{Global}
use Rattle.calc_lines.specs.Started.{WritesPrefix}

-- whether the arguments ask for the rows
abbrev pub asks_for_rows : List (String Global) → Bool
asks_for_rows (word ∷ []) = bytes_eq (string_bytes word) (codes "rows")
asks_for_rows _ = false

-- the text is at least one digit and nothing else, denotes n, and fits in a `u64`
abbrev pub IsNumber : List ℕ → ℕ → Type 0
IsNumber digits n = IsNumeral 10 digits × (digits_value 10 digits ≡ n) × (n < 2 ^ 64)

-- the arguments ask for this many steps from a seed
abbrev pub AsksForFuzz : List (String Global) → ℕ → ℕ → Type 0
AsksForFuzz (word ∷ first ∷ second ∷ []) seed steps =
    (bytes_eq (string_bytes word) (codes "fuzz") ≡ true) × IsNumber (string_bytes first) seed × IsNumber (string_bytes second) steps × (steps < 2 ^ 32)
AsksForFuzz _ seed steps = ⊥

-- the arguments ask for this many workers, and this many calls of each
abbrev pub AsksForThreads : List (String Global) → ℕ → ℕ → Type 0
AsksForThreads (word ∷ first ∷ second ∷ []) workers calls =
    (bytes_eq (string_bytes word) (codes "threads") ≡ true) × IsNumber (string_bytes first) workers × IsNumber (string_bytes second) calls × (1 ≤ workers) × (workers ≤ 16) × (calls < 2 ^ 32)
AsksForThreads _ workers calls = ⊥

-- the arguments ask for none of these
abbrev pub AsksForNothing : List (String Global) → Type 0
AsksForNothing words = (asks_for_rows words ≡ false) × ((seed steps : ℕ) → ¬ AsksForFuzz words seed steps) × ((workers calls : ℕ) → ¬ AsksForThreads words workers calls)

-- the numbers of the rows that run, in their order
abbrev pub row_numbers : List (List ℕ)
row_numbers =
    codes "1" ∷ codes "2" ∷ codes "3" ∷ codes "4" ∷ codes "5" ∷ codes "6" ∷ codes "7" ∷ codes "8" ∷ codes "9"
    ∷ codes "10" ∷ codes "11" ∷ codes "12" ∷ codes "13" ∷ codes "14" ∷ codes "15" ∷ codes "16" ∷ codes "17" ∷ codes "18"
    ∷ codes "19" ∷ codes "21" ∷ codes "22" ∷ codes "23" ∷ codes "24" ∷ codes "25" ∷ codes "R8" ∷ codes "R10"
    ∷ codes "R11" ∷ codes "R12" ∷ codes "R13" ∷ codes "R14" ∷ codes "R15" ∷ []

-- what is printed if the row of this number failed first, or none did
abbrev pub verdict : Option (List ℕ) → List ℕ
verdict None = codes "rows ok\n"
verdict (Some number) = codes "row " ++ number ++ codes " failed\n"

-- the exit status for that
abbrev pub status_of : Option (List ℕ) → ℕ
status_of None = 0
status_of (Some number) = 1

-- one of these rows failed first, or none did, and the status and what was written, as far as the device took it, say so
abbrev pub RanRows : Option (List ℕ) → Option (List ℕ) → ℕ → Type 0
RanRows before after status =
    (failed : Option (List ℕ)) × IfSome failed (Contains row_numbers) × (status ≡ status_of failed) × WritesPrefix before after (verdict failed)

-- what is printed if this step is the first with different replies, or there is none
abbrev pub fuzz_verdict : Option ℕ → List ℕ
fuzz_verdict None = codes "fuzz ok\n"
fuzz_verdict (Some step) = codes "step " ++ decimal step ++ codes " failed\n"

-- the exit status for that
abbrev pub fuzz_status : Option ℕ → ℕ
fuzz_status None = 0
fuzz_status (Some step) = 1

-- one of these steps failed first, or none did, and the status and what was written, as far as the device took it, say so
abbrev pub RanFuzz : ℕ → Option (List ℕ) → Option (List ℕ) → ℕ → Type 0
RanFuzz steps before after status =
    (failed : Option ℕ) × IfSome failed (λ step. (1 ≤ step) × (step ≤ steps)) × (status ≡ fuzz_status failed) × WritesPrefix before after (fuzz_verdict failed)

-- what is printed if all outputs of the workers were right, or some weren't
abbrev pub threads_verdict : Bool → List ℕ
threads_verdict true = codes "threads ok\n"
threads_verdict false = codes "threads failed\n"

-- the exit status for that
abbrev pub threads_status : Bool → ℕ
threads_status true = 0
threads_status false = 1

-- the outputs were right or weren't, and the status and what was written, as far as the device took it, say so
abbrev pub RanThreads : Option (List ℕ) → Option (List ℕ) → ℕ → Type 0
RanThreads before after status =
    (right : Bool) × (status ≡ threads_status right) × WritesPrefix before after (threads_verdict right)

-- what is written for arguments that ask for none of these
abbrev pub usage : List ℕ
usage = codes "usage: bench rows | fuzz SEED STEPS | threads WORKERS CALLS\n"
