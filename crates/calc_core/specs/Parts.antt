-- The parts of a script, as lists of bytes.
use Rattle.std.specs.Prelude.{◌≡◌, ◌≢◌, ℕ, ◌==◌, List, [], ◌++◌, map, ℤ, codes, FitsSigned, Option, None, Some}
use Rattle.std.specs.Borrow.{Bor}
use Rattle.std.specs.List.{slice_split}
use Rattle.std.specs.Str.{trim}
use Rattle.std.specs.Str.Parse.{IsNumeral, without_leading_sign, signed_digits_value}
use Rattle.std.specs.Int.{w32}

-- the parts, cut at each `+`, without white space at their ends
abbrev pub parts : List ℕ → List (List ℕ)
parts script = map trim (slice_split (λ b. b == 43) script)

-- the parts of what is left of a script, of which the last part may be gone
abbrev pub left : Option (Bor (List ℕ)) → List (List ℕ)
left (Some text) = parts text.now
left None = []

-- the part begins with `eval ` and names this path
abbrev pub IsEval : List ℕ → List ℕ → Type 0
IsEval part path = part ≡ codes "eval " ++ path

abbrev pub IsNoEval : List ℕ → Type 0
IsNoEval part = (path : List ℕ) → part ≢ codes "eval " ++ path

-- the part is a number of 32 bits: at most one sign, then digits
abbrev pub HasNumber : List ℕ → Type 0
HasNumber part = IsNumeral 10 (without_leading_sign part) × FitsSigned w32 (signed_digits_value 10 part)

-- the part is this number
abbrev pub IsNumber : List ℕ → ℤ → Type 0
IsNumber part n = IsNoEval part × HasNumber part × (n ≡ signed_digits_value 10 part)

-- the part is neither
abbrev pub IsBad : List ℕ → Type 0
IsBad part = IsNoEval part × ¬ (HasNumber part)
