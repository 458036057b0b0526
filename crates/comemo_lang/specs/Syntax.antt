-- The syntax of a module: what its lines declare.
use Rattle.std.specs.Prelude.{ℕ, ◌==◌, nat_lt, Bool, false, ◌&&◌, List, [], ◌∷◌, length, drop, codes, if◌then◌else◌}
use Rattle.std.specs.Char.{is_ascii_alphabetic}
use Rattle.std.specs.List.{flat_map, starts_with, position_or_len, before_first, after_first, slice_split}
use Rattle.std.specs.Str.{trim}
use Rattle.std.specs.Str.Lines.{lines}
use Rattle.comemo_lang.specs.declared.declaration.Declaration.{Declaration}
use Rattle.comemo_lang.specs.declared.declaration.Declaration.TheVariants.{Import, Define}

-- a text begins with a letter, as names do
abbrev pub is_name : List ℕ → Bool
is_name [] = false
is_name (byte ∷ bytes) = is_ascii_alphabetic byte

-- the name that a term is, if it is one
abbrev pub named : List ℕ → List (List ℕ)
named term = if is_name term then term ∷ [] else []

-- a byte is `+`
abbrev pub is_plus : ℕ → Bool
is_plus byte = byte == 43

-- the names in an expression, in order
abbrev pub names_in : List ℕ → List (List ℕ)
names_in expression = flat_map (λ term. named (trim term)) (slice_split is_plus expression)

-- a byte is `=`
abbrev pub is_equals : ℕ → Bool
is_equals byte = byte == 61

-- what a line declares that has no white space around it
abbrev pub declared_by : List ℕ → List Declaration
declared_by line =
    if starts_with ◌==◌ line (codes "import ") then Import (trim (drop 7 line)) ∷ []
    else if is_name line && nat_lt (position_or_len is_equals line) (length line) then Define (trim (before_first is_equals line)) (names_in (after_first is_equals line)) ∷ []
    else []

-- what the lines of a text declare, in order
abbrev pub parsed : List ℕ → List Declaration
parsed text = flat_map (λ line. declared_by (trim line)) (lines text)
