-- Where a link leads, and how the name of a page stands in an address.
use Rattle.std.specs.Prelude.{ℕ, ◌==◌, Bool, ◌||◌, List, [], ◌∷◌, ◌++◌, codes, bytes_eq, if◌then◌else◌}
use Rattle.std.specs.Char.{is_ascii_alphanumeric}
use Rattle.std.specs.List.{fold, list_any, slice_split, starts_with}
use Rattle.percent_encoding.specs.Percent.{percent_encode_byte}

-- a text begins with this mark
abbrev pub begins : List ℕ → List ℕ → Bool
begins mark text = starts_with ◌==◌ text mark

-- a link is an address of another place than its site: it names its scheme
abbrev pub is_outside : List ℕ → Bool
is_outside target = (begins (codes "https:") target || begins (codes "http:") target) || begins (codes "mailto:") target

-- a name leads out of the folder of its site: it begins with a slash, or a part of it is `..`
abbrev pub leads_out : List ℕ → Bool
leads_out name = begins (codes "/") name || list_any (λ part. bytes_eq part (codes "..")) (slice_split (λ byte. byte == 47) name)

-- a byte of a name stands in an address as it is: a letter, a digit or one of these
abbrev pub is_unreserved : ℕ → Bool
is_unreserved byte = is_ascii_alphanumeric byte || list_any (λ other. other == byte) (codes "-._~/")

-- a byte of a name, in an address; `percent_encode_byte` gives a percent sign and two hexadecimal digits
abbrev pub encode : ℕ → List ℕ
encode byte = if is_unreserved byte then byte ∷ [] else percent_encode_byte byte

-- a name in an address
abbrev pub encoded : List ℕ → List ℕ
encoded name = fold (λ all byte. all ++ encode byte) [] name
