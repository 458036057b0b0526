-- The first word of a line, and what follows it.
use Rattle.std.proofs.Common.{arith, ◌≡◌, ◌≢◌, ℕ, ◌<◌, List, [], ◌++◌, length, codes, Option, Some, None, Bor, inl, inr}
use Rattle.std.specs.Option.{unwrap_or}
use Rattle.std.proofs.lemmas.List.Elements.{All-from_get_or}
use Rattle.std.proofs.lemmas.Str.Pattern.{IsSplitOnceResult, split_parts}
use Rattle.calc_core.specs.Requests.{IsLineOf, write}

-- what `split_once` found in the line's rest, or else that rest and no text
pub write_of : (line : List ℕ) (rest nothing : Bor (List ℕ)) (found : Option (Bor (List ℕ) × Bor (List ℕ))) (parts : Bor (List ℕ) × Bor (List ℕ)) (path text : List ℕ)
    → line ≡ codes "write " ++ rest.now → nothing.now ≡ [] → IsSplitOnceResult 32 rest.now found → parts ≡ unwrap_or found (rest, nothing)
    → path ≡ parts.0.now → text ≡ parts.1.now → 0 < length path → IsLineOf line (write path text)
write_of line rest nothing None parts path text is none split chosen first second some =
    let clear = split_parts 32 rest.now None split (omega arith) in
    let complete : path ≡ rest.now = rw (first, chosen) in
    ((some, All-from_get_or (λ b. b ≢ 32) path 0 (rw complete clear)), inr (rw complete is, rw (second, chosen) none))
write_of line rest nothing (Some x) parts path text is none split chosen first second some =
    let (cut, clear) = split_parts 32 rest.now (Some x) split (omega arith) in
    ((some, All-from_get_or (λ b. b ≢ 32) path 0 (rw (first, chosen) clear)), inl (rw (is, cut, first, second, chosen)))
