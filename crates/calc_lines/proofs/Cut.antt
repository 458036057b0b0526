-- The first line of an input ends at the first line feed; lines are taken one by one.
use Rattle.std.proofs.Common.{Bool, Option, None, Some, IfSome, slice_index, slice_index_or, ◌≡◌, ◌≢◌, ℕ, ◌-◌, ◌<◌, List, [], ◌∷◌, ◌++◌, ◌⊎◌, inl, inr, true, false, eqb, cond, length, take, subst, sym, ap, refl, ◌∙◌, append-nil, arith, length-append}
use Rattle.std.proofs.lemmas.Bool.Decides.{eqb_tells, nat_tests}
use Rattle.std.proofs.lemmas.List.Elements.{All-nil, All-cons}
use Rattle.std.proofs.lemmas.Grind.{common_steps}
use Rattle.std.proofs.BufReadLemmas.{take_through-append, drop_through-append, take_through_nonempty, Consumes_through}
use Rattle.std.specs.Io.{StopsAt}
use Rattle.std.specs.Io.KnownBytes.{Consumes}
use Rattle.std.specs.Io.BufRead.{first_line, drop_through, take_through, strip_last, ends_with_byte, DropsThrough}
use Rattle.std.proofs.KnownBytes.{Consumes-nil}
use Rattle.std.proofs.Transfers.{All-of_StopsAt}
use Rattle.calc_lines.specs.Lines.{FirstLines, no_line, last_line, one_line, HasNoLineFeed, TakesLines, without_line_end}

-- the first line feed of these bytes, or none
abbrev Cut : List ℕ → Type 0
Cut bytes = ((line : List ℕ) × (rest : List ℕ) × HasNoLineFeed line × (bytes ≡ line ++ 10 ∷ rest)) ⊎ HasNoLineFeed bytes

cut_at : (x : ℕ) (xs : List ℕ) → ((eqb x 10 ≡ true) × (x ≡ 10)) ⊎ ((eqb x 10 ≡ false) × (x ≢ 10)) → Cut xs → Cut (x ∷ xs)
cut_at x xs (inl (_, e)) _ = inl ([], xs, All-nil _, ap (λ y. y ∷ xs) e)
cut_at x xs (inr (_, ne)) (inl (line, rest, clear, e)) = inl (x ∷ line, rest, All-cons (λ y. y ≢ 10) x line ne clear, ap (λ l. x ∷ l) e)
cut_at x xs (inr (_, ne)) (inr clear) = inr (All-cons (λ y. y ≢ 10) x xs ne clear)

cut : (bytes : List ℕ) → Cut bytes
cut [] = inr (All-nil _)
cut (x ∷ xs) = cut_at x xs (eqb_tells x 10) (cut xs)

ends_at : (line : List ℕ) → ends_with_byte 10 (line ++ 10 ∷ []) ≡ true
ends_at line = grind (arith, nat_tests, common_steps)

strips : (line : List ℕ) → strip_last 10 (line ++ 10 ∷ []) ≡ line
strips line = grind (arith, nat_tests, common_steps, ends_at line)

no_end : (bytes : List ℕ) → HasNoLineFeed bytes → ends_with_byte 10 bytes ≡ false
no_end bytes clear = grind (arith, nat_tests, common_steps, clear (length bytes - 1) 0)

first_at : (bytes line : List ℕ) → take_through 10 bytes ≡ line ++ 10 ∷ [] → first_line bytes ≡ strip_last 13 line
first_at bytes line e =
    let through = line ++ 10 ∷ [] in
    ap (λ t. cond (ends_with_byte 10 t) (strip_last 13 (strip_last 10 t)) (strip_last 10 t)) e
    ∙ ap (λ b. cond b (strip_last 13 (strip_last 10 through)) (strip_last 10 through)) (ends_at line)
    ∙ ap (strip_last 13) (strips line)

first_all : (bytes : List ℕ) → take_through 10 bytes ≡ bytes → ends_with_byte 10 bytes ≡ false → first_line bytes ≡ bytes
first_all bytes e none =
    ap (λ t. cond (ends_with_byte 10 t) (strip_last 13 (strip_last 10 t)) (strip_last 10 t)) e
    ∙ ap (λ b. cond b (strip_last 13 (strip_last 10 bytes)) (strip_last 10 bytes)) none
    ∙ ap (λ b. cond b (take (length bytes - 1) bytes) bytes) none

-- nothing begins with no lines, and nothing is left of it
nothing_more : {bytes : List ℕ} {lines : List (List ℕ)} {left : List ℕ} → bytes ≡ [] → FirstLines bytes lines left → (lines ≡ []) × (left ≡ [])
nothing_more e no_line = (refl, e)
nothing_more e (last_line line h clear) = absurd (let no : ⊥ = omega (arith, ap length e) in no)
nothing_more e (one_line line rest clear more) = absurd (let no : ⊥ = omega (arith, ap length e, length-append line (10 ∷ rest)) in no)

-- lines, and then more lines
pub more_lines : {bytes : List ℕ} {lines : List (List ℕ)} {mid : List ℕ} {more : List (List ℕ)} {left : List ℕ} → FirstLines bytes lines mid → FirstLines mid more left → FirstLines bytes (lines ++ more) left
more_lines no_line b = b
more_lines {left = left} (last_line line h clear) b =
    let (none, end) = nothing_more refl b in
    subst (λ ls. FirstLines line (line ∷ ls) left) (sym none) (subst (λ l. FirstLines line (line ∷ []) l) (sym end) (last_line line h clear))
more_lines (one_line line rest clear a) b = one_line line rest clear (more_lines a b)

line_cut : (bytes : List ℕ) → 0 < length bytes → Cut bytes → FirstLines bytes (first_line bytes ∷ []) (drop_through 10 bytes)
line_cut bytes h (inl (line, rest, clear, e)) =
    let taken : take_through 10 bytes ≡ line ++ 10 ∷ [] = ap (take_through 10) e ∙ take_through-append 10 line (10 ∷ rest) clear in
    let left : drop_through 10 bytes ≡ rest = ap (drop_through 10) e ∙ drop_through-append 10 line (10 ∷ rest) clear in
    subst (λ l. FirstLines bytes (first_line bytes ∷ []) l) (sym left) (
    subst (λ l. FirstLines bytes (l ∷ []) rest) (sym (first_at bytes line taken)) (
    subst (λ b. FirstLines b (strip_last 13 line ∷ []) rest) (sym e) (one_line line rest clear no_line)))
line_cut bytes h (inr clear) =
    let taken : take_through 10 bytes ≡ bytes = ap (take_through 10) (sym (append-nil bytes)) ∙ take_through-append 10 bytes [] clear ∙ append-nil bytes in
    let left : drop_through 10 bytes ≡ [] = ap (drop_through 10) (sym (append-nil bytes)) ∙ drop_through-append 10 bytes [] clear in
    subst (λ l. FirstLines bytes (first_line bytes ∷ []) l) (sym left) (
    subst (λ l. FirstLines bytes (l ∷ []) []) (sym (first_all bytes taken (no_end bytes clear))) (last_line bytes h clear))

-- the first line, and what is left
pub one_line_taken : (bytes : List ℕ) → 0 < length bytes → FirstLines bytes (first_line bytes ∷ []) (drop_through 10 bytes)
one_line_taken bytes h = line_cut bytes h (cut bytes)

same_choice : (b : Bool) (x y z : List ℕ) → cond b x (cond b y z) ≡ cond b x z
same_choice true x y z = refl
same_choice false x y z = refl

-- a line that was read up to its line feed, or to the end
pub line_taken : (input left : Option (List ℕ)) (read line : List ℕ) → 0 < length read → IfSome input (λ bytes. read ≡ take_through 10 bytes) → DropsThrough input left 10
    → line ≡ without_line_end read → TakesLines input (line ∷ []) left
line_taken None left read line some is drops e = tt
line_taken (Some bytes) left read line some is drops e =
    let cut : line ≡ first_line bytes = e ∙ ap without_line_end is ∙ sym (same_choice (ends_with_byte 10 (take_through 10 bytes)) _ _ _) in
    subst (TakesLines (Some bytes) (line ∷ [])) (sym drops) (subst (λ l. FirstLines bytes (l ∷ []) (drop_through 10 bytes)) (sym cut)
    (one_line_taken bytes (take_through_nonempty 10 bytes (subst (λ l. 0 < length l) is some))))

-- a line that was read whole by a read that failed
pub whole_line_taken : (input left : Option (List ℕ)) (read line : List ℕ) → Consumes input left read → StopsAt read 10 → ends_with_byte 10 read ≡ true
    → line ≡ without_line_end read → TakesLines input (line ∷ []) left
whole_line_taken input left read line taken stops ended e =
    let some : 0 < length read = grind (arith, nat_tests, common_steps, ended) in
    let last : slice_index read (length read - 1) ≡ 10 = grind (arith, nat_tests, common_steps, ended) in
    let through = Consumes_through 10 input input left [] read (Consumes-nil input) (All-nil _) taken stops (λ _. last) (λ none. absurd (let no : ⊥ = omega (arith, none, some) in no)) in
    line_taken input left read line some through.0 through.1 e

-- what was read has no line feed, where it stopped at none
pub clear_of : (read : List ℕ) → StopsAt read 10 → ends_with_byte 10 read ≡ false → HasNoLineFeed read
clear_of [] stops none = All-nil _
clear_of (x ∷ xs) stops none =
    let all = x ∷ xs in
    let last : slice_index_or all (length all - 1) x ≢ 10 = grind (arith, nat_tests, common_steps, none) in
    All-of_StopsAt all 10 (length all) (slice_index_or all (length all - 1) x) refl (omega arith) (grind (arith, common_steps)) last stops
