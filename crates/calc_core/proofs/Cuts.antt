-- How a script is cut into its first part and the others.
use Rattle.std.proofs.Common.{◌≡◌, ℕ, ◌<◌, List, [], ◌∷◌, map, ap, sym, subst, ◌∙◌, lit<, Some, None, Bor}
use Rattle.std.proofs.Math.Dec.{eqb}
use Rattle.std.specs.Str.{trim}
use Rattle.std.specs.List.{after_first}
use Rattle.std.proofs.lemmas.List.Splits.{slice_split_first, slice_split_none}
use Rattle.std.proofs.lemmas.List.Sums.{fails_before_first}
use Rattle.std.proofs.lemmas.Str.Pattern.{IsSplitOnceResult, split_once_first}
use Rattle.calc_core.specs.Parts.{parts}

-- where a `+` was found, the first part stands before it, and the others after it
pub parts_first : (bs : List ℕ) (found : Bor (List ℕ) × Bor (List ℕ)) → IsSplitOnceResult 43 bs (Some found) → parts bs ≡ trim found.0.now ∷ parts found.1.now
parts_first bs found h =
    let (some, prefix, back) = split_once_first 43 bs (Some found) h (lit< tt) in
    ap (map trim) (slice_split_first (λ b. eqb b 43) bs 0 some) ∙ ap (λ l. trim l ∷ parts (after_first (λ b. eqb b 43) bs)) (sym prefix)
    ∙ ap (λ l. trim found.0.now ∷ parts l) (sym back)

-- where none was found, all is one part
pub parts_last : (bs : List ℕ) → IsSplitOnceResult 43 bs None → parts bs ≡ trim bs ∷ []
parts_last bs h =
    let none = split_once_first 43 bs None h (lit< tt) in
    ap (map trim) (slice_split_none (λ b. eqb b 43) bs (λ k d low. fails_before_first (λ b. eqb b 43) bs k d (subst (λ n. k < n) (sym none) low)))
