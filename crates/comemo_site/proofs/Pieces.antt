-- A loop over bytes that appends what each gives.
use Rattle.std.proofs.Common.{◌≡◌, ◌∙◌, ℕ, ◌+◌, ◌<◌, List, [], ◌++◌, length, take, get_or, sym, ap, append_assoc}
use Rattle.std.specs.List.{fold}
use Rattle.std.proofs.lemmas.List.Sums.{fold_more}

-- its step
pub appended_more : (each : ℕ → List ℕ) (prefix old new : List ℕ) (bytes : List ℕ) (i : ℕ) → i < length bytes → old ≡ prefix ++ fold (λ all byte. all ++ each byte) [] (take i bytes) → new ≡ old ++ each (get_or bytes i 0) → new ≡ prefix ++ fold (λ all byte. all ++ each byte) [] (take (i + 1) bytes)
appended_more each prefix old new bytes i lt was is = is ∙ ap (λ l. l ++ each (get_or bytes i 0)) was ∙ append_assoc prefix (fold (λ all byte. all ++ each byte) [] (take i bytes)) (each (get_or bytes i 0)) ∙ ap (λ l. prefix ++ l) (sym (fold_more (λ all byte. all ++ each byte) [] bytes i 0 lt))
