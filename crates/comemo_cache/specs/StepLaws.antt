-- A list's answers treat equal calls alike. A reader needn't trust this.
use Rattle.std.proofs.Common.{◌≡◌, Bool, cond, List, [], ◌∷◌, IsTrue, Some, refl, ap, subst}
use Rattle.std.specs.Cmp.{IsEquivalence}
use Rattle.std.specs.Map.{lookup}
use Rattle.std.specs.Option.{unwrap_or}
use Rattle.comemo_base.specs.Answers.{Respects}
use Rattle.comemo_cache.specs.Steps.{listed}

module _ {C R : Type 0} {eq : C → C → Bool} {same : R → R → Bool} (calls : IsEquivalence eq) (answers : IsEquivalence same) where
  lookup_alike : (pairs : List (C × R)) (c d : C) → IsTrue (eq c d) → lookup (eq c) pairs ≡ lookup (eq d) pairs
  lookup_alike [] c d e = refl
  lookup_alike (p ∷ pairs) c d e =
      let here : eq c p.0 ≡ eq d p.0 = calls.congr c d p.0 e in
      rw here (ap (λ rest. cond (eq d p.0) (Some p.1) rest) (lookup_alike pairs c d e))

  pub listed_alike : (pairs : List (C × R)) (other : R) → Respects eq same (listed eq pairs other)
  listed_alike pairs other = λ c d e. subst (λ r. IsTrue (same (listed eq pairs other c) r)) (ap (λ o. unwrap_or o other) (lookup_alike pairs c d e)) (answers.refl (listed eq pairs other c))
