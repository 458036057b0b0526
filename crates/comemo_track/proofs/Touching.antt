-- Which reads writes touch.
use Rattle.std.proofs.Common.{◌≡◌, Bool, true, false, ◌||◌, List, [], ◌∷◌, ◌++◌, refl, ap, ◌∙◌}
use Rattle.std.proofs.lemmas.List.Folds.{list_any-append}
use Rattle.comemo_track.specs.Writing.{touched, touched_by}

or_true : (a : Bool) → (a || true) ≡ true
or_true true = refl
or_true false = refl

module _ {C R : Type 0} (touches : C → C → Bool) (W : List C) where
  -- one that is touched is enough
  pub touched_at : (prefix : List (C × R)) (p : C × R) (rest : List (C × R)) → touched_by touches W p.0 ≡ true → touched touches W (prefix ++ p ∷ rest) ≡ true
  touched_at [] p rest h = ap (λ b. b || touched touches W rest) h
  touched_at (q ∷ prefix) p rest h = ap (λ b. touched_by touches W q.0 || b) (touched_at prefix p rest h) ∙ or_true (touched_by touches W q.0)

  -- one more that isn't
  pub untouched_push : (prefix : List (C × R)) (p : C × R) → touched touches W prefix ≡ false → touched_by touches W p.0 ≡ false → touched touches W (prefix ++ p ∷ []) ≡ false
  untouched_push prefix p none h =
      list_any-append (λ (q : C × R). touched_by touches W q.0) prefix (p ∷ [])
      ∙ ap (λ b. b || touched touches W (p ∷ [])) none
      ∙ ap (λ b. b || false) h

-- no write touches none
pub untouched_by_none : {C R : Type 0} (touches : C → C → Bool) (P : List (C × R)) → touched touches [] P ≡ false
untouched_by_none touches [] = refl
untouched_by_none touches (p ∷ P) = untouched_by_none touches P
