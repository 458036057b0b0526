-- Lists of writes that are equal place by place touch the same reads.
use Rattle.std.proofs.Common.{◌≡◌, Bool, ◌||◌, List, [], ◌∷◌, IsTrue, refl, ap, ◌∙◌}
use Rattle.std.specs.List.{AllZip}
use Rattle.comemo.specs.Tree.{IsSamePath}
use Rattle.comemo.specs.Writing.{touched, touched_by}
use Rattle.comemo_tests.specs.Touching.{TouchesAlike}

module _ {C : Type 0} (eq touches : C → C → Bool) (alike : TouchesAlike eq touches) where
  by_alike : (V W : List C) (r q : C) → AllZip (λ c d. IsTrue (eq c d)) V W → IsTrue (eq r q) → touched_by touches V r ≡ touched_by touches W q
  by_alike [] [] r q z e = refl
  by_alike [] (d ∷ W) r q z e = absurd z
  by_alike (c ∷ V) [] r q z e = absurd z
  by_alike (c ∷ V) (d ∷ W) r q z e = ap (λ b. b || touched_by touches V r) (alike c d r q z.0 e) ∙ ap (λ b. touches d q || b) (by_alike V W r q z.1 e)

  pub alike_touched : {R : Type 0} (same : R → R → Bool) (V W : List C) (ps qs : List (C × R)) → AllZip (λ c d. IsTrue (eq c d)) V W → IsSamePath eq same ps qs → touched touches V ps ≡ touched touches W qs
  alike_touched same V W [] [] z s = refl
  alike_touched same V W [] (q ∷ qs) z s = absurd s
  alike_touched same V W (p ∷ ps) [] z s = absurd s
  alike_touched same V W (p ∷ ps) (q ∷ qs) z s =
      ap (λ b. b || touched touches V ps) (by_alike V W p.0 q.0 z s.0) ∙ ap (λ b. touched_by touches W q.0 || b) (alike_touched same V W ps qs z s.2)
