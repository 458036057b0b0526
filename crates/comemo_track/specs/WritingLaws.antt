-- Proofs of the laws that the traits demand of writes. A reader needn't trust them.
use Rattle.std.proofs.Common.{◌≡◌, Bool, true, false, ◌||◌, List, [], ◌∷◌, ◌++◌, IsTrue, refl, sym, subst}
use Rattle.std.specs.Cmp.{IsEquivalence}
use Rattle.comemo_base.proofs.Paths.{joined}
use Rattle.comemo_track.specs.Writing.{SameReads, Done, touched_by}

-- if `a || b` is false, so are both
pub neither : (a b : Bool) → (a || b) ≡ false → (a ≡ false) × (b ≡ false)
neither true b h = let no : true ≡ false = h in cc
neither false b h = (refl, h)

module _ {S C R : Type 0} (wrote : S → C → S → Type 0) (w : C → Bool) (touches : C → C → Bool) (same : R → R → Bool) (answers : S → C → R) where
  -- writes in two parts are the writes joined
  pub done_both : (s t u : S) (V W : List C) → Done wrote w touches same answers s t V → Done wrote w touches same answers t u W → Done wrote w touches same answers s u (V ++ W)
  done_both s t u [] W a b = subst (λ x. Done wrote w touches same answers x u W) a b
  done_both s t u (call ∷ V) W a b = (a.0, a.1, done_both a.0 t u V W a.2 b)

  -- a read that no write touches keeps its answer
  pub done_keeps : IsEquivalence same → (s t : S) (W : List C) → Done wrote w touches same answers s t W → SameReads w (touched_by touches W) same (answers s) (answers t)
  done_keeps laws s t [] a call read un = subst (λ x. IsTrue (same (answers s call) (answers x call))) (sym a) (laws.refl (answers s call))
  done_keeps laws s t (c ∷ W) a call read un =
      let un2 = neither (touches c call) (touched_by touches W call) un in
      joined laws (answers s call) (answers a.0 call) (answers t call) (a.1.reads call read un2.0) (done_keeps laws a.0 t W a.2 call read un2.1)
