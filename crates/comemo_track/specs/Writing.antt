-- What writes do to a value.
use Rattle.std.specs.Borrow.{MutBor}
use Rattle.std.specs.Prelude.{◌≡◌, Bool, false, List, [], ◌∷◌, IsTrue}
use Rattle.std.specs.List.{list_any}

-- whether one of these writes touches the read
abbrev pub touched_by : {C : Type 0} → (C → C → Bool) → List C → C → Bool
touched_by touches W call = list_any (λ c. touches c call) W

-- whether one of these writes touches one of these reads
abbrev pub touched : {C R : Type 0} → (C → C → Bool) → List C → List (C × R) → Bool
touched touches W P = list_any (λ p. touched_by touches W p.0) P

-- only touched reads may have other answers
abbrev pub SameReads : {C R : Type 0} → (C → Bool) → (C → Bool) → (R → R → Bool) → (C → R) → (C → R) → Type 0
SameReads {C} w reached same m n = (call : C) → w call ≡ false → reached call ≡ false → IsTrue (same (m call) (n call))

module _ {S C R : Type 0} (wrote : S → C → S → Type 0) (w : C → Bool) (touches : C → C → Bool) (same : R → R → Bool) (answers : S → C → R) where
  -- t is s after this write, which changed no answer of a read that it doesn't touch
  pub record Writes (s : S) (call : C) (t : S) : Type 0 where
    pub did : wrote s call t
    pub reads : SameReads w (touches call) same (answers s) (answers t)

  -- t is s after these writes, in order
  abbrev pub Done : S → S → List C → Type 0
  Done s t [] = t ≡ s
  Done s t (call ∷ calls) = (mid : S) × Writes s call mid × Done mid t calls

-- the value borrowed as s became t, in the same place, by this write
abbrev pub WroteAt : {S C : Type 0} → (S → C → S → Type 0) → MutBor S → C → MutBor S → Type 0
WroteAt wrote s call t = wrote s.now call t.now × (t.ghost_name ≡ s.ghost_name)
