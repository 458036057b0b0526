-- A look-up with an oracle that answers one call and fails at every later one.
use Rattle.std.specs.Prelude.{◌≡◌, Bool, List, [], ◌∷◌, ◌⊎◌, IsTrue}
use Rattle.std.specs.List.{All, Any}
use Rattle.comemo_base.specs.Tree.{Stored, IsPrefix}
use Rattle.comemo_base.specs.Lookup.{IsNext}

-- the path has a first pair with the answer, and goes on after it
abbrev pub GoesOnAfter : {C R : Type 0} → (R → R → Bool) → R → List (C × R) → Type 0
GoesOnAfter same answer [] = ⊥
GoesOnAfter same answer (p ∷ []) = ⊥
GoesOnAfter same answer (p ∷ (q ∷ ps)) = IsTrue (same answer p.1)

-- the path has no pair, or one with the answer
abbrev pub IsAnsweredBy : {C R : Type 0} → (R → R → Bool) → R → List (C × R) → Type 0
IsAnsweredBy same answer [] = Unit {0}
IsAnsweredBy same answer (p ∷ []) = IsTrue (same answer p.1)
IsAnsweredBy same answer (p ∷ (q ∷ ps)) = ⊥

-- there is no path; or one begins with a call, and none begins with that call and the answer
abbrev pub LacksAnswer : {C R K T : Type 0} → (C → C → Bool) → (R → R → Bool) → List (Stored K C R T) → R → Type 0
LacksAnswer {C} eq same us answer =
    (us ≡ [])
    ⊎ ((call : C) × Any (λ e. IsNext eq same [] call e.path) us × All (λ e. ¬ IsPrefix eq same ((call, answer) ∷ []) e.path) us)
