-- A tree's entries after the value of one of them is changed.
use Rattle.std.specs.Prelude.{◌≡◌, Bool, List, [], ◌∷◌, IsTrue}
use denote.Ref.{MutBor}
use denote.Param.Members.{Shared}
use Rattle.std.specs.List.Sorted.{IsPermutation}
use Rattle.comemo_base.specs.Tree.{Stored}

-- the path has exactly these answers in order, up to equality
abbrev pub HasAnswers : {C R : Type 0} → (R → R → Bool) → List (C × R) → List R → Type 0
HasAnswers same [] [] = Unit {0}
HasAnswers same [] (answer ∷ answers) = ⊥
HasAnswers same (p ∷ ps) [] = ⊥
HasAnswers same (p ∷ ps) (answer ∷ answers) = IsTrue (same p.1 answer) × HasAnswers same ps answers

-- a call of the closure with a value may turn it into this one
pub record LeavesAt {F T : Type 0} (g : Shared F (MutBor T × Unit {0}) (Unit {0} × (MutBor T × Unit {0}))) (f : F) (old new : T) : Type 0 where
  pub shown : MutBor T
  pub shows : shown.now ≡ old
  pub left : MutBor T
  pub met : g.post f (shown, tt) (tt, (left, tt))
  pub leaves : left.now ≡ new

-- the entry under the key whose path has exactly these answers has a changed value, and the other entries are unchanged, in any
-- order
pub record Changes {K C R T : Type 0} (same : R → R → Bool) (eqk : K → K → Bool) (leaves : T → T → Type 0) (key : K) (answers : List R) (old new : List (Stored K C R T)) : Type 0 where
  pub entry : Stored K C R T
  pub others : List (Stored K C R T)
  pub before : IsPermutation (entry ∷ others) old
  pub under_key : IsTrue (eqk entry.key key)
  pub has_answers : HasAnswers same entry.path answers
  pub value : T
  pub left : leaves entry.value value
  pub after : IsPermutation (record entry { value = value } ∷ others) new
