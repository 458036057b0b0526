-- A tree's entries after each value was shown to a test, which may change it.
use Rattle.std.specs.Prelude.{◌≡◌, Bool, cond, List, [], ◌∷◌}
use denote.Ref.{MutBor}
use denote.Param.Members.{Shared}
use Rattle.std.specs.List.Sorted.{IsPermutation}
use Rattle.comemo_base.specs.Tree.{Stored, stored}

module _ {K C R T : Type 0} (keeps : T → Bool → T → Type 0) where
  -- each value was shown to the test, which decided whether its entry stays, and perhaps changed the value
  abbrev pub Leaves : List (Stored K C R T) → List (Stored K C R T) → Type 0
  Leaves [] left = left ≡ []
  Leaves (e ∷ es) left =
      (stays : Bool) × (value : T) × keeps e.value stays value × (rest : List (Stored K C R T)) × Leaves es rest × (left ≡ cond stays (stored e.key e.path value ∷ rest) rest)

  -- the same, in any order
  abbrev pub Retains : List (Stored K C R T) → List (Stored K C R T) → Type 0
  Retains old new = (left : List (Stored K C R T)) × Leaves old left × IsPermutation left new

-- a call of the closure with a value may return this, and turn the value into this one
pub record ReturnsAtMut {F T : Type 0} (g : Shared F (MutBor T × Unit {0}) (Bool × (MutBor T × Unit {0}))) (f : F) (x : T) (r : Bool) (x' : T) : Type 0 where
  pub shown : MutBor T
  pub shows : shown.now ≡ x
  pub left : MutBor T
  pub met : g.post f (shown, tt) (r, (left, tt))
  pub leaves : left.now ≡ x'
