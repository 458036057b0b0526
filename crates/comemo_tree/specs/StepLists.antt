-- Lists of steps on the map from a key and a set of pairs to a value.
use Rattle.std.specs.Prelude.{◌≡◌, ◌⊎◌, ◌↔◌, Bool, List, [], ◌∷◌, IsTrue}
use Rattle.std.specs.List.{All, Any}
use Rattle.comemo_base.specs.Tree.{Stored}
use Rattle.comemo_base.specs.Lookup.{under}
use Rattle.comemo_tree.specs.Retain.{Retains}
use Rattle.comemo_base.specs.Runs.{IsRun}
use Rattle.comemo_base.specs.Sets.{HasSamePairs, HasSet, AddsSet}
use Rattle.comemo_tree.specs.declared.steps.TreeOp.{TreeOp}
use Rattle.comemo_tree.specs.declared.steps.TreeOp.TheVariants.{Insert, Retain}
use Rattle.comemo_tree.specs.declared.steps.TreeReply.{TreeReply}
use Rattle.comemo_tree.specs.declared.steps.TreeReply.TheVariants.{Inserted, AlreadyExists, Memory, Retained}

module _ {K C R T P : Type 0} where
  abbrev pub IsInsert : TreeOp K C R T P → Type 0
  IsInsert (Insert key s value) = Unit {0}
  IsInsert (Retain keep) = ⊥

  -- what is inserted is a run of the function that asks `asks`
  abbrev pub InsertsRun : (C → C → Bool) → (R → R → Bool) → (K → (C → R) → C → Type 0) → TreeOp K C R T P → Type 0
  InsertsRun eq same asks (Insert key s value) = IsRun eq same (asks key) s.pairs
  InsertsRun eq same asks (Retain keep) = Unit {0}

-- the reply is not out of memory
abbrev pub FoundRoom : TreeReply → Type 0
FoundRoom Inserted = Unit {0}
FoundRoom AlreadyExists = Unit {0}
FoundRoom Memory = ⊥
FoundRoom Retained = Unit {0}

module _ {K C R T P : Type 0} (eq : C → C → Bool) (same : R → R → Bool) (eqk : K → K → Bool) where
  -- the step inserts the set of the pairs under the key
  abbrev pub InsertsSet : K → List (C × R) → TreeOp K C R T P → Type 0
  InsertsSet key ps (Insert k s value) = IsTrue (eqk k key) × HasSamePairs eq same s.pairs ps
  InsertsSet key ps (Retain keep) = ⊥

  -- if no insertion ran out of memory, the sets stored afterwards are those stored before and those inserted, in any order
  abbrev pub StoresAllSets : List (TreeOp K C R T P) → List TreeReply → List (Stored K C R T) → List (Stored K C R T) → Type 0
  StoresAllSets ops replies old new =
      All IsInsert ops → All FoundRoom replies → (key : K) (ps : List (C × R)) → HasSet eq same (under eqk new key) ps ↔ (HasSet eq same (under eqk old key) ps ⊎ Any (InsertsSet key ps) ops)

  -- For tests that retain values:
  module _ (keeps : P → T → Bool → T → Type 0) where
    -- one step with its reply: an insertion adds the set, or the set exists and nothing changes; out of memory, nothing
    -- changes; a retention keeps what its test keeps
    abbrev pub IsStep : TreeOp K C R T P → TreeReply → List (Stored K C R T) → List (Stored K C R T) → Type 0
    IsStep (Insert key s value) Inserted old new = AddsSet eq same eqk key s.pairs value old new
    IsStep (Insert key s value) AlreadyExists old new = HasSet eq same (under eqk old key) s.pairs × (new ≡ old)
    IsStep (Insert key s value) Memory old new = new ≡ old
    IsStep (Insert key s value) Retained old new = ⊥
    IsStep (Retain keep) Inserted old new = ⊥
    IsStep (Retain keep) AlreadyExists old new = ⊥
    IsStep (Retain keep) Memory old new = ⊥
    IsStep (Retain keep) Retained old new = Retains (keeps keep) old new

    -- the steps in turn, each with its reply
    abbrev pub AreSteps : List (TreeOp K C R T P) → List TreeReply → List (Stored K C R T) → List (Stored K C R T) → Type 0
    AreSteps [] [] old new = new ≡ old
    AreSteps [] (r ∷ rs) old new = ⊥
    AreSteps (op ∷ ops) [] old new = ⊥
    AreSteps (op ∷ ops) (r ∷ rs) old new = (between : List (Stored K C R T)) × IsStep op r old between × AreSteps ops rs between new

    -- the value passes the tests of all steps, whatever each changes in it
    abbrev pub StaysThrough : List (TreeOp K C R T P) → T → Type 0
    StaysThrough [] value = Unit {0}
    StaysThrough (Insert key s other ∷ ops) value = StaysThrough ops value
    StaysThrough (Retain keep ∷ ops) value = (stays : Bool) (left : T) → keeps keep value stays left → IsTrue stays × StaysThrough ops left

    -- a set whose value passes the tests of all steps is stored afterwards
    abbrev pub KeepsSets : List (TreeOp K C R T P) → List (Stored K C R T) → List (Stored K C R T) → Type 0
    KeepsSets ops old new =
        (key : K) (ps : List (C × R)) → Any (λ e. HasSamePairs eq same e.path ps × StaysThrough ops e.value) (under eqk old key) → HasSet eq same (under eqk new key) ps
