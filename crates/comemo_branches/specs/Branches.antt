-- What the branches of a run did, and what the run took of them.
use Rattle.std.specs.Prelude.{◌≡◌, ◌⊎◌, true, false, List, [], ◌∷◌, Result, Ok, Err, IfOk, OnOk}
use Rattle.std.specs.Borrow.{Bor, MutBor}
use Rattle.std.specs.Fn.{Shared, Once, FnOnceReturnsAtMut}
use Rattle.comemo.specs.Recording.{Recording}
use Rattle.comemo.specs.Function.{Recorded}
use Rattle.comemo.specs.Branch.{IsBranch, Spoils}
use Rattle.comemo.specs.declared.pending.Fault.{Fault}
use Rattle.comemo.specs.declared.pending.Fault.TheVariants as fault

-- after this fault the run may go on: the recording is complete exactly if it was, and what fits it now fitted it before;
-- or memory ran out while the recorder absorbed a branch, and the recording is incomplete
abbrev pub GoesOn : {V C R : Type 0} → (Recording C R → (C → R) → Type 0) → Recorded V C R → Recorded V C R → Fault → Type 0
GoesOn {V} {C} {R} fits s t f =
    ((t.recording.complete ≡ s.recording.complete) × ((m : C → R) → fits t.recording m → fits s.recording m))
    ⊎ ((f ≡ fault.Memory) × (t.recording.complete ≡ false))

-- the fault that a run returns for that of a branch
abbrev pub returned : Fault → Fault
returned fault.Incomplete = fault.Memory
returned fault.Memory = fault.Memory
returned fault.Write = fault.Write

-- a branch that ended so wasn't joined, for this fault: it failed, and the recorder stays; or memory ran out, and the
-- recording is incomplete
abbrev pub NotJoined : {P V C R X : Type 0} → Recorded V C R → Recorded V C R → Result (X × P) Fault → Fault → Type 0
NotJoined s t (Ok e) f = (f ≡ fault.Memory) × Spoils s t
NotJoined s t (Err g) f = (f ≡ returned g) × (t ≡ s)

module _ {P X : Type 0} (ran : Result X Fault → P → Type 0) where
  -- a branch that ran so may have failed with this fault
  abbrev pub MayFail : Fault → Type 0
  MayFail f = (left : P) × ran (Err f) left

  -- it may have given an output
  abbrev pub MayGive : Type 0
  MayGive = (output : X) × (left : P) × ran (Ok output) left

  -- it may have ended so: with an output and the recorder that it left, or with a fault
  abbrev pub MayEnd : Result (X × P) Fault → Type 0
  MayEnd (Ok e) = ran (Ok e.0) e.1
  MayEnd (Err f) = MayFail f

module _ {P V C R X : Type 0} (seen : P → Recorded V C R) where
  -- a branch that ended with an output has a complete recording of the value
  abbrev pub IsEnded : Recorded V C R → Result (X × P) Fault → Type 0
  IsEnded outer end = IfOk end (λ e. ((seen e.1).value ≡ outer.value) × ((seen e.1).recording.complete ≡ true))

  -- a branch that ended with this output, and Q holds of its recording
  abbrev pub GaveTo : (Recording C R → Type 0) → Result (X × P) Fault → X → Type 0
  GaveTo Q (Ok e) output = (e.0 ≡ output) × Q (seen e.1).recording
  GaveTo Q (Err f) output = ⊥

  -- a branch that runs so leaves the outer recorder's value and, with an output, a complete recording
  abbrev pub Keeps : Recorded V C R → (Result X Fault → P → Type 0) → Type 0
  Keeps outer ran = (r : Result X Fault) (left : P) → ran r left → ((seen left).value ≡ outer.value) × OnOk r ((seen left).recording.complete ≡ true)

  -- t is s after it took the pairs of a branch that ran so and gave this output
  abbrev pub TookOne : (Recorded V C R → Recorded V C R → List (C × R) → Type 0) → (Result X Fault → P → Type 0) → Recorded V C R → Recorded V C R → X → Type 0
  TookOne took ran s t output = (left : P) × ran (Ok output) left × took s t (seen left).recording.pairs

module _ {F P J V C R X : Type 0} (g : Shared F (MutBor P × (Bor J × Unit {0})) (Result X Fault × (MutBor P × Unit {0}))) (f : F) (seen : P → Recorded V C R) (outer : Recorded V C R) where
  -- a call of f with a new branch and the item x may have this result, and leave the branch so
  pub record BranchRan (x : J) (r : Result X Fault) (left : P) : Type 0 where
    pub given : MutBor P
    pub begins : IsBranch outer (seen given.now)
    pub item : Bor J
    pub is_item : item.now ≡ x
    pub after_call : MutBor P
    pub call : g.post f (given, (item, tt)) (r, (after_call, tt))
    pub is_left : after_call.now ≡ left

  -- f leaves a branch of the same value and, with an output, complete
  abbrev pub KeepsBranches : Type 0
  KeepsBranches = (x : J) → Keeps seen outer (BranchRan x)

  -- a call of f with a new branch and the item x may give the output, and the answers m fit what the branch recorded
  pub record BranchTold (fits : Recording C R → (C → R) → Type 0) (m : C → R) (x : J) (output : X) : Type 0 where
    pub left : P
    pub ran : BranchRan x (Ok output) left
    pub fit : fits (seen left).recording m

  -- t is s after it took the pairs of a branch for each item, in the order of the items, which gave these outputs
  abbrev pub TookEach : (Recorded V C R → Recorded V C R → List (C × R) → Type 0) → Recorded V C R → Recorded V C R → List J → List X → Type 0
  TookEach took s t [] [] = t ≡ s
  TookEach took s t [] (output ∷ outputs) = ⊥
  TookEach took s t (x ∷ xs) [] = ⊥
  TookEach took s t (x ∷ xs) (output ∷ outputs) =
      (mid : Recorded V C R) × TookOne seen took (BranchRan x) s mid output × TookEach took mid t xs outputs

  -- calls with the items before one may give outputs, and that with this one may fail with this fault
  abbrev pub FirstFails : List J → Fault → Type 0
  FirstFails [] e = ⊥
  FirstFails (x ∷ xs) e = MayFail (BranchRan x) e ⊎ (MayGive (BranchRan x) × FirstFails xs e)

module _ {F P V C R X : Type 0} (g : Once F (MutBor P × Unit {0}) (Result X Fault × (MutBor P × Unit {0}))) (f : F) (seen : P → Recorded V C R) (outer : Recorded V C R) where
  -- a call of f with a new branch may have this result, and leave the branch so
  pub record PartRan (r : Result X Fault) (left : P) : Type 0 where
    pub given : P
    pub begins : IsBranch outer (seen given)
    pub call : FnOnceReturnsAtMut g f given r left

  -- f leaves a branch of the same value and, with an output, complete
  abbrev pub KeepsPart : Type 0
  KeepsPart = Keeps seen outer PartRan

  -- a call of f with a new branch may give the output, and the answers m fit what the branch recorded
  pub record PartTold (fits : Recording C R → (C → R) → Type 0) (m : C → R) (output : X) : Type 0 where
    pub left : P
    pub ran : PartRan (Ok output) left
    pub fit : fits (seen left).recording m
