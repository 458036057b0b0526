-- What a memoized function that writes means, and what its run does and learns.
use Rattle.std.specs.Prelude.{◌≡◌, ◌⊎◌, ◌++◌, [], Bool, true, false, List, map, Result, IfOk, OnOk, IfErr}
use Rattle.std.specs.Borrow.{MutBor}
use Rattle.comemo_base.specs.Answers.{Agrees}
use Rattle.comemo_track.specs.Recording.{Recording, IsLateByTouch}
use Rattle.comemo_cache.specs.Meaning.{Meaning, Invocation}
use Rattle.comemo_cache.specs.Cache.{Entries, Touches}
use Rattle.comemo.specs.Begin.{Reaches, IsStopped}
use Rattle.comemo.specs.Called.{IsDue}
use Rattle.comemo.specs.Function.{OnPart}
use Rattle.comemo.specs.declared.pending.Fault.{Fault}
use Rattle.comemo.specs.declared.pending.Fault.TheVariants as fault

-- what a recorder that writes was lent: the value, and the recording of what it was asked and what was written to it
pub record Lent (V C R : Type 0) : Type 0 where
  pub value : MutBor V
  pub recording : MutBor (Recording C R)

-- that record
abbrev pub lent : {V C R : Type 0} → MutBor V → MutBor (Recording C R) → Lent V C R
lent value recording = record { value = value; recording = recording }

module _ {V C R : Type 0} (did : V → V → List C → Type 0) (same : R → R → Bool) (answers : V → C → R) where
  -- the recording may have begun at this value: its writes lead from it to the present value, and while it isn't late,
  -- the answers of this value agree with its reads
  pub record Began (start : V) (s : Lent V C R) : Type 0 where
    pub done : did start s.value.now s.recording.now.writes
    pub agrees : s.recording.now.late ≡ false → Agrees same (answers start) s.recording.now.pairs

  -- while the recording is complete, it began at some value
  abbrev pub HasBegun : Lent V C R → Type 0
  HasBegun s = s.recording.now.complete ≡ true → (start : V) × Began start s

-- no write touches a read
abbrev pub NoneTouches : {C : Type 0} → (C → C → Bool) → Type 0
NoneTouches {C} touches = (c d : C) → touches c d ≡ false

module _ {V C R : Type 0} (did : V → V → List C → Type 0) (eq touches : C → C → Bool) (same : R → R → Bool) (answers : V → C → R) where
  -- how what a recorder was lent changed, from s to t: value and recording are the same places, and only writes changed
  -- the value. While the recording is complete, it may have begun wherever it may have before; and it is late only if
  -- one of its writes touches one of its reads, if so it was before
  pub record Goes (s t : Lent V C R) : Type 0 where
    pub same_value : t.value.ghost_name ≡ s.value.ghost_name
    pub same_recording : t.recording.ghost_name ≡ s.recording.ghost_name
    pub was_complete : t.recording.now.complete ≡ true → s.recording.now.complete ≡ true
    pub began : t.recording.now.complete ≡ true → (start : V) → Began did same answers start s → Began did same answers start t
    pub late : t.recording.now.complete ≡ true → IsLateByTouch eq touches s.recording.now → IsLateByTouch eq touches t.recording.now
    pub reached : (start : V) → Reaches did start s.value.now → Reaches did start t.value.now

-- the writes that were recorded from s to t satisfy this
abbrev pub Since : {V C R : Type 0} → Lent V C R → Lent V C R → (List C → Type 0) → Type 0
Since {C = C} s t P = (writes : List C) × (t.recording.now.writes ≡ s.recording.now.writes ++ writes) × P writes

-- what holds of the answers of a part, whatever they are, and of its own writes, if these are the writes of the whole
abbrev pub OnPartWrites : {C D R Q : Type 0} → (C → D) → (R → Q) → (D → Q) → List D → ((C → R) → List C → Type 0) → Type 0
OnPartWrites {C} f g m writes holds = (own : List C) × (writes ≡ map f own) × OnPart f g m (λ part. holds part own)

module _ {V C R : Type 0} (leads : Lent V C R → Lent V C R → Type 0) where
  -- what a run learns from a question, a write or a call, which took what its recorder was lent from s to t: on success
  -- the recording is complete exactly if it was, what fits it now fitted it before, and P holds of the answer and of
  -- all that fits; and the error is `Incomplete` only if the recording is incomplete
  pub record TellsMut {X : Type 0} (fits : Recording C R → (C → R) → Type 0) (s t : Lent V C R) (r : Result X Fault) (P : X → (C → R) → Type 0) : Type 0 where
    pub goes : leads s t
    pub before : OnOk r ((m : C → R) → fits t.recording.now m → fits s.recording.now m)
    pub told : IfOk r (λ answer. (m : C → R) → fits t.recording.now m → P answer m)
    pub complete : OnOk r (t.recording.now.complete ≡ s.recording.now.complete)
    pub fault : IfErr r (λ f. f ≡ fault.Incomplete → t.recording.now.complete ≡ false)

  -- what a run learns from a call of a function that writes: the same, where P holds of the answer, of all that fits,
  -- and of the writes that were recorded since
  pub record TellsWrites {X : Type 0} (fits : Recording C R → (C → R) → Type 0) (s t : Lent V C R) (r : Result X Fault) (P : X → (C → R) → List C → Type 0) : Type 0 where
    pub goes : leads s t
    pub before : OnOk r ((m : C → R) → fits t.recording.now m → fits s.recording.now m)
    pub told : IfOk r (λ answer. (m : C → R) → fits t.recording.now m → Since s t (P answer m))
    pub complete : OnOk r (t.recording.now.complete ≡ s.recording.now.complete)
    pub fault : IfErr r (λ f. f ≡ fault.Incomplete → t.recording.now.complete ≡ false)

-- what holds after a hit that stopped at a refused write
abbrev pub WasStopped : {K C R O : Type 0} → Meaning K C R O → Entries K C R O → Invocation K C R → (List C → Type 0) → (List (C × R) → List C → Type 0) → Entries K C R O → Type 0
WasStopped M es call done spoiled es' = Touches M es call es' × IsStopped M es call done spoiled

-- a sink, broken off, took some pairs; if no write touches a read, the answers agree with them
pub record BrokeOffMut {C R : Type 0} (touches : C → C → Bool) (same : R → R → Bool) (m : C → R) (broken : List (C × R) → Type 0) : Type 0 where
  pub pairs : List (C × R)
  pub agrees : NoneTouches touches → Agrees same m pairs
  pub is_broken : broken pairs

-- what holds after a fault of a call of a function that writes: the entries are unchanged and the sink was broken off,
-- or a hit was stopped
abbrev pub IsFailed : {K C R O : Type 0} → Meaning K C R O → (C → C → Bool) → Entries K C R O → Invocation K C R → (List C → Type 0) → (List (C × R) → Type 0) → (List (C × R) → List C → Type 0) → Entries K C R O → Type 0
IsFailed M touches es call done broken spoiled es' = ((es' ≡ es) × BrokeOffMut touches M.same_answer call.answers broken) ⊎ WasStopped M es call done spoiled es'

-- which fault a call of a function that writes returned: the entries are unchanged, and it is out of memory with
-- nothing written, or a run was due and it is out of memory or the run's fault; or a hit was stopped at a refused write
abbrev pub FailsBy : {K C R O : Type 0} → Meaning K C R O → Entries K C R O → Invocation K C R → (List C → Type 0) → Type 0 → (List (C × R) → List C → Type 0) → Fault → Entries K C R O → Type 0
FailsBy M es call done spoils spoiled f es' =
    ((es' ≡ es) × (((f ≡ fault.Memory) × done []) ⊎ (IsDue M call es × ((f ≡ fault.Memory) ⊎ spoils)))) ⊎ ((f ≡ fault.Write) × WasStopped M es call done spoiled es')
