-- What a memoized function of a key and a tracked value means, and what its run learns.
use Rattle.std.specs.Prelude.{◌≡◌, Bool, true, false, IsTrue, List, [], Result, IfOk, OnOk, IfErr, refl}
use Rattle.std.specs.Coded.{Coded, code_by, coded×}
use Rattle.comemo_base.specs.Answers.{Respects, Agrees}
use Rattle.comemo_track.specs.Recording.{Recording, recording_code}
use Rattle.comemo_base.specs.Runs.{IsRun}
use Rattle.comemo_cache.specs.Meaning.{Naming, unnamed, names, AsksAlike}
use Rattle.comemo.specs.declared.pending.Fault.{Fault}
use Rattle.comemo.specs.declared.pending.Fault.TheVariants as fault

-- a recorder: the value that is asked, and the recording
pub record Recorded (V C R : Type 0) : Type 0 where
  pub value : V
  pub recording : Recording C R

abbrev pub recorded_code : {V C R : Type 0} → Coded V → Coded C → Coded R → Coded (Recorded V C R)
recorded_code {V} {C} {R} v c r = code_by (V × Recording C R) (coded× v (recording_code c r)) (λ s. (s.value, s.recording)) (λ p. record { value = p.0; recording = p.1 }) (λ _. refl)

-- a recorder's invariant: while the recording is complete, the value's answers agree with it; and there are no writes,
-- so no read is late
pub record IsRecorded {C R : Type 0} (same : R → R → Bool) (m : C → R) (recording : Recording C R) : Type 0 where
  pub agrees : recording.complete ≡ true → Agrees same m recording.pairs
  pub no_writes : recording.writes ≡ []
  pub early : recording.late ≡ false

module _ {C R : Type 0} (eq : C → C → Bool) (same : R → R → Bool) where
  -- the recording is complete and not late, and the answers, which treat equal calls alike, agree with it
  pub record Fits (recording : Recording C R) (m : C → R) : Type 0 where
    pub complete : recording.complete ≡ true
    pub early : recording.late ≡ false
    pub respects : Respects eq same m
    pub agrees : Agrees same m recording.pairs

  -- answers that fit the recording t fit s, from which it was continued, and P holds of them
  pub record Learns (s t : Recording C R) (P : (C → R) → Type 0) : Type 0 where
    pub before : (m : C → R) → Fits t m → Fits s m
    pub told : (m : C → R) → Fits t m → P m

  -- clones of keys are equal; the meaning treats equal keys alike, and an output like its clone
  pub record Laws {K O : Type 0} (eqk : K → K → Bool) (key_clone : K → K → Type 0) (cloned : O → O → Type 0) (means : K → (C → R) → O → Type 0) : Type 0 where
    pub outputs : (key : K) (m : C → R) (a b : O) → Respects eq same m → cloned a b → means key m a → means key m b
    pub keys : (j k : K) (m : C → R) (output : O) → Respects eq same m → IsTrue (eqk j k) → means j m output → means k m output
    pub key_clones : (x y : K) → key_clone x y → IsTrue (eqk x y)

-- if the asked calls are named, a run under the key that returned an output has recorded these, unless its recording is
-- incomplete or late: its pairs are causal and complete
abbrev pub SettlesAs : {K C R X : Type 0} → (K → K → Bool) → (C → C → Bool) → (R → R → Bool) → Naming K C R → K → Recording C R → Result X Fault → Type 0
SettlesAs eqk eq same unnamed key t r = Unit {0}
SettlesAs eqk eq same (names asks) key t r = OnOk r (t.complete ≡ true → t.late ≡ false → IsRun eq same (AsksAlike eqk eq asks key) t.pairs)

-- so it is for a run that began with no pairs
abbrev pub SettlesRun : {K C R X : Type 0} → (K → K → Bool) → (C → C → Bool) → (R → R → Bool) → Naming K C R → K → Recording C R → Recording C R → Result X Fault → Type 0
SettlesRun eqk eq same N key s t r = s.pairs ≡ [] → SettlesAs eqk eq same N key t r

-- what a run learns from a question or a call, which took its recorder from s to t, of the same value: on success the
-- recording is complete exactly if it was, what fits it now fitted it before, and P holds of the answer and of all that
-- fits; and the error is `Incomplete` only if the recording is incomplete
pub record Tells {V C R X : Type 0} (fits : Recording C R → (C → R) → Type 0) (s t : Recorded V C R) (r : Result X Fault) (P : X → (C → R) → Type 0) : Type 0 where
  pub same_value : t.value ≡ s.value
  pub before : OnOk r ((m : C → R) → fits t.recording m → fits s.recording m)
  pub told : IfOk r (λ answer. (m : C → R) → fits t.recording m → P answer m)
  pub complete : OnOk r (t.recording.complete ≡ s.recording.complete)
  pub fault : IfErr r (λ f. f ≡ fault.Incomplete → t.recording.complete ≡ false)

-- what holds of the answers of a part, whatever they are: the part's calls are calls of the whole by f, and its answers
-- are answers of the whole by g
abbrev pub OnPart : {C D R Q : Type 0} → (C → D) → (R → Q) → (D → Q) → ((C → R) → Type 0) → Type 0
OnPart {C} {D} {R} f g m holds = (part : C → R) → ((c : C) → m (f c) ≡ g (part c)) → holds part

-- only no writes are right
abbrev pub ReadsAlone : {K C R O : Type 0} → (K → (C → R) → O → List C → Type 0) → Type 0
ReadsAlone {K} {C} {R} {O} writes = (key : K) (m : C → R) (output : O) (W : List C) → writes key m output W → W ≡ []

-- to write nothing is right, and nothing else
pub record WritesNone {K C R O : Type 0} (writes : K → (C → R) → O → List C → Type 0) : Type 0 where
  pub alone : ReadsAlone writes
  pub none : (key : K) (m : C → R) (output : O) → writes key m output []
