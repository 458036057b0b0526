-- The outcome of a script and what it reads, by the answers of its files.
use Rattle.std.specs.Prelude.{◌≡◌, ⊤, ℕ, List, [], ℤ, String, string_bytes, bytes_eq}
use Rattle.std.specs.Global.{Global}
use Rattle.comemo.specs.Cache.{Entries}
use Rattle.comemo.specs.Meaning.{Meaning, names, IsRight}
use Rattle.comemo.specs.Multi.{second_call, second_answer, OnCall}
use Rattle.calc_core.specs.Asked.{Asks, AsksIn, PartAsks}
use Rattle.calc_core.specs.Meaning.{Means, PartMeans, Deep}
use Rattle.calc_core.specs.Parts.{IsEval}
use Rattle.calc_core.specs.declared.scripts.outcome.Outcome.{Outcome}
use Rattle.calc_core.specs.Files.{JoinedCall, JoinedAnswer, with_key}
use Rattle.calc_core.specs.Joined.{joined}
use Rattle.calc_core.specs.declared.files.FileCall.{FileCall}
use Rattle.calc_core.specs.declared.files.FileCall.TheVariants.{Read}

-- the text at a path is the answer of a key joined with files when that path is read
abbrev pub In : (JoinedCall → JoinedAnswer) → List ℕ → List ℕ → Type 0
In m path text = (own : String Global) × (string_bytes own ≡ path) × (m (second_call (Read own)) ≡ second_answer text)

-- the same, for files with these answers
abbrev pub At : (FileCall → List ℕ) → List ℕ → List ℕ → Type 0
At m = In (with_key m)

-- the script has this outcome, at these answers
abbrev pub Comes : (JoinedCall → JoinedAnswer) → List ℕ → Outcome → Type 0
Comes m script outcome = Means (In m) script outcome.value outcome.height

-- the same, for files with these answers
abbrev pub ComesTo : (FileCall → List ℕ) → List ℕ → Outcome → Type 0
ComesTo m = Comes (with_key m)

-- a part of a script has this outcome
abbrev pub PartComes : (JoinedCall → JoinedAnswer) → List ℕ → Outcome → Type 0
PartComes m part outcome = PartMeans (In m) part outcome.value outcome.height

-- the call reads a path of which P holds
abbrev pub OnFile : (List ℕ → Type 0) → FileCall → Type 0
OnFile P (Read own) = P (string_bytes own)

abbrev pub OnRead : (List ℕ → Type 0) → JoinedCall → Type 0
OnRead P c = OnCall (λ _. ⊥) (OnFile P) c

-- at these answers the call is asked by a script, by a part of one, and by these parts after parts with this sum
abbrev pub ScriptAsks : List ℕ → (JoinedCall → JoinedAnswer) → JoinedCall → Type 0
ScriptAsks script m c = OnRead (Asks (In m) script) c

abbrev pub APartAsks : List ℕ → (JoinedCall → JoinedAnswer) → JoinedCall → Type 0
APartAsks part m c = OnRead (PartAsks (In m) part) c

abbrev pub LeftAsk : List (List ℕ) → ℤ → (JoinedCall → JoinedAnswer) → JoinedCall → Type 0
LeftAsk parts sum m c = OnRead (AsksIn (In m) parts sum) c

-- the calls at this key: the script's reads
abbrev pub EvalAsks : List ℕ × ⊤ → (JoinedCall → JoinedAnswer) → JoinedCall → Type 0
EvalAsks key = ScriptAsks key.0

-- the part calls a script that goes deeper than the limit
abbrev pub CallsDeep : (FileCall → List ℕ) → List ℕ → ℕ → Type 0
CallsDeep m part limit = (path text : List ℕ) × IsEval part path × At m path text × Deep (At m) text limit

-- the meaning of the memoized function: no writes, and the script's outcome
abbrev pub IsOutcome : List ℕ × ⊤ → (JoinedCall → JoinedAnswer) → Outcome → List JoinedCall → Type 0
IsOutcome = IsRight (λ key m outcome. Comes m key.0 outcome) (λ _ _ _ writes. writes ≡ [])

abbrev pub evaluating : Meaning (List ℕ × ⊤) JoinedCall JoinedAnswer Outcome
evaluating = record (joined bytes_eq IsOutcome) { naming = names EvalAsks }

-- the entries of a cache of outcomes
abbrev pub Outcomes : Type 0
Outcomes = Entries (List ℕ × ⊤) JoinedCall JoinedAnswer Outcome
