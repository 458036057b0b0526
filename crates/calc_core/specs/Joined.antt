-- Calls and answers of a key joined with files, and their equality.
use Rattle.std.specs.Prelude.{◌≡◌, Bool, true, false, ◌&&◌, ⊤, List}
use Rattle.std.specs.contracts.prelude.UnitPartialEq.TheImpl as unit
use Rattle.comemo_track.specs.contracts.multi.MultiCallPartialEq.TheImpl as multi_call
use Rattle.comemo_track.specs.contracts.multi.MultiAnswerPartialEq.TheImpl as multi_answer
use Rattle.comemo.specs.Meaning.{Meaning, unnamed, Invocation, invocation}
use Rattle.comemo.specs.Function.{Fits}
use Rattle.comemo.specs.Multi.{by_part, part_touches}
use Rattle.comemo.specs.Recording.{Recording}
use Rattle.calc_core.specs.declared.files.Files.{Files}
use Rattle.calc_core.specs.contracts.files.FileCall as file_call
use Rattle.calc_core.specs.contracts.files.FileCallPartialEq.TheImpl as call
use Rattle.calc_core.specs.contracts.files.text.Text as text
use Rattle.calc_core.specs.contracts.files.text.TextPartialEq.TheImpl as same_text
use Rattle.calc_core.specs.Files.{JoinedCall, JoinedAnswer, answers_of, with_key}

-- the derived equality of joined calls, of their answers and, given that of plain keys, of joined keys
abbrev pub same_call : JoinedCall → JoinedCall → Bool
same_call = (multi_call.ghosts denote.Builtin.unit file_call.the_row unit.ghosts unit.dict call.ghosts call.dict).eq

abbrev pub same_answer : JoinedAnswer → JoinedAnswer → Bool
same_answer = (multi_answer.ghosts denote.Builtin.unit text.the_row unit.ghosts unit.dict same_text.ghosts same_text.dict).eq

abbrev pub same_key : {K : Type 0} → (K → K → Bool) → K × ⊤ → K × ⊤ → Bool
same_key same a b = same a.0 b.0 && true

-- whether a call touches a read: none does
abbrev pub touches : JoinedCall → JoinedCall → Bool
touches = part_touches (λ _ _. false) (λ _ _. false)

-- the meaning of a function of a key and the files, given this one and plain outputs; no call is a write, and it names no asked
-- calls
abbrev pub joined : {K O : Type 0} → (K → K → Bool) → (K × ⊤ → (JoinedCall → JoinedAnswer) → O → List JoinedCall → Type 0) → Meaning (K × ⊤) JoinedCall JoinedAnswer O
joined same right = record { same_call = same_call; same_answer = same_answer; same_key = same_key same; is_write = by_part (λ _. false) (λ _. false); is_clone = λ a b. b ≡ a; right = right; naming = unnamed }

-- its call at a key and these files
abbrev pub with_files : {K : Type 0} → K → Files → Invocation (K × ⊤) JoinedCall JoinedAnswer
with_files key files = invocation (key, tt) (with_key (answers_of files)) true

-- what is recorded is complete and not late, and agrees with the files
abbrev pub FilesFit : Files → Recording JoinedCall JoinedAnswer → Type 0
FilesFit files recording = Fits same_call same_answer recording (with_key (answers_of files))
