-- Files in memory, and their answers.
use Rattle.std.specs.Prelude.{◌≡◌, ⊤, ℕ, List, string_bytes, unwrap_or}
use Rattle.std.specs.HashMap.{get_by_text}
use Rattle.comemo.specs.Function.{OnPart}
use Rattle.comemo.specs.Multi.{part_answers, second_call, second_answer}
use Rattle.comemo_track.specs.declared.multi.MultiCall.{MultiCall}
use Rattle.comemo_track.specs.declared.multi.MultiAnswer.{MultiAnswer}
use Rattle.calc_core.specs.declared.files.Files.{Files}
use Rattle.calc_core.specs.declared.files.FileCall.{FileCall}
use Rattle.calc_core.specs.declared.files.FileCall.TheVariants.{Read}

-- a text at each path
abbrev pub Texts : Type 0
Texts = List ℕ → List ℕ

-- the text of the file at a path; a file that was never written has the text of a missing one
abbrev pub text_at : Files → Texts
text_at files path = unwrap_or (get_by_text files.texts path) files.missing

-- this text is at this path
abbrev pub Reads : Texts → List ℕ → List ℕ → Type 0
Reads texts path text = texts path ≡ text

-- the files' answer to a call
abbrev pub answers_of : Files → FileCall → List ℕ
answers_of files (Read path) = text_at files (string_bytes path)

-- the calls of a key joined with files, and their answers
abbrev pub JoinedCall : Type 0
JoinedCall = MultiCall ⊤ FileCall

abbrev pub JoinedAnswer : Type 0
JoinedAnswer = MultiAnswer ⊤ (List ℕ)

-- the answers of a key joined with files that answer m: nothing, for the key's own call
abbrev pub with_key : (FileCall → List ℕ) → JoinedCall → JoinedAnswer
with_key m = part_answers (λ _. tt) m

-- a property of the files' answers, where a key joined with files answers m
abbrev pub OnFiles : ((FileCall → List ℕ) → Type 0) → (JoinedCall → JoinedAnswer) → Type 0
OnFiles P m = OnPart second_call second_answer m P
