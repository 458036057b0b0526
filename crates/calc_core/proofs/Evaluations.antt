-- The outcome of a part that calls another script, and what a run of a script learnt.
use Rattle.std.proofs.Common.{◌≡◌, ◌≤◌, ◌&&◌, rules, true, false, IsTrue, ℕ, List, [], ◌++◌, Result, Ok, Err, IsErrAnd, ◌∙◌, ◌↔◌, ◌≢◌, String, string_bytes, bytes_eq, refl, sym, ap, subst, append-nil}
use Rattle.std.specs.Bool.{⊤}
use Rattle.std.specs.Global.{Global}
use Rattle.comemo.specs.Answers.{Respects, Agrees}
use Rattle.comemo.specs.Function.{Learns}
use Rattle.comemo.specs.Called.{IsReply}
use Rattle.comemo.specs.Recording.{Recording, Took}
use Rattle.comemo.specs.declared.pending.Reply.{Reply}
use Rattle.comemo.proofs.KeyedViews.{keyed_calls, keyed_answers}
use Rattle.comemo.proofs.Telling.{Told, told_pairs}
use Rattle.calc_core.specs.Meaning.{Deep, IsTooDeep, is_eval}
use Rattle.calc_core.specs.Parts.{IsEval}
use Rattle.calc_core.proofs.Meanings.{means_map, deep_map, deep_is_too_deep}
use Rattle.calc_core.specs.declared.scripts.outcome.Outcome.{Outcome}
use Rattle.calc_core.specs.declared.files.Files.{Files}
use Rattle.comemo.specs.Multi.{second_call, second_answer}
use Rattle.calc_core.specs.Files.{JoinedCall, JoinedAnswer, Reads, with_key, text_at, answers_of}
use Rattle.calc_core.specs.declared.evaluation.EvalFault.{EvalFault}
use Rattle.calc_core.specs.declared.evaluation.EvalFault.TheVariants.{TooDeep, Memory}
use Rattle.calc_core.specs.Evaluations.{At, Comes, ComesTo, PartComes, IsOutcome, Outcomes, evaluating}
use Rattle.calc_core.specs.Joined.{FilesFit}
use Rattle.calc_core.specs.declared.files.FileCall.TheVariants.{Read}
use Rattle.calc_core.proofs.WhatReadsTell.{files_respect}
use Rattle.calc_core.specs.Joined.{same_call, same_answer, same_key, touches, with_files}
use Rattle.calc_core.proofs.JoinedCalls.{tests, still_early, was_early}

-- equal keys are of one script
pub same_script : (a b : List ℕ) → IsTrue (bytes_eq a b && true) → a ≡ b
same_script a b h = search rules

pub script_alike : (a b : List ℕ) → a ≡ b → IsTrue (bytes_eq a b && true)
script_alike a b h = search rules

-- what was learnt before is still known, and what is learnt in the end is this
pub learns_on : {s t u : Recording JoinedCall JoinedAnswer} {P Q R : (JoinedCall → JoinedAnswer) → Type 0} → Learns same_call same_answer s t P → Learns same_call same_answer t u Q → ((m : JoinedCall → JoinedAnswer) → P m → Q m → R m) → Learns same_call same_answer s u R
learns_on first next both = record {
  before = λ m f. first.before m (next.before m f);
  told = λ m f. both m (first.told m (next.before m f)) (next.told m f);
}

-- what follows from what was learnt was learnt
pub learns_more : {s t : Recording JoinedCall JoinedAnswer} {P Q : (JoinedCall → JoinedAnswer) → Type 0} → Learns same_call same_answer s t P → ((m : JoinedCall → JoinedAnswer) → P m → Q m) → Learns same_call same_answer s t Q
learns_more learns more = record { before = learns.before; told = λ m f. more m (learns.told m f) }

-- what was learnt holds of the files that fit
pub of_files : (files : Files) {s t : Recording JoinedCall JoinedAnswer} {P : (JoinedCall → JoinedAnswer) → Type 0} → Learns same_call same_answer s t P → FilesFit files t → P (with_key (answers_of files))
of_files files learns fits = learns.told (with_key (answers_of files)) fits

-- nothing was recorded, and P holds whatever is answered
pub learns_nothing : (s : Recording JoinedCall JoinedAnswer) {P : (JoinedCall → JoinedAnswer) → Type 0} → ((m : JoinedCall → JoinedAnswer) → P m) → Learns same_call same_answer s s P
learns_nothing s p = record { before = λ m f. f; told = λ m f. p m }

-- what a call of a script gave a recording
module _ (files : Files) {t u : Recording JoinedCall JoinedAnswer} {script : List ℕ} {es mid es' : Outcomes} {reply : Reply Outcome} (replied : IsReply evaluating (with_files script files) es mid (Took same_call touches t u) reply es') where
  given : Agrees same_answer (with_key (answers_of files)) replied.gives.given
  given = (replied.gives.agreeing (with_key (answers_of files)) (files_respect files)).1 replied.agrees

  ran : Agrees same_answer (with_key (answers_of files)) t.pairs → Told same_call same_answer (with_key (answers_of files)) t.pairs replied.gives.given u.pairs
  ran agrees = told_pairs (keyed_calls tests) (keyed_answers tests) (with_key (answers_of files)) (files_respect files) t u replied.gives.given replied.writes agrees given replied.gives.are_sent

  pub fits_call : FilesFit files t → FilesFit files u
  fits_call fits = record { complete = replied.gives.are_sent.complete ∙ fits.complete; early = still_early replied.gives.given replied.writes replied.gives.are_sent fits.early; respects = fits.respects; agrees = (ran fits.agrees).agrees }

  pub learns_call : FilesFit files t → Learns same_call same_answer t u (λ m. Comes m script reply.output)
  learns_call fits = record {
    before = λ m f. record { complete = sym replied.gives.are_sent.complete ∙ f.complete; early = was_early replied.gives.given replied.writes replied.gives.are_sent f.early; respects = f.respects; agrees = (ran fits.agrees).before m f.respects f.agrees };
    told = λ m f. (replied.stands m f.respects ((replied.gives.agreeing m f.respects).0 ((ran fits.agrees).told m f.respects f.agrees))).1;
  }

  pub writes_call : u.writes ≡ t.writes
  writes_call =
      let none : replied.writes ≡ [] = (replied.stands (with_key (answers_of files)) (files_respect files) replied.agrees).0 in
      replied.gives.are_sent.writes ∙ ap (λ ws. t.writes ++ ws) none ∙ append-nil t.writes

-- what a call gave its sink stands for what it gave its caller
pub script_given : {sent : List (JoinedCall × JoinedAnswer) → List JoinedCall → Type 0} (files : Files) {script : List ℕ} {es mid es' : Outcomes} {reply : Reply Outcome} → IsReply evaluating (with_files script files) es mid sent reply es' → ComesTo (answers_of files) script reply.output
script_given files replied = (replied.stands (with_key (answers_of files)) (files_respect files) replied.agrees).1

-- a part that calls a script comes to what that script comes to
pub part_called : (text : List ℕ) {part path : List ℕ} {own : String Global} {outcome : Outcome} → IsEval part path → string_bytes own ≡ path → (m : JoinedCall → JoinedAnswer) → m (second_call (Read own)) ≡ second_answer text → Comes m text outcome → PartComes m part outcome
part_called text {own = own} is named m told comes = is_eval is (own, named, told) comes

-- what was learnt of a script, which is the run's key, stands where the run is finished
pub run_stands : (script : List ℕ) (s t : Recording JoinedCall JoinedAnswer) (own : List ℕ × ⊤) (outcome : Outcome) → IsTrue (same_key bytes_eq (script, tt) own) → s.writes ≡ [] → t.writes ≡ s.writes → Learns same_call same_answer s t (λ m. Comes m script outcome) → t.complete ≡ true → t.late ≡ false → (m : JoinedCall → JoinedAnswer) → Respects same_call same_answer m → Agrees same_answer m t.pairs → IsOutcome own m outcome t.writes
run_stands script s t own outcome has none writes learns complete early m respects agrees = (
  writes ∙ none,
  subst (λ script. Comes m script outcome) (same_script script own.0 has) (learns.told m (record { complete = complete; early = early; respects = respects; agrees = agrees })),
)

abbrev fault_or : {A : Type 0} → EvalFault → Result A EvalFault → EvalFault
fault_or d (Ok x) = d
fault_or d (Err f) = f

-- a fault that is handed on is the one that came
pub handed_on : {A : Type 0} (r : Result A EvalFault) (f g : EvalFault) → IsErrAnd r (λ e. e ≡ f) → r ≡ Err g → f ≡ g
handed_on (Ok x) f g h e = absurd h
handed_on (Err x) f g h e = sym h ∙ ap (fault_or f) e

pub text_is : {a b : List ℕ} → (let x : JoinedAnswer = second_answer a in x) ≡ second_answer b → a ≡ b
text_is e = cc

-- what is answered when a path is read is the text there
pub reads : (files : Files) (path text : List ℕ) → At (answers_of files) path text → Reads (text_at files) path text
reads files path text (own, named, gives) = subst (λ p. text_at files p ≡ text) named (text_is gives)

-- what goes deeper than the limit is too deep for it
pub too_deep : (files : Files) {script : List ℕ} {limit : ℕ} → Deep (At (answers_of files)) script limit → IsTooDeep (Reads (text_at files)) script limit
too_deep files deep = deep_is_too_deep (Reads (text_at files)) (λ path text other is other_is. sym is ∙ other_is) (deep_map (At (answers_of files)) (Reads (text_at files)) (reads files) deep)

-- what has an outcome within the limit is not, so it is answered exactly where it is so
pub exact_at_ok : {A : Type 0} (files : Files) {script : List ℕ} {limit : ℕ} {outcome : Outcome} {x : A} → ComesTo (answers_of files) script outcome → outcome.height ≤ limit → (let r : Result A EvalFault = Ok x in r) ≢ Err Memory → ((let r : Result A EvalFault = Ok x in r) ≡ Err TooDeep) ↔ IsTooDeep (Reads (text_at files)) script limit
exact_at_ok files {outcome = outcome} comes_to low no_memory =
    (λ e. absurd (let never : ⊥ = cc in never), λ deep. absurd (deep outcome.value outcome.height (means_map (At (answers_of files)) (Reads (text_at files)) (reads files) comes_to) low))

pub exact_at_fault : {A : Type 0} (files : Files) {script : List ℕ} {limit : ℕ} (r : Result A EvalFault) (f : EvalFault) → IsErrAnd r (λ e. e ≡ f) → (f ≡ TooDeep → Deep (At (answers_of files)) script limit) → r ≢ Err Memory → (r ≡ Err TooDeep) ↔ IsTooDeep (Reads (text_at files)) script limit
exact_at_fault files (Ok x) f is deep no_memory = absurd is
exact_at_fault files (Err TooDeep) f is deep no_memory = (λ _. too_deep files (deep (sym is)), λ _. refl)
exact_at_fault files (Err Memory) f is deep no_memory = absurd (no_memory refl)
