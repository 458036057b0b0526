-- For authors of functions of an untracked key and a view: the tests of calls and answers of both. The key's own part has one
-- call, with one answer.
use Rattle.std.proofs.Common.{◌≡◌, Bool, true, refl}
use Rattle.std.specs.Bool.{⊤}
use Rattle.std.specs.Cmp.{IsEquivalence}
use Rattle.comemo_base.specs.Answers.{Respects}
use Rattle.comemo_track.specs.Multi.{first_call, second_call, first_answer, second_answer, part_answers}
use Rattle.comemo_track.specs.declared.multi.MultiCall.{MultiCall}
use Rattle.comemo_track.specs.declared.multi.MultiAnswer.{MultiAnswer}
use Rattle.comemo_track.proofs.Joined.{TellsCalls, TellsAnswers, joined_calls, joined_answers, joined_respect}

-- the test of the view's calls, of a test of all calls
abbrev pub view_calls : {C : Type 0} → (MultiCall ⊤ C → MultiCall ⊤ C → Bool) → C → C → Bool
view_calls eq c d = eq (second_call c) (second_call d)

-- the test of the view's answers
abbrev pub view_answers : {R : Type 0} → (MultiAnswer ⊤ R → MultiAnswer ⊤ R → Bool) → R → R → Bool
view_answers same a b = same (second_answer a) (second_answer b)

-- what both answer, where the view answers n
abbrev pub with_key : {C R : Type 0} → (C → R) → MultiCall ⊤ C → MultiAnswer ⊤ R
with_key n = part_answers (λ _. tt) n

-- tests of all calls and of all answers: they never take one of the key's part for one of the view's, they know the key's one
-- call and its answer, and at the view they are equivalences
pub record KeyedTests {C R : Type 0} (eq : MultiCall ⊤ C → MultiCall ⊤ C → Bool) (same : MultiAnswer ⊤ R → MultiAnswer ⊤ R → Bool) : Type 0 where
  pub tells_calls : TellsCalls eq
  pub tells_answers : TellsAnswers same
  pub key_call : eq (first_call tt) (first_call tt) ≡ true
  pub key_answer : same (first_answer tt) (first_answer tt) ≡ true
  pub calls : IsEquivalence (view_calls eq)
  pub answers : IsEquivalence (view_answers same)

module _ {C R : Type 0} {eq : MultiCall ⊤ C → MultiCall ⊤ C → Bool} {same : MultiAnswer ⊤ R → MultiAnswer ⊤ R → Bool} (tests : KeyedTests eq same) where
  pub keyed_calls : IsEquivalence eq
  keyed_calls = joined_calls tests.tells_calls (record { refl = λ c. tests.key_call; symm = λ c d. refl; congr = λ c d e h. refl }) tests.calls

  pub keyed_answers : IsEquivalence same
  keyed_answers = joined_answers tests.tells_answers (record { refl = λ a. tests.key_answer; symm = λ a b. refl; congr = λ a b c h. refl }) tests.answers

  -- answers of the view that tell no equal calls apart do so with the key's
  pub respects_with_key : (n : C → R) → Respects (view_calls eq) (view_answers same) n → Respects eq same (with_key n)
  respects_with_key n r = joined_respect same tests.tells_calls (λ _. tt) n (λ c d h. tests.key_answer) r
