-- The calls of a key joined with files are told apart by their paths, and the answers by their texts.
use Rattle.std.proofs.Common.{◌≡◌, ◌∙◌, ◌||◌, false, List, refl, sym, ap}
use Rattle.comemo.proofs.KeyedViews.{KeyedTests}
use Rattle.comemo.specs.Recording.{Recording, Took}
use Rattle.comemo.specs.Writing.{touched}
use Rattle.comemo.specs.WritingLaws.{neither}
use Rattle.comemo.specs.FunctionMut.{NoneTouches}
use Rattle.comemo.proofs.Lateness.{none_touched}
use Rattle.comemo_track.specs.declared.multi.MultiCall.TheVariants as call
use Rattle.calc_core.specs.Files.{JoinedCall, JoinedAnswer}
use Rattle.calc_core.specs.Joined.{same_call, same_answer, touches}
use Rattle.calc_core.proofs.FileCalls.{same_calls, same_texts}

pub tests : KeyedTests same_call same_answer
tests = record {
  tells_calls = record { left = λ c d. refl; right = λ c d. refl };
  tells_answers = record { left = λ a b. refl; right = λ a b. refl };
  key_call = refl;
  key_answer = refl;
  calls = same_calls;
  answers = same_texts;
}

none_touches : NoneTouches touches
none_touches (call.A c) (call.A d) = refl
none_touches (call.A c) (call.B d) = refl
none_touches (call.B c) (call.A d) = refl
none_touches (call.B c) (call.B d) = refl

-- no recording of such calls is late that wasn't before
module _ {s t : Recording JoinedCall JoinedAnswer} (P : List (JoinedCall × JoinedAnswer)) (W : List JoinedCall) (took : Took same_call touches s t P W) where
  pub still_early : s.late ≡ false → t.late ≡ false
  still_early early = took.late ∙ ap (λ b. b || touched touches s.writes P) early ∙ none_touched touches none_touches s.writes P

  pub was_early : t.late ≡ false → s.late ≡ false
  was_early early = (neither s.late (touched touches s.writes P) (sym took.late ∙ early)).0
