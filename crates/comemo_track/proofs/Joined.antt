-- For authors of functions of two arguments: calls and answers of joined inputs are told apart by their parts.
use Rattle.std.proofs.Common.{◌≡◌, Bool, true, false, sym, ◌∙◌}
use Rattle.std.specs.Cmp.{IsEquivalence}
use Rattle.comemo_base.specs.Answers.{Respects}
use Rattle.comemo_track.specs.Multi.{part_answers}
use Rattle.comemo_track.specs.declared.multi.MultiCall.{MultiCall}
use Rattle.comemo_track.specs.declared.multi.MultiCall.TheVariants as call
use Rattle.comemo_track.specs.declared.multi.MultiAnswer.{MultiAnswer}
use Rattle.comemo_track.specs.declared.multi.MultiAnswer.TheVariants as answer

-- a test of calls that never takes a call of one part for one of the other
pub record TellsCalls {X Y : Type 0} (eq : MultiCall X Y → MultiCall X Y → Bool) : Type 0 where
  pub left : (c : X) (d : Y) → eq (call.A c) (call.B d) ≡ false
  pub right : (c : Y) (d : X) → eq (call.B c) (call.A d) ≡ false

-- the same of answers
pub record TellsAnswers {X Y : Type 0} (same : MultiAnswer X Y → MultiAnswer X Y → Bool) : Type 0 where
  pub left : (a : X) (b : Y) → same (answer.A a) (answer.B b) ≡ false
  pub right : (a : Y) (b : X) → same (answer.B a) (answer.A b) ≡ false

false_is_true : {Z : Type 0} {b : Bool} → b ≡ false → b ≡ true → Z
false_is_true e h = let f : false ≡ true = sym e ∙ h in cc

module _ {X Y : Type 0} {eq : MultiCall X Y → MultiCall X Y → Bool} (tells : TellsCalls eq) (first : IsEquivalence (λ c d. eq (call.A c) (call.A d))) (second : IsEquivalence (λ c d. eq (call.B c) (call.B d))) where
  calls_refl : (x : MultiCall X Y) → eq x x ≡ true
  calls_refl (call.A c) = first.refl c
  calls_refl (call.B c) = second.refl c

  calls_symm : (x y : MultiCall X Y) → eq x y ≡ eq y x
  calls_symm (call.A c) (call.A d) = first.symm c d
  calls_symm (call.A c) (call.B d) = tells.left c d ∙ sym (tells.right d c)
  calls_symm (call.B c) (call.A d) = tells.right c d ∙ sym (tells.left d c)
  calls_symm (call.B c) (call.B d) = second.symm c d

  calls_congr : (x y z : MultiCall X Y) → eq x y ≡ true → eq x z ≡ eq y z
  calls_congr (call.A c) (call.A d) (call.A e) h = first.congr c d e h
  calls_congr (call.A c) (call.A d) (call.B e) h = tells.left c e ∙ sym (tells.left d e)
  calls_congr (call.B c) (call.B d) (call.A e) h = tells.right c e ∙ sym (tells.right d e)
  calls_congr (call.B c) (call.B d) (call.B e) h = second.congr c d e h
  calls_congr (call.A c) (call.B d) z h = false_is_true (tells.left c d) h
  calls_congr (call.B c) (call.A d) z h = false_is_true (tells.right c d) h

  -- calls of joined inputs are told apart by an equivalence where those of the parts are
  pub joined_calls : IsEquivalence eq
  joined_calls = record { refl = calls_refl; symm = calls_symm; congr = calls_congr }

module _ {X Y : Type 0} {same : MultiAnswer X Y → MultiAnswer X Y → Bool} (tells : TellsAnswers same) (first : IsEquivalence (λ a b. same (answer.A a) (answer.A b))) (second : IsEquivalence (λ a b. same (answer.B a) (answer.B b))) where
  answers_refl : (x : MultiAnswer X Y) → same x x ≡ true
  answers_refl (answer.A a) = first.refl a
  answers_refl (answer.B a) = second.refl a

  answers_symm : (x y : MultiAnswer X Y) → same x y ≡ same y x
  answers_symm (answer.A a) (answer.A b) = first.symm a b
  answers_symm (answer.A a) (answer.B b) = tells.left a b ∙ sym (tells.right b a)
  answers_symm (answer.B a) (answer.A b) = tells.right a b ∙ sym (tells.left b a)
  answers_symm (answer.B a) (answer.B b) = second.symm a b

  answers_congr : (x y z : MultiAnswer X Y) → same x y ≡ true → same x z ≡ same y z
  answers_congr (answer.A a) (answer.A b) (answer.A e) h = first.congr a b e h
  answers_congr (answer.A a) (answer.A b) (answer.B e) h = tells.left a e ∙ sym (tells.left b e)
  answers_congr (answer.B a) (answer.B b) (answer.A e) h = tells.right a e ∙ sym (tells.right b e)
  answers_congr (answer.B a) (answer.B b) (answer.B e) h = second.congr a b e h
  answers_congr (answer.A a) (answer.B b) z h = false_is_true (tells.left a b) h
  answers_congr (answer.B a) (answer.A b) z h = false_is_true (tells.right a b) h

  -- and so are answers
  pub joined_answers : IsEquivalence same
  joined_answers = record { refl = answers_refl; symm = answers_symm; congr = answers_congr }

-- joined answers are alike for equal calls where those of the parts are
pub joined_respect : {X Y P Q : Type 0} {eq : MultiCall X Y → MultiCall X Y → Bool} (same : MultiAnswer P Q → MultiAnswer P Q → Bool) → TellsCalls eq → (m : X → P) (n : Y → Q) → Respects (λ c d. eq (call.A c) (call.A d)) (λ a b. same (answer.A a) (answer.A b)) m → Respects (λ c d. eq (call.B c) (call.B d)) (λ a b. same (answer.B a) (answer.B b)) n → Respects eq same (part_answers m n)
joined_respect same tells m n p q (call.A c) (call.A d) h = p c d h
joined_respect same tells m n p q (call.B c) (call.B d) h = q c d h
joined_respect same tells m n p q (call.A c) (call.B d) h = false_is_true (tells.left c d) h
joined_respect same tells m n p q (call.B c) (call.A d) h = false_is_true (tells.right c d) h
