-- Calls and answers of two joined inputs.
use Rattle.std.specs.Prelude.{◌≡◌, Bool, false, List, [], ◌∷◌}
use Rattle.comemo_track.specs.declared.multi.MultiCall.{MultiCall}
use Rattle.comemo_track.specs.declared.multi.MultiCall.TheVariants as call
use Rattle.comemo_track.specs.declared.multi.MultiAnswer.{MultiAnswer}
use Rattle.comemo_track.specs.declared.multi.MultiAnswer.TheVariants as answer

module _ {X Y : Type 0} where
  -- a call of the first part, and one of the second
  abbrev pub first_call : X → MultiCall X Y
  first_call c = call.A c

  abbrev pub second_call : Y → MultiCall X Y
  second_call c = call.B c

  -- an answer of the first part, and one of the second
  abbrev pub first_answer : X → MultiAnswer X Y
  first_answer a = answer.A a

  abbrev pub second_answer : Y → MultiAnswer X Y
  second_answer a = answer.B a

  -- a value of the part's call
  abbrev pub by_part : {Z : Type 0} → (X → Z) → (Y → Z) → MultiCall X Y → Z
  by_part f g (call.A c) = f c
  by_part f g (call.B c) = g c

  -- a write touches a read of its part if the part says so, and no read of the other part
  abbrev pub part_touches : (X → X → Bool) → (Y → Y → Bool) → MultiCall X Y → MultiCall X Y → Bool
  part_touches f g (call.A c) (call.A d) = f c d
  part_touches f g (call.A c) (call.B d) = false
  part_touches f g (call.B c) (call.A d) = false
  part_touches f g (call.B c) (call.B d) = g c d

  -- the first property for a call of the first part, the second for a call of the second
  abbrev pub OnCall : (X → Type 0) → (Y → Type 0) → MultiCall X Y → Type 0
  OnCall P Q (call.A c) = P c
  OnCall P Q (call.B c) = Q c

  -- each call has its part's answer
  abbrev pub part_answers : {P Q : Type 0} → (X → P) → (Y → Q) → MultiCall X Y → MultiAnswer P Q
  part_answers m n (call.A c) = answer.A (m c)
  part_answers m n (call.B c) = answer.B (n c)

  -- the calls of the first part, in order
  abbrev pub firsts : List (MultiCall X Y) → List X
  firsts [] = []
  firsts (call.A c ∷ cs) = c ∷ firsts cs
  firsts (call.B c ∷ cs) = firsts cs

  -- the calls of the second part, in order
  abbrev pub seconds : List (MultiCall X Y) → List Y
  seconds [] = []
  seconds (call.A c ∷ cs) = seconds cs
  seconds (call.B c ∷ cs) = c ∷ seconds cs

  -- for the definition of a function of two arguments: a property of the answers of each part, where each call is answered by
  -- its part
  abbrev pub OnParts : {P Q : Type 0} → (MultiCall X Y → MultiAnswer P Q) → ((X → P) → (Y → Q) → Type 0) → Type 0
  OnParts {P} {Q} answers holds = (m : X → P) (n : Y → Q) → ((c : X) → answers (call.A c) ≡ answer.A (m c)) → ((c : Y) → answers (call.B c) ≡ answer.B (n c)) → holds m n
