-- Proofs of the laws that the traits demand of joined inputs. A reader needn't trust them.
use Rattle.std.proofs.Common.{◌≡◌, Bool, ◌||◌, IsTrue, List, [], ◌∷◌, ◌++◌, refl, sym, ap, subst}
use Rattle.comemo_base.specs.Answers.{Respects}
use Rattle.comemo_track.specs.Multi.{second_call, second_answer, firsts, seconds, part_touches}
use Rattle.comemo_track.specs.Writing.{touched_by}
use Rattle.comemo_track.specs.declared.multi.MultiCall.{MultiCall}
use Rattle.comemo_track.specs.declared.multi.MultiCall.TheVariants as call
use Rattle.comemo_track.specs.declared.multi.MultiAnswer.{MultiAnswer}
use Rattle.comemo_track.specs.declared.multi.MultiAnswer.TheVariants as answer

module _ {X Y : Type 0} where
  -- a property of two calls of one part, and of calls of different parts
  pub by_parts : (T : MultiCall X Y → MultiCall X Y → Type 0) → ((c d : X) → T (call.A c) (call.A d)) → ((c d : Y) → T (call.B c) (call.B d)) → ((c : X) (d : Y) → T (call.A c) (call.B d)) → ((c : Y) (d : X) → T (call.B c) (call.A d)) → (x y : MultiCall X Y) → T x y
  by_parts T p q r s (call.A c) (call.A d) = p c d
  by_parts T p q r s (call.B c) (call.B d) = q c d
  by_parts T p q r s (call.A c) (call.B d) = r c d
  by_parts T p q r s (call.B c) (call.A d) = s c d

  -- the same for answers
  pub by_answers : (T : MultiAnswer X Y → MultiAnswer X Y → Type 0) → ((a b : X) → T (answer.A a) (answer.A b)) → ((a b : Y) → T (answer.B a) (answer.B b)) → ((a : X) (b : Y) → T (answer.A a) (answer.B b)) → ((a : Y) (b : X) → T (answer.B a) (answer.A b)) → (x y : MultiAnswer X Y) → T x y
  by_answers T p q r s (answer.A a) (answer.A b) = p a b
  by_answers T p q r s (answer.B a) (answer.B b) = q a b
  by_answers T p q r s (answer.A a) (answer.B b) = r a b
  by_answers T p q r s (answer.B a) (answer.A b) = s a b

  pub firsts-append : (V W : List (MultiCall X Y)) → firsts (V ++ W) ≡ firsts V ++ firsts W
  firsts-append [] W = refl
  firsts-append (call.A c ∷ V) W = ap (λ x. c ∷ x) (firsts-append V W)
  firsts-append (call.B c ∷ V) W = firsts-append V W

  pub seconds-append : (V W : List (MultiCall X Y)) → seconds (V ++ W) ≡ seconds V ++ seconds W
  seconds-append [] W = refl
  seconds-append (call.A c ∷ V) W = seconds-append V W
  seconds-append (call.B c ∷ V) W = ap (λ x. c ∷ x) (seconds-append V W)

  -- only writes of its part touch a read
  pub touched_firsts : (f : X → X → Bool) (g : Y → Y → Bool) (W : List (MultiCall X Y)) (c : X) → touched_by (part_touches f g) W (call.A c) ≡ touched_by f (firsts W) c
  touched_firsts f g [] c = refl
  touched_firsts f g (call.A d ∷ W) c = ap (λ b. f d c || b) (touched_firsts f g W c)
  touched_firsts f g (call.B d ∷ W) c = touched_firsts f g W c

  pub touched_seconds : (f : X → X → Bool) (g : Y → Y → Bool) (W : List (MultiCall X Y)) (c : Y) → touched_by (part_touches f g) W (call.B c) ≡ touched_by g (seconds W) c
  touched_seconds f g [] c = refl
  touched_seconds f g (call.A d ∷ W) c = touched_seconds f g W c
  touched_seconds f g (call.B d ∷ W) c = ap (λ b. g d c || b) (touched_seconds f g W c)

  -- a property of the calls of either part
  pub by_each : (T : MultiCall X Y → Type 0) → ((c : X) → T (call.A c)) → ((c : Y) → T (call.B c)) → (x : MultiCall X Y) → T x
  by_each T p q (call.A c) = p c
  by_each T p q (call.B c) = q c

  -- answers that treat equal calls alike do so at the second part
  pub second_respects : {P Q : Type 0} (eq : MultiCall X Y → MultiCall X Y → Bool) (same : MultiAnswer P Q → MultiAnswer P Q → Bool) (m : MultiCall X Y → MultiAnswer P Q) (n : Y → Q) → Respects eq same m → ((c : Y) → m (second_call c) ≡ second_answer (n c)) → Respects (λ c d. eq (second_call c) (second_call d)) (λ a b. same (second_answer a) (second_answer b)) n
  second_respects eq same m n respects second c d h = subst (λ b. IsTrue (same (second_answer (n c)) b)) (second d) (subst (λ a. IsTrue (same a (m (second_call d)))) (second c) (respects (second_call c) (second_call d) h))

  module _ {S T : Type 0} {did : S → S → List X → Type 0} {does : T → T → List Y → Type 0}
      (joins : (s t u : S) (V W : List X) → did s t V → did t u W → did s u (V ++ W))
      (joined : (s t u : T) (V W : List Y) → does s t V → does t u W → does s u (V ++ W)) where
    pub both_did : (s t u : S × T) (V W : List (MultiCall X Y)) → did s.0 t.0 (firsts V) × does s.1 t.1 (seconds V) → did t.0 u.0 (firsts W) × does t.1 u.1 (seconds W) → did s.0 u.0 (firsts (V ++ W)) × does s.1 u.1 (seconds (V ++ W))
    both_did s t u V W a b = (
      subst (λ x. did s.0 u.0 x) (sym (firsts-append V W)) (joins s.0 t.0 u.0 (firsts V) (firsts W) a.0 b.0),
      subst (λ x. does s.1 u.1 x) (sym (seconds-append V W)) (joined s.1 t.1 u.1 (seconds V) (seconds W) a.1 b.1),
    )
