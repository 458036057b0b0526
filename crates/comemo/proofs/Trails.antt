-- What look-ups were answered, as a list of pairs.
use Rattle.std.proofs.Common.{◌≡◌, ◌∙◌, sym, subst, IsTrue, List, ℕ, ◌<◌, length, slice_index_or, Bool, true}
use Rattle.std.specs.Cmp.{IsEquivalence}
use Rattle.comemo_base.specs.Answers.{Respects}
use Rattle.comemo.specs.Trail.{IsTrail}

module _ {C R : Type 0} {eq : C → C → Bool} {same : R → R → Bool} (answers : IsEquivalence same) (m : C → R) (respects : Respects eq same m) where
  -- the answer of a pair is one to an equal call
  pub answer_to : (p : C × R) → IsTrue (same (m p.0) p.1) → (call : C) → IsTrue (eq p.0 call) → IsTrue (same (m call) p.1)
  answer_to p is call e = sym (answers.congr (m p.0) (m call) p.1 (respects p.0 call e)) ∙ is

  -- the pair at a place of a trail answers an equal call
  pub trail_answers : (pairs : List (C × R)) → IsTrail same m pairs → (i : ℕ) → i < length pairs → (p : C × R) → ((d : C × R) → p ≡ slice_index_or pairs i d) → (call : C) → IsTrue (eq p.0 call) → IsTrue (same (m call) p.1)
  trail_answers pairs trail i short p at call e = answer_to p (subst (λ q. IsTrue (same (m q.0) q.1)) (sym (at p)) (trail i p short)) call e

  -- a copy of a pair is one too
  pub answer_copied : (call copy : C) (answer other : R) → IsTrue (eq call copy) → IsTrue (same answer other) → IsTrue (same (m call) answer) → IsTrue (same (m copy) other)
  answer_copied call copy answer other c a is = sym (answers.congr (m call) (m copy) other (respects call copy c)) ∙ sym (answers.congr answer (m call) other (answers.symm answer (m call) ∙ is)) ∙ a
