-- What is kept is what the value answers.
use Rattle.std.proofs.Common.{◌≡◌, ◌∙◌, Bool, IsTrue, Some, inl, inr, subst, sym}
use Rattle.std.proofs.lemmas.Bool.{cases_Bool}
use Rattle.std.proofs.lemmas.Option.{same_Some}
use Rattle.std.specs.Cmp.{IsEquivalence}
use Rattle.std.specs.HashMap.{HashMap, Updates}
use Rattle.std.specs.Map.{lookup}
use Rattle.comemo.specs.Answers.{Respects}
use Rattle.comemo.proofs.Paths.{joined}
use Rattle.comemo.proofs.Texts.{told_of_equal}
use Rattle.comemo_kept.specs.Saying.{SaysAlike, SaysJust}

-- a value's answers, up to equality, are alike for equal calls
pub alike_of : {C R : Type 0} {eq : C → C → Bool} {same : R → R → Bool} (laws : IsEquivalence same) (m : C → R) → Respects eq same m → (says : C → R → Bool) → SaysJust says same m → SaysAlike eq same says
alike_of laws m respects says is c d a b calls answers said =
    is d b ∙ joined laws (m d) a b (told_of_equal m respects laws c d a calls (sym (is c a) ∙ said)) answers

-- where an answer is put under a call that it is said of, what is found is still said
pub said_put : {C R S : Type 0} {eq : C → C → Bool} {same : R → R → Bool} (laws : IsEquivalence same) (says : C → R → Bool) → SaysAlike eq same says → (before after : HashMap C R S) (key : C) (kept : R) → IsTrue (says key kept) → Updates eq before after key (Some kept)
    → ((call : C) (answer : R) → lookup (eq call) before.entries ≡ Some answer → IsTrue (says call answer)) → (call : C) (answer : R) → lookup (eq call) after.entries ≡ Some answer → IsTrue (says call answer)
said_put {C} {R} {S} {eq} {same} laws says alike before after key kept key_said put said = λ call answer found.
    elim (cases_Bool (eq key call)) [
      | inl e ↦ subst (λ x. IsTrue (says call x)) (same_Some kept answer (sym (rw e at (put.0 call)) ∙ found)) (alike key call kept kept e (laws.refl kept) key_said)
      | inr e ↦ said call answer (sym (rw e at (put.0 call)) ∙ found)
    ]
