-- What was right by the reads of a key stays right where a change does not reach the key.
use Rattle.std.specs.Prelude.{◌≡◌, Bool, true, false, List, [], ◌∷◌, IsTrue, Option, Some, is_some, refl}
use Rattle.std.proofs.Common.{cond, sym, ap, ◌∙◌}
use Rattle.std.specs.Cmp.{IsEquivalence}
use Rattle.std.specs.List.{AllByRecursion, list_any}
use Rattle.std.specs.Map.{lookup}
use Rattle.comemo_base.specs.Answers.{Agrees}
use Rattle.comemo_base.specs.Sequence.{held}
use Rattle.comemo_dependents.specs.Dependents.{KeepsAnswers}

-- what holds of the calls of reads holds of the call of each read
pub of_each : {C R : Type 0} (eq : C → C → Bool) → ((call : C) → eq call call ≡ true) → (P : C → Type 0) (reads : List (C × R)) → ((call : C) → held eq reads call ≡ true → P call) → AllByRecursion (λ read. P read.0) reads
of_each eq itself P [] holds = tt
of_each {R = R} eq itself P (read ∷ reads) holds = (
  holds read.0 (ap (λ b. is_some (cond b (Some read.1) (lookup (eq read.0) reads))) (itself read.0)),
  of_each eq itself P reads (λ call h. holds call (more (eq call read.0) read.1 (lookup (eq call) reads) h)),
)
  where
    more : (b : Bool) (x : R) (o : Option R) → is_some o ≡ true → is_some (cond b (Some x) o) ≡ true
    more true x o h = refl
    more false x o h = h

module _ {C R : Type 0} {same_call : C → C → Bool} (calls : IsEquivalence same_call) {same : R → R → Bool} (answers : IsEquivalence same) (m n : C → R) where
  agrees_still : (reads : List (C × R)) → AllByRecursion (λ read. same (m read.0) (n read.0) ≡ true) reads → Agrees same m reads → Agrees same n reads
  agrees_still [] alike agrees = tt
  agrees_still (read ∷ reads) alike agrees =
      (sym (answers.congr (m read.0) (n read.0) read.1 alike.0) ∙ agrees.0, agrees_still reads alike.1 agrees.1)

  -- the answers changed at these calls alone, and what holds of all answers that agree with the reads of a key was right before
  pub right_unreached : (right : (C → R) → Type 0) (reads : List (C × R)) → ((l : C → R) → Agrees same l reads → right l) → (changed : List C) → ((call : C) → list_any (same_call call) changed ≡ false → IsTrue (same (m call) (n call))) → KeepsAnswers same_call changed (held same_call reads) → Agrees same m reads → right n
  right_unreached right reads by_reads changed kept unreached agrees =
      by_reads n (agrees_still reads (of_each same_call calls.refl (λ call. same (m call) (n call) ≡ true) reads (unreached (λ call. same (m call) (n call)) kept)) agrees)
