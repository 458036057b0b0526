use Rattle.std.proofs.Common.{◌≡◌, ◌∙◌, Result, Ok, Err, IfErr, rules, sym}
use Rattle.comemo.proofs.Recursions.{tells_own}
use Rattle.comemo.specs.declared.pending.Fault.{Fault}
use Rattle.comemo.specs.declared.pending.Fault.TheVariants as fault
use Rattle.comemo_branches.proofs.Joining.{told_so}
use Rattle.comemo_layers_tests.proofs.turns.number.Goals as goal

never_incomplete : {X : Type 0} (A : Type 0) (r : Result X Fault) → IfErr r (λ f. (f ≡ fault.Memory) × A) → IfErr r (λ f. f ≡ fault.Incomplete → ⊥)
never_incomplete A (Ok x) h = tt
never_incomplete A (Err f) h = λ e. let no : fault.Memory ≡ fault.Incomplete = sym h.0 ∙ e in cc

pub returns : goal.returns
returns c = told_so c.ask.result (tells_own c.ask.result c.ask.ensures.tells (never_incomplete _ c.ask.result c.ask.ensures.err)) (λ number m told. search rules)
