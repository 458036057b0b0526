-- What stays known in a round, and how a round fails.
use Rattle.std.proofs.Common.{◌≡◌, ◌∙◌, sym, refl, ap, subst, IsTrue, List, Bool, true, false, Some, inl, inr, cond, is_some, Result, Ok, Err, IfErr}
use Rattle.std.specs.Map.{lookup}
use Rattle.comemo.specs.Rounds.{Learns, FailsBy}
use Rattle.comemo.specs.declared.pending.Fault.{Fault}
use Rattle.comemo.specs.declared.round.RoundError.{RoundError}
use Rattle.comemo.specs.declared.round.RoundError.TheVariants as error
use Rattle.comemo_base.specs.Sequence.{held}

-- what was known stays known if an output is learnt
pub learnt_stays : {K O : Type 0} (eq : K → K → Bool) (before after : List (K × O)) (key : K) (output : O) → Learns eq before key output after → (at : K) → IsTrue (held eq before at) → IsTrue (held eq after at)
learnt_stays eq before after key output learns at is = ap is_some (learns at) ∙ either (eq key at)
  where
    either : (b : Bool) → is_some (cond b (Some output) (lookup (eq at) before)) ≡ true
    either true = refl
    either false = is

-- a failure that isn't a function's is one of any
pub fails_so : {K : Type 0} (fails : K → Fault → Type 0) → (e : RoundError K) → FailsBy (λ _ _. ⊥) e → FailsBy fails e
fails_so fails (error.Fault f) (inl memory) = inl memory
fails_so fails (error.Fault f) (inr none) = absurd none.1
fails_so fails (error.Circle key) is = tt

-- and so is one that is passed on
pub passed_on : {A K : Type 0} (fails : K → Fault → Type 0) (r : Result A (RoundError K)) (e : RoundError K) → IfErr r (λ x. x ≡ e) → FailsBy (λ _ _. ⊥) e → IfErr r (FailsBy fails)
passed_on fails (Ok a) e same is = tt
passed_on fails (Err x) e same is = subst (FailsBy fails) (sym same) (fails_so fails e is)
