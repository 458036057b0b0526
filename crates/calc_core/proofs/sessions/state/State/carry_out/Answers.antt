use Rattle.std.proofs.Common.{refl, sym, subst}
use Rattle.calc_core.specs.Remembered.{Knows}
use Rattle.calc_core.proofs.EachAnswer.{knows_nothing, after_memory}
use Rattle.calc_core.specs.Sessions.{written, evicted, no_memory}
use Rattle.calc_core.proofs.sessions.state.State.carry_out.Goals as goal

pub returns-in-Ok-clause-answer : goal.returns-in-Ok-clause-answer
returns-in-Ok-clause-answer c = rw c.in-Write.is (written c.in-Ok.ensures.ok)

pub returns-in-Err-clause-answer : goal.returns-in-Err-clause-answer
returns-in-Err-clause-answer c = no_memory c.in-Err.ensures.err

pub returns-in-Evict-clause-answer : goal.returns-in-Evict-clause-answer
returns-in-Evict-clause-answer c = rw c.in-Evict.is (evicted (λ path. refl))

pub returns-in-Ok-clause-recalls : goal.returns-in-Ok-clause-recalls
returns-in-Ok-clause-recalls c = rw c.in-Write.is (λ past knows. (tt, subst (λ es. Knows past es) (sym c.in-Ok.ensures.evaluated) knows))

pub returns-in-Err-clause-recalls : goal.returns-in-Err-clause-recalls
returns-in-Err-clause-recalls c = λ past knows. after_memory past _ _ _ (subst (λ es. Knows past es) (sym c.in-Err.ensures.evaluated) knows)

pub returns-in-Eval-clause-recalls : goal.returns-in-Eval-clause-recalls
returns-in-Eval-clause-recalls c = rw c.in-Eval.is c.value_of.ensures.recalls

pub returns-in-Size-clause-recalls : goal.returns-in-Size-clause-recalls
returns-in-Size-clause-recalls c = rw c.in-Size.is (λ past knows. (tt, subst (λ es. Knows past es) (sym c.size_at.ensures.evaluated) knows))

pub returns-in-Evict-clause-recalls : goal.returns-in-Evict-clause-recalls
returns-in-Evict-clause-recalls c = rw c.in-Evict.is (λ past knows. (tt, knows_nothing _))
