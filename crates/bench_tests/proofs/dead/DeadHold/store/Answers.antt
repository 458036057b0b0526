use Rattle.std.proofs.Common.{Result, Ok, Err, IfErr, Option, None, []}
use Rattle.comemo.specs.Held.{Held}
use Rattle.comemo.proofs.Holding.{stored_in}
use Rattle.bench_tests.proofs.dead.DeadHold.store.Goals as goal

pub returns-then-eq-clause-stored : goal.returns-then-eq-clause-stored
returns-then-eq-clause-stored g c = stored_in _ _ _ c.store.result c.store.ensures.stored

told : {E A X : Type 0} (Q : E → X → Type 0) (es : E) (r : Result A X) → IfErr r (λ x. Q es x) → IfErr r (λ x. Held None (λ e. Q e x))
told Q es (Ok v) p = tt
told Q es (Err e) p = (es, p)

pub returns-then-eq-clause-reason : goal.returns-then-eq-clause-reason
returns-then-eq-clause-reason g c = told _ [] c.store.result (rw c.new-fresh.ensures at c.store.ensures.reason)
