use Rattle.std.proofs.Common.{rules, refl}
use Rattle.comemo_tests.proofs.Failing.{given_up}
use Rattle.comemo.proofs.Calls.{of_memory, never_refused}
use Rattle.comemo_tests.proofs.inputs.lent_location.Goals as goal

pub returns-in-Ok-Hit-clause-output : goal.returns-in-Ok-Hit-clause-output
returns-in-Ok-Hit-clause-output g c =
    let hit = (rw (c.in-Ok-Hit.is, c.in-Ok-Hit.field-0-is) at c.begin.ensures.hit).0 in
    (hit.stands _ (λ x y h. search rules) hit.agrees).1

pub returns-in_default-clause-err : goal.returns-in_default-clause-err
returns-in_default-clause-err g c =
    let run = rw (c.in-Ok-Run.is, c.in-Ok-Run.field-0-is) at c.begin.ensures.run in
    given_up g.met.S.Sink.starts run.3 _ _ (rw run.2 at c.give_up.ensures)

pub returns-in-Err-clause-err : goal.returns-in-Err-clause-err
returns-in-Err-clause-err g c =
    let memory = of_memory c.in-Err.fault _ (rw c.in-Err.is at c.begin.ensures.err) (λ write. never_refused write.1 (λ c. refl)) in
    (memory.0, (memory.2.pairs, memory.2.is_broken))
