use Rattle.std.proofs.Common.{rules}
use Rattle.comemo_tests.proofs.tracked.known_location.Goals as goal

pub returns-in-Ok-Hit-clause-output : goal.returns-in-Ok-Hit-clause-output
returns-in-Ok-Hit-clause-output c =
    let hit = (rw (c.in-Ok-Hit.is, c.in-Ok-Hit.field-0-is) at c.begin.ensures.hit).0 in
    (hit.stands _ (λ x y h. search rules) hit.agrees).1
