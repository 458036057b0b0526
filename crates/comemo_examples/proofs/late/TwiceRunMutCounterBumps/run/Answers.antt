use Rattle.std.proofs.Common.{refl}
use Rattle.comemo_examples.proofs.late.TwiceRunMutCounterBumps.run.Goals as goal

pub returns-clause-right : goal.returns-clause-right
returns-clause-right g c = λ m f.
    let one = c.in_ok-first.ensures.tells.told m (c.in_ok-second.ensures.tells.before m f) in
    let two = c.in_ok-second.ensures.tells.told m f in
    (rw (two.1, one.1, c.requires.begins, one.2.0, two.2.0) refl, tt)
