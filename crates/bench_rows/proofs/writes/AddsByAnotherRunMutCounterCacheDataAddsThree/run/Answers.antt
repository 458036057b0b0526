use Rattle.std.proofs.Common.{refl}
use Rattle.bench_rows.proofs.writes.AddsByAnotherRunMutCounterCacheDataAddsThree.run.Goals as goal

pub returns-clause-right : goal.returns-clause-right
returns-clause-right c = λ m f.
    let one = c.in_ok-call_mut.ensures.tells.told m f in
    (rw (one.1, c.requires.begins, one.2.0) refl, tt)
