use Rattle.std.proofs.Common.{rules}
use Rattle.comemo_examples.proofs.adding.AddsTwiceRunMutCounterCacheDataAdds.run.Goals as goal

pub returns-clause-right : goal.returns-clause-right
returns-clause-right c = λ m f.
    let one = c.in_ok-once.ensures.tells.told m (c.in_ok-twice.ensures.tells.before m f) in
    let two = c.in_ok-twice.ensures.tells.told m f in
    rw (two.1, one.1, c.requires.begins, one.2.0, two.2.0) (search (rules, one.2.1, two.2.1))
