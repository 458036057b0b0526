use Rattle.std.proofs.Common.{rules}
use Rattle.comemo.proofs.RecordersMut.{goes_both, right_on_parts}
use Rattle.comemo_examples.proofs.read_and_write.AddsOneMoreRunMutReadAndWriteTownCounterCacheDataAdds.run.Goals as goal

pub returns-in_err-sum-clause-goes : goal.returns-in_err-sum-clause-goes
returns-in_err-sum-clause-goes c = goes_both c.in_ok-degrees.ensures.tells.goes c.in_err-sum.ensures.tells.goes

pub returns-clause-goes : goal.returns-clause-goes
returns-clause-goes c = goes_both c.in_ok-degrees.ensures.tells.goes c.in_ok-sum.ensures.tells.goes

pub returns-clause-right : goal.returns-clause-right
returns-clause-right c = λ m f. right_on_parts m (λ town counter p q.
    let sum = c.in_ok-sum.ensures.tells.told m f in
    let adds = sum.2.2 counter q in
    let degrees = c.in_ok-degrees.ensures.tells.told m (c.in_ok-sum.ensures.tells.before m f) town p in
    search (rules, sum.1, sum.2.1, adds.0, adds.1, degrees))
