use Rattle.std.proofs.Common.{rules}
use Rattle.comemo.proofs.RecordersMut.{goes_both, right_on_parts}
use Rattle.comemo_examples.proofs.read_and_write.AddsDegreesRunMutReadAndWriteTownCounterUnit.run.Goals as goal

pub returns-in_err-degrees-clause-goes : goal.returns-in_err-degrees-clause-goes
returns-in_err-degrees-clause-goes c = goes_both c.in_ok-number.ensures.tells.goes c.in_err-degrees.ensures.tells.goes

pub returns-clause-goes : goal.returns-clause-goes
returns-clause-goes c = goes_both c.in_ok-number.ensures.tells.goes (goes_both c.in_ok-degrees.ensures.tells.goes c.in_ok-write_part.ensures.tells.goes)

pub returns-clause-right : goal.returns-clause-right
returns-clause-right c = λ m f. right_on_parts m (λ town counter p q.
    let asked = c.in_ok-write_part.ensures.tells.before m f in
    search (rules, c.in_ok-degrees.ensures.tells.told m asked town p, c.in_ok-number.ensures.tells.told m (c.in_ok-degrees.ensures.tells.before m asked) counter q))
