use Rattle.std.proofs.Common.{rules}
use Rattle.comemo.proofs.RecordersMut.{goes_both, right_on_parts}
use Rattle.comemo_examples.proofs.both_written.NotesAndAddsRunMutBothMutCounterNotebookCacheDataAdds.run.Goals as goal

pub returns-in_err-call_mut_part-clause-goes : goal.returns-in_err-call_mut_part-clause-goes
returns-in_err-call_mut_part-clause-goes c = goes_both c.in_ok-number.ensures.tells.goes (goes_both c.in_ok-write_part.ensures.tells.goes c.in_err-call_mut_part.ensures.tells.goes)

pub returns-clause-goes : goal.returns-clause-goes
returns-clause-goes c = goes_both c.in_ok-number.ensures.tells.goes (goes_both c.in_ok-write_part.ensures.tells.goes c.in_ok-call_mut_part.ensures.tells.goes)

pub returns-clause-right : goal.returns-clause-right
returns-clause-right c = λ m f. right_on_parts m (λ counter book p q.
    let called = c.in_ok-call_mut_part.ensures.tells in
    let adds = called.told m f in
    let own = adds.2.2 counter p in
    let number = c.in_ok-number.ensures.tells.told m (c.in_ok-write_part.ensures.tells.before m (called.before m f)) counter p in
    rw (adds.1, adds.2.1, own.0, c.in_ok-write_part.ensures.sent.writes, c.in_ok-number.ensures.writes, c.requires.begins) (search (rules, number)))
