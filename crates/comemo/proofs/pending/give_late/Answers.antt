use Rattle.comemo_cache.proofs.Sendings.{on_err}
use Rattle.comemo.proofs.pending.give_late.Goals as goal

pub give_recording-requires-clause-reads : goal.give_recording-requires-clause-reads
give_recording-requires-clause-reads g c = rw c.into_parts-reads.ensures.pairs c.into_parts-reads.ensures.are_reads

pub give_recording-requires-clause-written : goal.give_recording-requires-clause-written
give_recording-requires-clause-written g c = rw c.into_parts-reads.ensures.writes c.into_parts-reads.ensures.are_writes

pub returns-clause-ok : goal.returns-clause-ok
returns-clause-ok g c = (c.give_recording.new.sink, rw (← c.into_parts-reads.ensures.pairs, ← c.into_parts-reads.ensures.writes) c.in_ok-give_recording.ensures.ok, c.late.ensures)

pub returns-in_err-give_recording-clause-err : goal.returns-in_err-give_recording-clause-err
returns-in_err-give_recording-clause-err g c = on_err c.from_residual.result (rw (← c.into_parts-reads.ensures.pairs) c.in_err-give_recording.ensures.err)
