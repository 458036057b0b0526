use Rattle.std.proofs.lemmas.Result.{on_ok_weaker}
use Rattle.comemo.proofs.Closures.{mapped_err}
use Rattle.comemo_cache.proofs.Writings.{took_run, broke_after}
use Rattle.comemo.proofs.pending.give_recording.Goals as goal

pub returns-clause-ok : goal.returns-clause-ok
returns-clause-ok g c = on_ok_weaker c.give_writes.result (took_run g.met.S.Sink.joins _ _ _ c.args.reads.pairs c.args.writes.items c.in_ok-give_reads.ensures.ok) c.give_writes.ensures.ok

pub returns-clause-err : goal.returns-clause-err
returns-clause-err g c = mapped_err (broke_after g.met.S.Sink.joins _ _ _ c.args.reads.pairs c.in_ok-give_reads.ensures.ok) c.give_writes.result c.give_writes.ensures.err
