use Rattle.std.proofs.Common.{rules}
use Rattle.comemo_track.proofs.both_mut.BothMutTrack.call_mut.Goals as goal

pub returns-in_ok-call_mut-in-B-clause-ok : goal.returns-in_ok-call_mut-in-B-clause-ok
returns-in_ok-call_mut-in-B-clause-ok g c = search rules

pub returns-in_ok-call_mut-in-B-clause-reads : goal.returns-in_ok-call_mut-in-B-clause-reads
returns-in_ok-call_mut-in-B-clause-reads g c = search rules
