use Rattle.std.proofs.Common.{rules}
use Rattle.comemo_track.proofs.mapped.MappedSinkSink.emit.Goals as goal

pub returns-clause-ok : goal.returns-clause-ok
returns-clause-ok g c = search rules

pub returns-clause-new : goal.returns-clause-new
returns-clause-new g c = search rules
