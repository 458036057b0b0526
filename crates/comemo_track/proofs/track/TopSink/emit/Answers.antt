use Rattle.std.proofs.Common.{rules}
use Rattle.comemo_track.proofs.track.TopSink.emit.Goals as goal

pub returns : goal.returns
returns g c = search rules
