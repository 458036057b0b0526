use Rattle.std.proofs.Common.{rules}
use Rattle.comemo_track.proofs.track.View.ask_through.Goals as goal

pub returns-clause-ok : goal.returns-clause-ok
returns-clause-ok g c = search rules
