use Rattle.std.proofs.Common.{rules}
use Rattle.comemo_track.proofs.track.View.ask.Goals as goal

pub returns-clause-ok : goal.returns-clause-ok
returns-clause-ok g c = record { gives = search rules; noted = c.in_ok-noted.noted; alike = search rules; sent = search rules }
