use Rattle.std.proofs.Common.{◌≡◌, drop}
use Rattle.comemo_track.specs.Writing.{touched_by}
use Rattle.comemo_track.proofs.constraint.touch.Given as goal

-- the writes so far don't touch the read
abbrev pub invariant-loop-write : goal.invariant-loop-write
invariant-loop-write g l = touched_by g.C.Call.touches (drop l.write-index l.write-items) l.fn.read ≡ touched_by g.C.Call.touches l.fn.writes.items l.fn.read
