use Rattle.std.proofs.Common.{◌≡◌, false, take}
use Rattle.comemo_base.specs.Sequence.{remaining}
use Rattle.comemo_track.specs.Writing.{touched}
use Rattle.comemo_track.proofs.constraint.touch_some.Given as goal

-- no write touches a read so far
abbrev pub invariant-loop-slot : goal.invariant-loop-slot
invariant-loop-slot g l = touched g.C.Call.touches l.fn.writes.items (remaining (take l.slot-index l.slot-items)) ≡ false
