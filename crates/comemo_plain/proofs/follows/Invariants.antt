use Rattle.std.proofs.Common.{◌<◌, ℕ, IsTrue}
use Rattle.std.specs.Prelude.{slice_index_or}
use Rattle.comemo_plain.proofs.follows.Given as goal

-- the answers before i are the same
abbrev pub invariant-loop-i : goal.invariant-loop-i
invariant-loop-i g l = (k : ℕ) (d : _) → k < l.i → IsTrue (g.R.PartialEq.eq (slice_index_or l.path k d).1 (slice_index_or l.other k d).1)
