use Rattle.std.proofs.Common.{◌≡◌}
use Rattle.comemo_branches.proofs.waits.Waits.begin_each.Given as goal

abbrev pub invariant-loop-key : goal.invariant-loop-key
invariant-loop-key g l = l.self ≡ l.fn.self
