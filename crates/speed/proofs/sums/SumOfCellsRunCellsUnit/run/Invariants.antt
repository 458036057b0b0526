use Rattle.std.proofs.Common.{◌≡◌}
use Rattle.speed.proofs.sums.SumOfCellsRunCellsUnit.run.Given as goal

-- the cells that are asked stay the same
abbrev pub invariant-loop-place : goal.invariant-loop-place
invariant-loop-place l = l.cells.value ≡ l.initial.cells.value
