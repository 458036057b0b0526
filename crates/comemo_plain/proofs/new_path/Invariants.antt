use Rattle.std.proofs.Common.{◌≡◌, ◌++◌, length}
use Rattle.comemo_plain.proofs.new_path.Given as goal

-- the path so far and what is left are the path at the start of the loop, and what was left then
abbrev pub invariant-rest : goal.invariant-rest
invariant-rest g l = l.path.items ++ l.sequence.pairs ≡ l.initial.path.items ++ l.initial.sequence.pairs

abbrev pub decreases-rest : goal.decreases-rest
decreases-rest g l = length l.sequence.pairs
