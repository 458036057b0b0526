use Rattle.std.proofs.Common.{◌≡◌, true, All}
use Rattle.bench_rows.proofs.steps.writes.Given as goal

-- what was made so far are writes
abbrev pub invariant-loop-number : goal.invariant-loop-number
invariant-loop-number l = All (λ c. c.writes ≡ true) l.writes.items
