use Rattle.std.proofs.Common.{◌≡◌, false, All}
use Rattle.bench_rows.proofs.steps.reads.Given as goal

-- what was made so far are reads
abbrev pub invariant-loop-pair : goal.invariant-loop-pair
invariant-loop-pair l = All (λ p. p.0.writes ≡ false) l.reads.items
