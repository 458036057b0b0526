use Rattle.std.proofs.Common.{[]}
use Rattle.comemo.proofs.Holding.{found_untold}
use Rattle.bench_tests.proofs.dead.DeadHold.peek.Goals as goal

pub returns-then-eq-clause-found : goal.returns-then-eq-clause-found
returns-then-eq-clause-found g c = found_untold _ [] c.peek.result (rw c.new-fresh.ensures at c.peek.ensures.found)
