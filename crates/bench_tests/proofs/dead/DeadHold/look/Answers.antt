use Rattle.std.proofs.Common.{[]}
use Rattle.comemo.proofs.Holding.{found_untold}
use Rattle.bench_tests.proofs.dead.DeadHold.look.Goals as goal

pub returns-then-eq-clause-found : goal.returns-then-eq-clause-found
returns-then-eq-clause-found g c = found_untold _ [] c.look.result (rw c.new-fresh.ensures at c.look.ensures.found)
