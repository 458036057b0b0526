use Rattle.comemo_tree_tests.specs.CountedCalls.{IsDraft}
use Rattle.comemo_tree_tests.proofs.counted.begin.Given as goal

-- each call so far is asked whatever the answers
abbrev pub invariant-loop : goal.invariant-loop
invariant-loop l = IsDraft l.key l.run
