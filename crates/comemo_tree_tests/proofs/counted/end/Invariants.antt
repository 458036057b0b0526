use Rattle.std.proofs.Common.{◌<◌, ℕ, nat_eq, IsTrue}
use Rattle.comemo_base.specs.Sequence.{held}
use Rattle.comemo_base.specs.Answers.{Agrees}
use Rattle.comemo_tree_tests.specs.CountedCalls.{IsDraft}
use Rattle.comemo_tree_tests.proofs.counted.end.Given as goal

-- each call was asked in turn, and what agrees now agreed before
abbrev pub invariant-loop : goal.invariant-loop
invariant-loop l = record {
  draft : IsDraft l.key l.run;
  agrees : (m : ℕ → ℕ) → Agrees nat_eq m l.run.pairs → Agrees nat_eq m l.fn.run.pairs;
}

-- this still holds, and the calls below this one were asked
abbrev pub invariant-loop-call : goal.invariant-loop-call
invariant-loop-call l = record {
  draft : IsDraft l.key l.run;
  agrees : (m : ℕ → ℕ) → Agrees nat_eq m l.run.pairs → Agrees nat_eq m l.fn.run.pairs;
  whole : (other : ℕ) → other < l.call → IsTrue (held nat_eq l.run.pairs other);
}
