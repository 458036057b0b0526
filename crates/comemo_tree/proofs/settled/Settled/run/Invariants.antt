use Rattle.std.proofs.Common.{◌≡◌, ◌+◌, ◌≤◌, length, vec_len, vec_capacity}
use Rattle.std.specs.List.{All}
use Rattle.std.specs.Vec.Iter.{into_iter_items, into_iter_len}
use Rattle.comemo_tree.specs.StepLists.{InsertsRun}
use Rattle.comemo_base.specs.Runs.{IsSettled}
use Rattle.comemo_tree.proofs.StepLists.{Completes}
use Rattle.comemo_tree.proofs.settled.Settled.run.Given as goal

-- the steps done so far, that what is left inserts runs, and that there is room for its replies
abbrev pub invariant-loop-op : goal.invariant-loop-op
invariant-loop-op g l = record {
  done : Completes g.A.Call.PartialEq.eq g.A.Answer.PartialEq.eq g.A.Key.PartialEq.eq g.P.Keep.keeps l.fn.ops.items l.fn.self (into_iter_items l.op-iterator) l.replies.items l.self;
  runs : All (InsertsRun g.A.Call.PartialEq.eq g.A.Answer.PartialEq.eq g.A.Asks.asks) (into_iter_items l.op-iterator);
  settled : IsSettled g.A.Call.PartialEq.eq g.A.Answer.PartialEq.eq g.A.Asks.asks l.self;
  count : into_iter_len l.op-iterator ≡ length (into_iter_items l.op-iterator);
  room : vec_len l.replies + into_iter_len l.op-iterator ≤ vec_capacity l.replies;
}
