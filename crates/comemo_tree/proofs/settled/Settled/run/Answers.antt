use Rattle.std.proofs.Common.{◌≡◌, suc, ◌∷◌, List, length, ap, arith}
use Rattle.std.specs.List.{All}
use Rattle.comemo_tree.specs.StepLists.{InsertsRun}
use Rattle.comemo_base.proofs.Absorbed.{nil-from_length}
use Rattle.comemo_tree.proofs.StepLists.{Completes-first, Completes-step, Completes-last, StoresAllSets-steps, KeepsSets-steps}
use Rattle.comemo_tree.proofs.settled.Settled.run.Goals as goal

All-rest : {X : Type 0} (P : X → Type 0) (x : X) (xs all : List X) → all ≡ x ∷ xs → All P all → All P xs
All-rest P x xs all e h = λ k d l. (rw e at h) (suc k) d (omega arith)

pub loop-op-init : goal.loop-op-init
loop-op-init g c =
    let items = c.into_iter-op-iterator.ensures.into_iter_gives in
    record {
      done = Completes-first g.A.Call.PartialEq.eq g.A.Answer.PartialEq.eq g.A.Key.PartialEq.eq g.P.Keep.keeps c.args.ops.items _ c.args.self.now c.in_ok-replies.replies.items c.in_ok-replies.ensures.items items.0;
      runs = rw items.0 c.requires;
      settled = c.reveal_runs.ensures.settled;
      count = omega (arith, items.1, ap length items.0, c.args.ops.ok.0);
      room = omega (arith, items.1, c.in_ok-replies.ensures.len, c.in_ok-replies.ensures.exact, c.len.ensures);
    }

pub loop-op-preserved : goal.loop-op-preserved
loop-op-preserved g c =
    let i = c.loop-op.invariant in
    let steps = c.in-Some.ensures.steps in
    record {
      done = Completes-step g.A.Call.PartialEq.eq g.A.Answer.PartialEq.eq g.A.Key.PartialEq.eq g.P.Keep.keeps c.args.ops.items _ _ c.args.self.now c.loop-op.self c.step-reply.new.self c.loop-op.replies.items c.push_reserved.new.self.items c.in-Some.op c.step-reply.result steps.0 c.push_reserved.ensures.items c.step-reply.ensures.step i.done;
      runs = All-rest (InsertsRun g.A.Call.PartialEq.eq g.A.Answer.PartialEq.eq g.A.Asks.asks) c.in-Some.op _ _ steps.0 i.runs;
      settled = c.step-reply.ensures.settled;
      count = omega (arith, i.count, ap length steps.0, steps.1);
      room = omega (arith, i.room, steps.1, c.push_reserved.ensures.len, c.push_reserved.ensures.capacity);
    }

pub returns-clause-steps : goal.returns-clause-steps
returns-clause-steps g c =
    Completes-last g.A.Call.PartialEq.eq g.A.Answer.PartialEq.eq g.A.Key.PartialEq.eq g.P.Keep.keeps c.args.ops.items _ c.args.self.now c.loop-op.self c.loop-op.replies.items (nil-from_length _ (omega (arith, c.in-None.ensures.steps.0, c.loop-op.invariant.count))) c.loop-op.invariant.done

pub returns-clause-sets : goal.returns-clause-sets
returns-clause-sets g c =
    StoresAllSets-steps g.met.A.Call.Eq.laws g.met.A.Answer.Eq.laws g.met.A.Key.Eq.laws g.P.Keep.keeps c.args.ops.items c.loop-op.replies.items c.args.self.now c.loop-op.self (returns-clause-steps g c)

pub returns-clause-stays : goal.returns-clause-stays
returns-clause-stays g c =
    KeepsSets-steps g.A.Call.PartialEq.eq g.A.Answer.PartialEq.eq g.A.Key.PartialEq.eq g.P.Keep.keeps c.args.ops.items c.loop-op.replies.items c.args.self.now c.loop-op.self (returns-clause-steps g c)
