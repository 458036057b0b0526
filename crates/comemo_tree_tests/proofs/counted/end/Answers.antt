use Rattle.std.proofs.Common.{◌<◌, nat_eq, subst, IsTrue, arith}
use borrow.Author.Count.{below_more}
use Rattle.comemo_base.specs.Sequence.{held}
use Rattle.comemo_tree_tests.proofs.counted.end.Goals as goal

pub ask-requires-clause-asked : goal.ask-requires-clause-asked
ask-requires-clause-asked c = λ m g.
    subst (λ n. c.below-call.result < n) (c.requires.asked m (c.loop.invariant.agrees m g)) (c.below-call.ensures c.requires.above)

pub returns-in_err-ask-clause-agrees : goal.returns-in_err-ask-clause-agrees
returns-in_err-ask-clause-agrees c = λ m g. c.loop.invariant.agrees m (c.ask.ensures.agrees m g)

pub loop-preserved : goal.loop-preserved
loop-preserved c = record {
  draft = c.ask.ensures.draft;
  agrees = λ m g. c.loop.invariant.agrees m (c.ask.ensures.agrees m g);
}

pub loop-call-init : goal.loop-call-init
loop-call-init c = record {
  draft = c.loop.invariant.draft;
  agrees = c.loop.invariant.agrees;
  whole = λ other below. absurd (omega arith);
}

pub ask-requires-in-loop-call-clause-asked : goal.ask-requires-in-loop-call-clause-asked
ask-requires-in-loop-call-clause-asked c = λ m g.
    subst (λ n. c.loop-call.call < n) (c.requires.asked m (c.loop-call.invariant.agrees m g)) (omega arith)

pub returns-in_err-ask-2-clause-agrees : goal.returns-in_err-ask-2-clause-agrees
returns-in_err-ask-2-clause-agrees c = λ m g. c.loop-call.invariant.agrees m (c.ask-in-loop-call.ensures.agrees m g)

pub loop-call-preserved : goal.loop-call-preserved
loop-call-preserved c =
    let after = c.ask-in-loop-call in
    record {
      draft = after.ensures.draft;
      agrees = λ m g. c.loop-call.invariant.agrees m (after.ensures.agrees m g);
      whole = below_more (λ other. IsTrue (held nat_eq after.new.run.pairs other)) c.loop-call.call (λ other below. after.ensures.kept other (c.loop-call.invariant.whole other below)) c.in_ok-ask-2.ensures.held;
    }
