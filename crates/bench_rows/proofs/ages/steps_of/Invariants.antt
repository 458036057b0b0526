use Rattle.std.specs.List.{All}
use Rattle.std.specs.Prelude.{nat_eq}
use Rattle.std.specs.contracts.prelude.U32Clone.TheImpl as u32
use Rattle.comemo.specs.Meaning.{IsRight}
use Rattle.comemo.specs.Steps.{IsStep}
use Rattle.bench_rows.specs.contracts.steps.NumberedPartialEq.TheImpl as same
use Rattle.bench_rows.specs.contracts.steps.NumberedCall.TheImpl as call
use Rattle.bench_rows.specs.contracts.steps.AnythingFunction.TheImpl as anything
use Rattle.bench_rows.proofs.ages.steps_of.Given as goal

-- what was made so far are steps
abbrev pub invariant-loop-kind : goal.invariant-loop-kind
invariant-loop-kind l = All (IsStep record {
  same_call = same.ghosts.eq;
  same_answer = nat_eq;
  same_key = nat_eq;
  is_write = call.ghosts.is_write;
  is_clone = u32.ghosts.is_clone;
  right = IsRight anything.ghosts.means anything.ghosts.writes;
  naming = anything.ghosts.naming;
}) l.steps.items
