use Rattle.std.proofs.Common.{◌≡◌, ◌<◌, ◌+◌, ◌-◌, ◌*◌, length}
use Rattle.comemo.specs.Function.{Learns}
use Rattle.calc_core.proofs.ScriptCalls.{Led}
use Rattle.calc_core.proofs.Totals.{Leaves}
use Rattle.comemo.specs.Settling.{Settles}
use Rattle.calc_core.specs.Files.{answers_of}
use Rattle.calc_core.specs.Joined.{same_call, same_answer}
use Rattle.calc_core.specs.Evaluations.{At, In, ScriptAsks, LeftAsk}
use Rattle.calc_core.specs.Joined.{FilesFit}
use Rattle.calc_core.specs.EvaluationCalls.{moves}
use Rattle.calc_core.proofs.evaluation.+evaluating.Given as goal

abbrev pub decreases-evaluate_part : goal.decreases-evaluate_part
decreases-evaluate_part l = 3 * l.limit + 1

abbrev pub decreases-run_script : goal.decreases-run_script
decreases-run_script l = 3 * l.limit - 1

abbrev pub decreases-evaluate_within : goal.decreases-evaluate_within
decreases-evaluate_within l = 3 * l.limit

-- the parts so far are no higher than the limit allows, and the files fit what is recorded, with no write; whichever answers
-- fit it, what the parts left come to after those so far, the script comes to; what the script asks for is recorded, or the parts
-- left ask for it; and where the parts left lead, the run leads
abbrev pub invariant-run_script-loop-part : goal.invariant-run_script-loop-part
invariant-run_script-loop-part l = record {
  low : l.total.height < l.limit;
  fits : FilesFit l.files l.recording;
  writes : l.recording.writes ≡ l.fn.recording.writes;
  learns : Learns same_call same_answer l.fn.recording l.recording (λ m. Leaves (In m) l.script l.parts l.total);
  asks : Settles same_call same_answer (ScriptAsks l.script) (LeftAsk l.parts l.total.sum) l.fn.recording.pairs l.recording.pairs;
  led : Led (At (answers_of l.files)) (moves l.files) l.script l.parts l.total l.fn.cache l.cache;
}

abbrev pub decreases-run_script-loop-part : goal.decreases-run_script-loop-part
decreases-run_script-loop-part l = length l.parts
