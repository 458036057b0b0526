use Rattle.std.proofs.Common.{rules}
use Rattle.std.proofs.lemmas.Result.{IfOk-weaker}
use Rattle.comemo_cutoff.proofs.rounds.summed.Goals as goal

pub returns : goal.returns
returns g c = IfOk-weaker c.output.result _ _ (λ sum same. search (rules, same)) (rw c.new-round.ensures.value at c.output.ensures.gives)
