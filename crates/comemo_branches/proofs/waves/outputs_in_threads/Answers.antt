use Rattle.std.proofs.Common.{◌∙◌, Result, Ok, Err, IfErr}
use Rattle.comemo.specs.Rounds.{FailsBy}
use Rattle.comemo.specs.declared.pending.Fault.{Fault}
use Rattle.comemo.specs.declared.round.RoundError.{RoundError}
use Rattle.comemo.proofs.Rounds.{fails_so}
use Rattle.comemo_branches.proofs.waves.outputs_in_threads.Goals as goal

pub loop-i-preserved : goal.loop-i-preserved
loop-i-preserved g c = (c.settle_each.ensures.value ∙ c.loop-i.invariant.0, c.settle_each.ensures.same ∙ c.take_wave-wave.ensures.same ∙ c.loop-i.invariant.1, λ at is. c.settle_each.ensures.stays at (c.loop-i.invariant.2 at is))

pub returns-in-None-clause-gives : goal.returns-in-None-clause-gives
returns-in-None-clause-gives g c = rw c.loop-i.invariant.0 at c.known_outputs.ensures.gives

-- a failure that isn't a function's is one of any
fails_by : {A K : Type 0} (fails : K → Fault → Type 0) (r : Result A (RoundError K)) → IfErr r (FailsBy (λ _ _. ⊥)) → IfErr r (FailsBy fails)
fails_by fails (Ok a) is = tt
fails_by fails (Err e) is = fails_so fails e is

pub returns-in-None-clause-err : goal.returns-in-None-clause-err
returns-in-None-clause-err g c = fails_by g.P.Provider.fails c.known_outputs.result c.known_outputs.ensures.err
