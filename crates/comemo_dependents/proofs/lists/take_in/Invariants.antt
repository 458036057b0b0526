use Rattle.comemo_dependents.proofs.Reaching.{Taken}
use Rattle.comemo_dependents.proofs.lists.take_in.Given as goal

abbrev pub invariant-loop-key : goal.invariant-loop-key
invariant-loop-key g l = Taken g.K.PartialEq.eq l.initial.reached l.reached l.key-iterator l.keys.keys
