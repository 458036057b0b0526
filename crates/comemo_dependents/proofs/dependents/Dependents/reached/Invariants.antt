use Rattle.std.proofs.Common.{drop}
use Rattle.comemo_dependents.specs.Lists.{index_of}
use Rattle.comemo_dependents.proofs.Reaching.{Reached}
use Rattle.comemo_dependents.proofs.dependents.Dependents.reached.Given as goal

abbrev pub invariant-loop-call : goal.invariant-loop-call
invariant-loop-call g l = Reached g.K.PartialEq.eq g.C.PartialEq.eq (index_of l.self-inside.lists) l.reached (drop l.call-index l.calls) l.calls
