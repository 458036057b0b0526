use Rattle.std.proofs.Common.{length}
use Rattle.comemo_tree.proofs.Chain.{Chain}
use Rattle.comemo_tree.proofs.insertion.grow.Given as goal

-- the chain so far
abbrev pub invariant-chain : goal.invariant-chain
invariant-chain g l = Chain g.C.PartialEq.eq g.R.PartialEq.eq g.K.PartialEq.eq l.fn.inner l.above l.fn.answer l.fn.sequence.pairs l.inner l.leaves l.starts l.key.value l.at l.leads l.sequence.pairs

abbrev pub decreases-chain : goal.decreases-chain
decreases-chain g l = length l.sequence.pairs
