use Rattle.slab.specs.Slab as slab
use Rattle.comemo_tree.specs.Marks.{rank}
use Rattle.comemo_tree.proofs.Reaching.{SameFirst}
use Rattle.comemo_tree.proofs.reach.first_above.Given as goal

abbrev pub invariant-up : goal.invariant-up
invariant-up g l = record { first : SameFirst l.inner l.from l.at }

abbrev pub decreases-up : goal.decreases-up
decreases-up g l = rank (slab.get l.inner l.at)
