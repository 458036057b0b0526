use Rattle.comemo_tree.specs.Reach.{IsMarkedUpTo}
use Rattle.comemo_tree.proofs.reach.mark_firsts.Given as goal

abbrev pub invariant-nodes : goal.invariant-nodes
invariant-nodes g l = record { marks : IsMarkedUpTo g.C.PartialEq.eq l.calls l.inner l.marks.items l.at }
