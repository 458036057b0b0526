use Rattle.std.proofs.Common.{rules, of_calls}
use Rattle.comemo_tree.proofs.Passes.{RetainsLeaves-from_calls}
use Rattle.comemo_tree.proofs.retention.retain_leaves.Goals as goal

pub retain-requires : goal.retain-requires
retain-requires g c = search (of_calls, c.requires)

pub returns : goal.returns
returns g c = RetainsLeaves-from_calls _ _ _ (λ key old b new next k. search rules) 0 _ _ c.retain.ensures.retained
