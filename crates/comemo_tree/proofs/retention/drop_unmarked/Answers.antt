use Rattle.std.proofs.Common.{rules, of_calls}
use Rattle.comemo_tree.proofs.Passes.{kept_slots}
use Rattle.comemo_tree.proofs.retention.drop_unmarked.Goals as goal

pub retain-requires : goal.retain-requires
retain-requires g c = search (rules, of_calls)

pub returns : goal.returns
returns g c = λ at. kept_slots _ (λ f key old b new next k. search rules) _ 0 _ _ c.retain.ensures.retained at
