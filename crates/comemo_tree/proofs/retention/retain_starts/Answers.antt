use Rattle.std.proofs.Common.{rules}
use Rattle.std.proofs.lemmas.Map.Made.{filter_same_pairs}
use Rattle.comemo_tree.proofs.retention.retain_starts.Goals as goal

pub returns-clause-entries : goal.returns-clause-entries
returns-clause-entries g c = filter_same_pairs _ _ _ (λ k v b w f' t. search rules) _ _ c.retain.ensures.filtered

pub returns-clause-unique : goal.returns-clause-unique
returns-clause-unique g c = c.retain.ensures.was_unique
