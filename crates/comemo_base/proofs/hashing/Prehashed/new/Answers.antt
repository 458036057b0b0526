use Rattle.comemo_base.proofs.hashing.Prehashed.new.Goals as goal

pub invariant_of-result : goal.invariant_of-result
invariant_of-result g c = c.hash_any.ensures
