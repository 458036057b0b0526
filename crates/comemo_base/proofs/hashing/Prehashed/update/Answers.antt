use Rattle.comemo_base.proofs.hashing.Prehashed.update.Goals as goal

pub invariant_of-self : goal.invariant_of-self
invariant_of-self g c = c.hash_any-self-inside.ensures
