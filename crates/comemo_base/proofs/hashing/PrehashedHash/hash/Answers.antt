use Rattle.comemo_base.proofs.hashing.PrehashedHash.hash.Goals as goal

pub returns : goal.returns
returns g c = rw (← c.self.view_is, ← c.self.invariant) c.write_u128.ensures
