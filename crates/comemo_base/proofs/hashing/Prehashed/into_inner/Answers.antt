use Rattle.comemo_base.proofs.hashing.Prehashed.into_inner.Goals as goal

pub returns : goal.returns
returns g c = c.self.view_is
