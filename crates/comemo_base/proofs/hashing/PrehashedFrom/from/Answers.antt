use Rattle.comemo_base.proofs.hashing.PrehashedFrom.from.Goals as goal

pub returns : goal.returns
returns g c = c.new.ensures
