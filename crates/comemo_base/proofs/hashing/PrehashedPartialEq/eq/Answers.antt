use Rattle.std.proofs.Common.{refl}
use Rattle.comemo_base.proofs.hashing.PrehashedPartialEq.eq.Goals as goal

pub returns : goal.returns
returns g c = rw (← c.self.view_is, ← c.other.view_is, ← c.self.invariant, ← c.other.invariant) refl
