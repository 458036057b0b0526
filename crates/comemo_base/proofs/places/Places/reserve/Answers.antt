use Rattle.comemo_base.proofs.Behind.{lookup-behind}
use Rattle.comemo_base.proofs.places.Places.reserve.Goals as goal

pub returns-clause-same : goal.returns-clause-same
returns-clause-same g c = λ call.
    rw (← c.self.view_is, c.reserve.ensures.items) (lookup-behind (g.C.PartialEq.eq call) c.self.inside.few.items c.self.inside.many.entries c.reserve-2.new.self.entries (c.reserve-2.ensures.same call))
