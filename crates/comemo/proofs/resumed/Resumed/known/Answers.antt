use Rattle.std.proofs.Common.{◌∙◌, sym}
use Rattle.comemo.proofs.Trails.{trail_answers}
use Rattle.comemo.proofs.resumed.Resumed.known.Goals as goal

pub returns-in-Some : goal.returns-in-Some
returns-in-Some g c =
    let trail = rw (← c.deref.ensures.value) at c.self.invariant.0 in
    let found = c.in-Some.ensures.lookup in
    rw (← c.self.view_is) (trail_answers g.met.T.Answer.Eq.laws (g.T.Track.answers c.self.inside.of.now) (g.met.T.Track.alike c.self.inside.of.now) c.deref.result.now trail c.args.place found.3.0 c.in-Some.field-0.now found.3.1 c.args.call.now (sym c.eq.ensures ∙ c.if-eq.true))
