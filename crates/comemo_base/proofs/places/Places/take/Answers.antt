use Rattle.std.proofs.Common.{◌≡◌, true, ◌<◌, length}
use Rattle.std.specs.List.{HoldsAt}
use Rattle.comemo_base.proofs.Behind.{lookup-past, lookup-without, lookup-behind, other_passes}
use Rattle.comemo_base.proofs.places.Places.take.Goals as goal

pub returns-in-Some-clause-others : goal.returns-in-Some-clause-others
returns-in-Some-clause-others g c = λ other apart.
    let s = c.self.inside in
    let found = c.in-Some.ensures in
    let below : c.in-Some.at < length s.few.items = rw (← c.as_slice.ensures.value) found.0 in
    let here : HoldsAt (λ e. g.C.PartialEq.eq c.args.call.now e.0 ≡ true) s.few.items c.in-Some.at = rw (← c.as_slice.ensures.value) found.2 in
    rw (← c.self.view_is, c.remove-known.ensures.items) (lookup-without (g.C.PartialEq.eq other) s.few.items s.many.entries c.in-Some.at below (λ d. other_passes g.met.C.Eq.laws c.args.call.now other _ apart (here d)))

pub returns-clause-others : goal.returns-clause-others
returns-clause-others g c = λ other apart.
    rw (← c.self.view_is) (lookup-behind (g.C.PartialEq.eq other) c.self.inside.few.items c.self.inside.many.entries c.take.new.self.entries (c.take.ensures.others other apart))

pub returns-clause-found : goal.returns-clause-found
returns-clause-found g c =
    let past = lookup-past (g.C.PartialEq.eq c.args.call.now) c.self.inside.few.items c.self.inside.many.entries (rw (← c.as_slice.ensures.value) c.in_default.ensures) in
    rw (← c.self.view_is, past) c.take.ensures.found
