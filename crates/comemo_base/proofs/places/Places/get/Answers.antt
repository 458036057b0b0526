use Rattle.std.proofs.Common.{◌∙◌, sym, ap, Some}
use Rattle.comemo_base.proofs.Behind.{lookup-past, lookup-first}
use Rattle.comemo_base.proofs.places.Places.get.Goals as goal

pub returns-in-Some : goal.returns-in-Some
returns-in-Some g c =
    let call = c.args.call.now in
    let found = c.in-Some.ensures in
    let first = lookup-first (g.C.PartialEq.eq call) c.self.inside.few.items c.self.inside.many.entries c.in-Some.at c.index.result.now (rw (← c.as_slice.ensures.value) found.0) (rw (← c.as_slice.ensures.value) found.1) (rw (← c.as_slice.ensures.value) found.2) in
    rw (← c.self.view_is) (ap (λ p. Some p.1) c.index.ensures ∙ sym first)

pub returns : goal.returns
returns g c =
    let past = lookup-past (g.C.PartialEq.eq c.args.call.now) c.self.inside.few.items c.self.inside.many.entries (rw (← c.as_slice.ensures.value) c.in_default.ensures) in
    rw (← c.self.view_is) (c.get.ensures ∙ sym past)
