use Rattle.std.proofs.Common.{◌≡◌, ◌++◌, None}
use Rattle.std.specs.Map.{lookup}
use Rattle.comemo_base.proofs.Behind.{lookup-put, lookup-put_behind}
use Rattle.comemo_base.proofs.places.Places.insert.Goals as goal

pub returns-then-len-lt-FEW-clause-put : goal.returns-then-len-lt-FEW-clause-put
returns-then-len-lt-FEW-clause-put g c = λ other.
    let s = c.self.inside in
    let absent : lookup (g.C.PartialEq.eq c.args.call) (s.few.items ++ s.many.entries) ≡ None = rw (← c.self.view_is) at c.requires.new in
    rw (← c.self.view_is, c.push_reserved.ensures.items, c.reserve.ensures.items) (lookup-put g.met.C.Eq.laws c.args.call c.args.place s.few.items s.many.entries other absent)

pub returns-clause-put : goal.returns-clause-put
returns-clause-put g c = λ other.
    let s = c.self.inside in
    let absent : lookup (g.C.PartialEq.eq c.args.call) (s.few.items ++ s.many.entries) ≡ None = rw (← c.self.view_is) at c.requires.new in
    rw (← c.self.view_is) (lookup-put_behind g.met.C.Eq.laws c.args.call c.args.place s.few.items s.many.entries c.insert.new.self.entries other absent (c.in_ok-insert.ensures.put other))
