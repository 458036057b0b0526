use Rattle.std.proofs.Common.{rules, ◌<◌, length}
use Rattle.comemo_site.proofs.publish.fill.Goals as goal

pub returns-clause-published : goal.returns-clause-published
returns-clause-published g c = λ i d e h.
    let place : i < length c.args.pages.now = search (rules, c.requires.len) in
    let at = (c.for_each_mut.ensures i e place).1 in
    rw (← at.left) (at.call.0 d)

pub returns-clause-stays : goal.returns-clause-stays
returns-clause-stays g c = λ i d e h.
    let place : i < length c.args.pages.now = search (rules, c.requires.len) in
    let at = (c.for_each_mut.ensures i e place).1 in
    rw (← at.left) (at.call.1 d)
