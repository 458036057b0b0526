use Rattle.std.proofs.Common.{◌∙◌, length, rules, sym}
use Rattle.std.proofs.lemmas.Iterator.Consumers.{YieldsList-turn}
use Rattle.std.proofs.lemmas.Iterator.Adapters.{YieldsList-from_vec}
use Rattle.comemo_branches.proofs.waits.Waits.settle_each.Goals as goal

pub settle-requires-clause-take : goal.settle-requires-clause-take
settle-requires-clause-take g c =
    let turn = YieldsList-turn (YieldsList-from_vec {s = c.into_iter-take-iterator.result} c.into_items-take-items.result.items (search rules) (search rules)) c.loop-take.yielded c.loop-take.take-iterator c.loop-take.yielded_by c.next.result c.next.new.self c.in-Some.take c.in-Some.is c.next.ensures.steps in
    turn.1 ∙ c.into_items-take-items.ensures (length c.loop-take.yielded) c.in-Some.take turn.0 ∙ c.requires.wave ∙ sym c.loop-take.invariant.2

pub loop-take-preserved : goal.loop-take-preserved
loop-take-preserved g c = (search rules, search rules, c.settle.ensures.same ∙ c.loop-take.invariant.2, c.settle.ensures.value ∙ c.loop-take.invariant.3, λ at is. c.settle.ensures.stays at (c.loop-take.invariant.4 at is))

pub returns-in_err-settle-clause-stays : goal.returns-in_err-settle-clause-stays
returns-in_err-settle-clause-stays g c = λ at is. c.settle.ensures.stays at (c.loop-take.invariant.4 at is)
