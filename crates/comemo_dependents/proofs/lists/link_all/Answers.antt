use Rattle.comemo_dependents.proofs.Loops.{Linked-step}
use Rattle.comemo_dependents.proofs.lists.link_all.Goals as goal

pub loop-slot-preserved : goal.loop-slot-preserved
loop-slot-preserved g c =
    Linked-step g.met.K.Eq.laws c.slots-slot-items.result.now c.loop-slot.slot-index c.slot-item.result c.loop-slot-test.true c.slot-item.is c.args.lists.now c.loop-slot.lists c.args.key.now c.loop-slot.invariant c.link.new.lists (c.in-Some.call, c.in-Some.field-0-1) c.in_ok-clone.field-0 c.in-Some.is (c.requires.clones_equal c.args.key.now c.in_ok-clone.field-0 c.in_ok-clone.ensures.cases) c.in_ok-link.ensures.ok
