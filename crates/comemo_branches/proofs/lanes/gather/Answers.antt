use Rattle.std.proofs.Common.{◌∙◌, ap, length, rules, sym}
use Rattle.std.proofs.lemmas.Iterator.Consumers.{YieldsList-turn}
use Rattle.std.proofs.lemmas.Iterator.Adapters.{YieldsList-from_vec}
use Rattle.comemo_branches.specs.declared.lanes.Lane.{Lane}
use Rattle.comemo_branches.proofs.lanes.gather.Goals as goal

pub append-requires : goal.append-requires
append-requires g c =
    let turn = YieldsList-turn (YieldsList-from_vec {s = c.into_iter-lane-iterator.result} c.args.lanes.items (search rules) (search rules)) c.loop-lane.yielded c.loop-lane.lane-iterator c.loop-lane.yielded_by c.next.result c.next.new.self c.in-Some.lane c.in-Some.is c.next.ensures.steps in
    ap (λ (lane : Lane _ _ _ _ _ _ _). lane.takes) turn.1 ∙ c.requires (length c.loop-lane.yielded) c.in-Some.lane turn.0 ∙ sym c.loop-lane.invariant.2
