use Rattle.std.specs.Map.Iter.{deref}
use Rattle.std.proofs.lemmas.Map.Iter.{rest_more}
use Rattle.comemo_dependents.proofs.Reaching.{Taken-step}
use Rattle.comemo_dependents.proofs.lists.take_in.Goals as goal

pub loop-key-preserved : goal.loop-key-preserved
loop-key-preserved g c =
    Taken-step g.met.K.Eq.laws c.args.reached.now c.loop-key.reached c.insert.new.self c.loop-key.key-iterator c.next.new.self c.args.keys.now.keys c.in-Some.key c.in_ok-insert.field-0 c.loop-key.invariant (rest_more deref c.loop-key.key-iterator c.next.new.self c.next.result c.in-Some.key c.in-Some.is c.next.ensures.steps) c.in_ok-insert.ensures.added c.in_ok-insert.ensures.keys
