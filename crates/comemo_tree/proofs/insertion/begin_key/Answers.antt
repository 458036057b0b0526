use Rattle.std.proofs.Common.{subst}
use Rattle.comemo_tree.specs.Growth.{Begins}
use Rattle.comemo_tree.proofs.Planting.{IfOk-none}
use Rattle.comemo_tree.proofs.insertion.begin_key.Goals as goal

pub returns-clause-put : goal.returns-clause-put
returns-clause-put g c =
    let begins = subst (λ n. Begins c.reserve.new.self c.reserve-2.new.self n c.next_first-first.result) c.left-pairs.ensures c.next_first-first.ensures in
    IfOk-none c.first_or_put.result (λ p. (p.0, (record { first = c.next_first-first.result }, begins, p.1.0))) c.first_or_put.ensures.put
