use Rattle.std.proofs.Common.{rules, arith, ◌≡◌, ◌-◌, suc}
use Rattle.comemo_examples.proofs.all_equal.+compared.Goals as goal

pub finish-requires-clause-right : goal.finish-requires-clause-right
finish-requires-clause-right g t c = λ m f one other p q.
    let low : suc (c.args.count - 1) ≡ c.args.count = omega (arith, c.if-count-eq0.false) in
    let f' = c.in_ok-other.ensures.tells.before m f in
    let equal = c.in_ok-before.ensures.told m (c.in_ok-one.ensures.tells.before m f') one other p q in
    rw (← low) (search (rules, equal, c.in_ok-one.ensures.tells.told m f' one p, c.in_ok-other.ensures.tells.told m f other q))
