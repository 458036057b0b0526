use Rattle.std.proofs.Common.{rules, ◌<◌, length}
use Rattle.comemo_branches.proofs.spread.run_branches.Goals as goal

pub returns-clause-ran : goal.returns-clause-ran
returns-clause-ran g c = λ i d e h.
    let place : i < length c.args.ended.now = search (rules, c.requires.len) in
    let at = (c.for_each_mut.ensures i e place).1 in
    rw (← at.left) (at.call d)
