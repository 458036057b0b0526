use Rattle.std.proofs.Common.{rules, arith, ◌≡◌, ◌-◌, ◌∙◌, sym, refl}
use Rattle.comemo_cutoff.proofs.Rounding.{one_less}
use Rattle.comemo_cutoff.proofs.rounds.RoundedRunKnownCellsRoundedUnit.run.Goals as goal

pub returns-clause-right : goal.returns-clause-right
returns-clause-right c = λ m f cells sums p q.
    let count = c.args.count.now in
    let number : cells (record { place = count - 1 }) ≡ c.in_ok-number.number = search (rules, c.in_ok-number.ensures.tells.told m (c.in_ok-before.ensures.tells.before m f) cells p) in
    let before : sums (record { key = count - 1 }) ≡ c.in_ok-before.before = search (rules, c.in_ok-before.ensures.tells.told m f sums q) in
    sym (one_less (λ k. cells (record { place = k })) (λ k. sums (record { key = k })) count (omega (arith, c.if-count-eq0.false)) ∙ (rw (number, before) refl))
