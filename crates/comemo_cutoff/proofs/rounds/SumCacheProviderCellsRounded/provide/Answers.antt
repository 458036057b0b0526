use Rattle.std.proofs.Common.{rules, refl}
use Rattle.comemo_cutoff.specs.Cells.{numbers}
use Rattle.comemo_cutoff.specs.Rounds.{rounded}
use Rattle.comemo_cutoff.proofs.Rounding.{by_before}
use Rattle.comemo_cutoff.proofs.rounds.SumCacheProviderCellsRounded.provide.Goals as goal

pub returns-clause-gives : goal.returns-clause-gives
returns-clause-gives g c =
    let cells = numbers c.args.turn.now.numbers.items in
    search (rules, by_before cells c.args.count.now, c.in_ok-reply.ensures.right cells (λ at. rounded cells at.key) (λ _. refl) (λ _. refl))
