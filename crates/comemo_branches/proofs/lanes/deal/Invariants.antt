use Rattle.std.proofs.Common.{◌≡◌}
use Rattle.std.specs.List.{All}
use Rattle.comemo_branches.proofs.lanes.deal.Given as goal

abbrev pub invariant-loop-provider : goal.invariant-loop-provider
invariant-loop-provider g l = (l.turns ≡ l.fn.turns) × All (λ lane. lane.takes ≡ l.fn.turns) l.lanes.items
