use Rattle.std.proofs.Common.{◌≡◌, false}
use Rattle.bench_rows.proofs.Absorbing.{all_absorbed}
use Rattle.bench_rows.proofs.steps.store.Goals as goal

pub returns : goal.returns
returns c = (λ m r a. (tt, tt), all_absorbed _ (λ p. p.0.writes ≡ false) c.in_ok-pairs.pairs.items c.in_ok-pairs.ensures, c.in_ok-writes.ensures, tt)
