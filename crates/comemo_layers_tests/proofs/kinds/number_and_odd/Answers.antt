use Rattle.std.proofs.Common.{◌≡◌}
use Rattle.comemo_branches.proofs.Joining.{told_by_part, told_so}
use Rattle.comemo_layers_tests.specs.Rolls.{is_odd_at, rolled_at}
use Rattle.comemo_layers_tests.proofs.kinds.number_and_odd.Goals as goal

pub returns : goal.returns
returns g c = told_so c.join_in_threads.result c.join_in_threads.ensures.told (λ out m k. (
  told_by_part _ _ _ _ (λ number n. number ≡ rolled_at n c.args.place) (λ given left r call. call) _ m out.0 k.0,
  told_by_part _ _ _ _ (λ odd n. odd ≡ is_odd_at n c.args.other) (λ given left r call. call) _ m out.1 k.1,
))
