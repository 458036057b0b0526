use Rattle.std.proofs.Common.{◌≡◌}
use Rattle.std.proofs.lemmas.Slice.Zip.{AllZip-map}
use Rattle.comemo_branches.proofs.Joining.{told_each, told_so}
use Rattle.comemo_layers_tests.specs.Rolls.{rolled_at}
use Rattle.comemo_layers_tests.proofs.rolls.rolled_each.Goals as goal

pub returns : goal.returns
returns g c = told_so c.map_in_threads.result c.map_in_threads.ensures.told (λ numbers m k. AllZip-map (rolled_at m) c.args.places.now numbers.items (told_each _ _ _ _ (λ place number n. number ≡ rolled_at n place) (λ given left item r call. call) _ m c.args.places.now numbers.items k))
