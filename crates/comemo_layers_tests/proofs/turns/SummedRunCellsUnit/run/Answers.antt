use Rattle.std.proofs.Common.{◌≡◌, ◌∙◌, ap, rules}
use Rattle.std.specs.List.{fold}
use Rattle.std.proofs.lemmas.Slice.Zip.{AllZip-map}
use Rattle.comemo_branches.proofs.Joining.{told_each}
use Rattle.comemo_layers_tests.specs.Rolls.{number_at, plus}
use Rattle.comemo_layers_tests.proofs.turns.SummedRunCellsUnit.run.Goals as goal

pub returns-clause-right : goal.returns-clause-right
returns-clause-right c = λ m f. search (rules, c.added.ensures, ap (fold plus 0) (AllZip-map (number_at m) c.as_slice.result.now c.in_ok-numbers.numbers.items (told_each _ _ _ _ (λ place number n. number ≡ number_at n place) (λ given left item r call. call) _ m c.as_slice.result.now c.in_ok-numbers.numbers.items (c.in_ok-numbers.ensures.told.told m f))))
