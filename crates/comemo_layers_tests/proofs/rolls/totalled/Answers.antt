use Rattle.std.proofs.Common.{◌∙◌, ap, rules}
use Rattle.std.specs.List.{fold}
use Rattle.comemo_layers_tests.specs.Rolls.{plus}
use Rattle.comemo_layers_tests.proofs.rolls.totalled.Goals as goal

pub finish-requires-clause-right : goal.finish-requires-clause-right
finish-requires-clause-right g c = λ m f. search (rules, c.added.ensures, ap (fold plus 0) (c.in_ok-numbers.ensures.told m f))
