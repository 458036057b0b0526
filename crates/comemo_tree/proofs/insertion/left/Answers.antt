use Rattle.std.proofs.Common.{◌∙◌, ap, count_by, is_some, length}
use Rattle.std.proofs.lemmas.List.{take_all}
use Rattle.slab.proofs.DrainLemmas.{length-values}
use Rattle.comemo_tree.proofs.insertion.left.Goals as goal

pub returns : goal.returns
returns g c =
    let slots = c.slots-slot-items.result.now in
    c.slots.invariant ∙ ap (λ xs. count_by is_some xs) (take_all c.slots.slot-index slots c.slots-test.false) ∙ length-values slots ∙ ap length c.slots-slot-items.ensures
