use Rattle.std.proofs.Common.{◌∙◌, sym, ap, map}
use Rattle.std.proofs.lemmas.Simd.{map-map}
use Rattle.slab.specs.Slab.{entries}
use Rattle.comemo_tree.specs.Nodes.{entry_of}
use Rattle.comemo_tree.specs.Values.{values_of}
use Rattle.comemo_tree.proofs.tree.CallTree.values.Goals as goal

pub returns : goal.returns
returns g c =
    ap (map (λ e. e.1.value)) c.iter.ensures.rest ∙ sym (map-map (λ e. e.value) (entry_of c.self.inside.inner) (entries c.self.inside.leaves)) ∙ ap values_of c.self.view_is
