use Rattle.std.proofs.Common.{◌∙◌, sym, ap, length}
use Rattle.comemo_tree.proofs.Empty.{length-contents}
use Rattle.comemo_tree.proofs.tree.CallTree.len.Goals as goal

pub returns : goal.returns
returns g c = c.len.ensures ∙ sym (length-contents c.self.inside.inner c.self.inside.leaves) ∙ ap length c.self.view_is
