use Rattle.std.proofs.Common.{sym, ◌∙◌}
use Rattle.comemo_tree.specs.Retain.{ReturnsAtMut}
use Rattle.comemo_tree.proofs.Pruned.{AreOf-retained, IsRooted-from_forest, IsForest-pruned, Retains-pruned}
use Rattle.comemo_tree.proofs.Whole.{IsForest-whole, Retains-whole}
use Rattle.comemo_tree.proofs.tree.CallTree.retain.Goals as goal

pub retain_leaves-requires : goal.retain_leaves-requires
retain_leaves-requires g c = c.requires

pub prune-requires : goal.prune-requires
prune-requires g c =
    IsRooted-from_forest c.self.invariant c.retain_leaves.new.leaves (AreOf-retained (ReturnsAtMut g.F.Fn c.args.f) c.self.inside.leaves c.retain_leaves.new.leaves c.retain_leaves.ensures)

pub invariant_of-self : goal.invariant_of-self
invariant_of-self g c =
    IsForest-whole c.self.invariant c.retain_leaves.new.leaves (ReturnsAtMut g.F.Fn c.args.f) c.retain_leaves.ensures (sym c.len.ensures ∙ c.if-len-before.true ∙ c.len-before.ensures)

pub returns-then-len-before : goal.returns-then-len-before
returns-then-len-before g c =
    rw (← c.self.view_is) (Retains-whole c.self.invariant c.retain_leaves.new.leaves (ReturnsAtMut g.F.Fn c.args.f) c.retain_leaves.ensures (sym c.len.ensures ∙ c.if-len-before.true ∙ c.len-before.ensures))

pub invariant_of-self-2 : goal.invariant_of-self-2
invariant_of-self-2 g c =
    let of = AreOf-retained (ReturnsAtMut g.F.Fn c.args.f) c.self.inside.leaves c.retain_leaves.new.leaves c.retain_leaves.ensures in
    IsForest-pruned g.met.K.Eq.laws c.self.invariant c.retain_leaves.new.leaves of c.prune.new.inner c.prune.ensures c.retain_starts.new.starts c.retain_starts.ensures.unique c.retain_starts.ensures.entries

pub returns : goal.returns
returns g c =
    let of = AreOf-retained (ReturnsAtMut g.F.Fn c.args.f) c.self.inside.leaves c.retain_leaves.new.leaves c.retain_leaves.ensures in
    rw (← c.self.view_is) (Retains-pruned g.met.K.Eq.laws c.self.invariant c.retain_leaves.new.leaves of c.prune.new.inner c.prune.ensures c.retain_starts.new.starts c.retain_starts.ensures.unique c.retain_starts.ensures.entries (ReturnsAtMut g.F.Fn c.args.f) c.retain_leaves.ensures)
