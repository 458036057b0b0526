use Rattle.std.proofs.Common.{arith, sym, subst, refl, ap, ◌∙◌, ◌≡◌, Option, Some, IsSome, List}
use Rattle.slab.specs.Slab as slab
use Rattle.comemo_tree.specs.declared.children.Node.{Node}
use Rattle.slab.proofs.SlabLemmas.{Updates-with_value}
use Rattle.comemo_tree.specs.Marks.{linked}
use Rattle.comemo_tree.specs.declared.tree.InnerNode.{InnerNode}
use Rattle.comemo_tree.proofs.Passes.{none_of, IsUnlinking-init, IsUnlinking-skip, IsUnlinking-step, IsUnlinking-end}
use Rattle.comemo_tree.proofs.retention.unlink.Goals as goal

pub nodes-init : goal.nodes-init
nodes-init g c = record { unlinking = IsUnlinking-init _ _ }

pub nodes-preserved-then-not-contains : goal.nodes-preserved-then-not-contains
nodes-preserved-then-not-contains g c = record {
  unlinking = IsUnlinking-skip c.args.leaves.now c.args.inner.now c.nodes.inner c.nodes.at c.nodes.invariant.unlinking (none_of _ c.contains.result c.contains.ensures.1 c.if-not-contains.true);
}

pub index_mut-node-requires : goal.index_mut-node-requires
index_mut-node-requires g c = c.contains.ensures.0 c.if-not-contains.false

pub index_mut-node-requires-in-nodes : goal.index_mut-node-requires-in-nodes
index_mut-node-requires-in-nodes g c =
    subst IsSome (sym (Updates-with_value c.nodes.inner c.nodes.at _ (c.contains.ensures.0 c.if-not-contains.false)).changed) refl

pub nodes-preserved : goal.nodes-preserved
nodes-preserved g c =
    let there = c.contains.ensures.0 c.if-not-contains.false in
    let node = c.index_mut-node.result.now in
    let again = c.index_mut-node-in-nodes.result.now in
    let taken = record node { children = c.replace-children.new.dest } in
    let put = record again { children = c.retain.new.self } in
    let one = Updates-with_value c.nodes.inner c.nodes.at taken there in
    let mid = slab.with_value c.nodes.inner c.nodes.at taken in
    let there' : IsSome (slab.get mid c.nodes.at) = subst IsSome (sym one.changed) refl in
    let two = Updates-with_value mid c.nodes.at put there' in
    let same : again ≡ taken = one_value (slab.get mid c.nodes.at) again taken c.index_mut-node-in-nodes.ensures.value one.changed in
    record {
      unlinking = IsUnlinking-step c.args.leaves.now c.args.inner.now c.nodes.inner mid (slab.with_value mid c.nodes.at put) c.nodes.at node taken put c.nodes.invariant.unlinking c.index_mut-node.ensures.value one two (ap (λ (n : InnerNode _ _). record n { children = c.retain.new.self }) same ∙ ap (λ (xs : List (_ × Node)). record node { children = xs }) (c.retain.ensures ∙ ap (linked mid c.args.leaves.now) c.replace-children.ensures.value));
    }
  where
    one_value : {X : Type 0} (o : Option X) (x y : X) → o ≡ Some x → o ≡ Some y → x ≡ y
    one_value o x y e f = let two : Some x ≡ Some y = sym e ∙ f in cc

pub returns : goal.returns
returns g c = λ at. IsUnlinking-end c.args.leaves.now c.args.inner.now c.nodes.inner c.nodes.at c.nodes.invariant.unlinking (omega (arith, c.capacity-at-end.ensures.slots)) at
