use Rattle.std.proofs.Common.{sym, ap, ◌∙◌, arith, option_copied, refl, Option, Some, ◌≡◌, ℕ}
use Rattle.slab.specs.Slab as slab
use Rattle.slab.proofs.SlabLemmas.{Updates-with_value}
use Rattle.comemo_tree.proofs.Passes.{IsMarking-init, IsMarkingUp-start, marking_there, IsMarkingUp-step, height_falls, IsMarking-ends, AreMarkedBelow-skip, IsMarkedAbove-end, with_own}
use Rattle.comemo_tree.proofs.retention.mark_above.Goals.{in-Some-up+then-node, in_default-up}
use Rattle.comemo_tree.proofs.retention.mark_above.Goals as goal

pub leaves-init : goal.leaves-init
leaves-init g c = record { marking = IsMarking-init c.requires; before = λ low leaf at l e p. absurd (omega arith) }

pub leaves-preserved-in_default : goal.leaves-preserved-in_default
leaves-preserved-in_default g c = record {
  marking = c.leaves.invariant.marking;
  before = AreMarkedBelow-skip c.args.leaves.now c.args.inner.now c.leaves.inner c.leaves.low c.leaves.invariant.before (sym c.get.ensures ∙ ap option_copied c.in_default.is);
}

pub up-init : goal.up-init
up-init g c = record {
  up = IsMarkingUp-start c.requires c.leaves.inner c.leaves.low c.in-Some.leaf.now c.leaves.invariant.marking c.leaves.invariant.before (sym c.get.ensures ∙ ap option_copied c.in-Some.is);
}

pub index_mut-node-requires : goal.index_mut-node-requires
index_mut-node-requires g c = marking_there c.requires c.up.inner c.up.up c.in-Some-up.at c.up.invariant.up.marking c.in-Some-up.is

pub up-smaller : goal.up-smaller
up-smaller g c = height_falls c.requires c.up.inner c.up.up c.in-Some-up.at c.index_mut-node.result.now c.in-Some-up.is c.up.invariant.up.marking c.index_mut-node.ensures.value

pub up-preserved : goal.up-preserved
up-preserved g c =
    let there = marking_there c.requires c.up.inner c.up.up c.in-Some-up.at c.up.invariant.up.marking c.in-Some-up.is in
    record {
      up = IsMarkingUp-step c.requires c.up.inner _ c.in-Some-up.at c.index_mut-node.result.now _ c.index_mut-node.ensures.value (Updates-with_value c.up.inner c.in-Some-up.at _ there) refl c.leaves.low c.up.up c.in-Some-up.is c.up.invariant.up;
    }

pub leaves-preserved : goal.leaves-preserved
leaves-preserved g c =
    let low = c.leaves.low in
    let up = c.up.invariant.up in
    elim c.match-up.branch [
      | in-Some-up+then-node w ↦
          let e = IsMarking-ends c.args.leaves.now c.args.inner.now c.up.inner low c.up.up up (λ at f. (w.index_mut-node.result.now, ap (slab.get c.up.inner) (one_key c.up.up at w.in-Some-up.at f w.in-Some-up.is) ∙ w.index_mut-node.ensures.value, w.if-node.true)) in
          let same = w.inner-is ∙ with_own c.up.inner w.in-Some-up.at w.index_mut-node.result.now w.index_mut-node.ensures.value in
          rw same (record { marking = e.0; before = e.1 })
      | in_default-up w ↦
          let e = IsMarking-ends c.args.leaves.now c.args.inner.now c.up.inner low c.up.up up (λ at f. absurd (w.in_default-up.not-Some at f)) in
          rw w.inner-is (record { marking = e.0; before = e.1 })
    ]
  where
    one_key : (up : Option ℕ) (x y : ℕ) → up ≡ Some x → up ≡ Some y → x ≡ y
    one_key up x y e f = let two : Some x ≡ Some y = sym e ∙ f in cc

pub returns : goal.returns
returns g c = IsMarkedAbove-end c.args.leaves.now c.args.inner.now c.leaves.inner c.leaves.low c.leaves.invariant.marking c.leaves.invariant.before (omega (arith, c.capacity-low-end.ensures.slots))
