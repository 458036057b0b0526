use Rattle.std.proofs.Common.{◌≡◌, ◌∙◌, Some, refl, ap, arith}
use Rattle.slab.specs.Slab.{get, Slab}
use Rattle.comemo_tree.specs.Growth.{SameNodes}
use Rattle.std.proofs.lemmas.Result.{on_ok_weaker, on_err_weaker}
use Rattle.comemo_tree.proofs.Chain.{OnErr-always}
use Rattle.comemo_tree.proofs.Same.{CanGrow-same, LeadsFrom-same, Grown-same}
use Rattle.comemo_tree.proofs.insertion.insert_below.Goals as goal

pub index-requires : goal.index-requires
index-requires g c = rw c.requires.is refl

pub returns-then-index-count-clause-err : goal.returns-then-index-count-clause-err
returns-then-index-count-clause-err g c = (refl, refl)

pub returns-in_err-reserve-clause-err : goal.returns-in_err-reserve-clause-err
returns-in_err-reserve-clause-err g c = OnErr-always _ c.from_residual.result (ap (λ (s : Slab _). s.slots) c.reserve.ensures.rest_kept, refl)

pub returns-in_err-reserve-2-clause-err : goal.returns-in_err-reserve-2-clause-err
returns-in_err-reserve-2-clause-err g c = OnErr-always _ c.from_residual-in_err-reserve-2.result (ap (λ (s : Slab _). s.slots) c.reserve.ensures.rest_kept, ap (λ (s : Slab _). s.slots) c.reserve-2.ensures.rest_kept)

pub grow-requires-clause-grows : goal.grow-requires-clause-grows
grow-requires-clause-grows g c =
    let nodes : SameNodes c.args.inner.now c.args.leaves.now c.reserve.new.self c.reserve-2.new.self = (ap (λ (s : Slab _). s.slots) c.reserve.ensures.rest_kept, ap (λ (s : Slab _). s.slots) c.reserve-2.ensures.rest_kept) in
    CanGrow-same c.args.inner.now c.reserve.new.self c.args.leaves.now c.reserve-2.new.self nodes c.requires

pub grow-requires-clause-shallow : goal.grow-requires-clause-shallow
grow-requires-clause-shallow g c =
    let is : get c.reserve.new.self c.args.above ≡ Some c.index.result.now = ap (λ s. get s c.args.above) c.reserve.ensures.rest_kept ∙ c.index.ensures in
    rw is (omega (arith, c.if-index-count.false, c.left-count.ensures))

pub grow-requires-clause-inner_room : goal.grow-requires-clause-inner_room
grow-requires-clause-inner_room g c = omega (arith, c.in_ok-reserve.ensures.room, c.left-count.ensures)

pub grow-requires-clause-leaf_room : goal.grow-requires-clause-leaf_room
grow-requires-clause-leaf_room g c = c.in_ok-reserve-2.ensures.room

pub returns-clause-grown : goal.returns-clause-grown
returns-clause-grown g c = λ node done e lead.
    let nodes : SameNodes c.args.inner.now c.args.leaves.now c.reserve.new.self c.reserve-2.new.self = (ap (λ (s : Slab _). s.slots) c.reserve.ensures.rest_kept, ap (λ (s : Slab _). s.slots) c.reserve-2.ensures.rest_kept) in
    let is : get c.reserve.new.self c.args.above ≡ Some node = ap (λ s. get s c.args.above) c.reserve.ensures.rest_kept ∙ e in
    on_ok_weaker c.grow.result (λ h. Grown-same c.args.inner.now c.reserve.new.self c.args.leaves.now c.reserve-2.new.self nodes h) (c.grow.ensures.grown node done is (LeadsFrom-same c.args.inner.now c.reserve.new.self nodes.0 g.K.PartialEq.eq c.args.starts.now _ done _ lead))

pub returns-clause-err : goal.returns-clause-err
returns-clause-err g c = on_err_weaker c.grow.result (λ h. (ap (λ (s : Slab _). s.slots) (h.0 ∙ c.reserve.ensures.rest_kept), ap (λ (s : Slab _). s.slots) (h.1 ∙ c.reserve-2.ensures.rest_kept))) c.grow.ensures.err
