use Rattle.std.proofs.Common.{◌≡◌, ◌∙◌, sym, ap, refl, arith, ℕ, suc, ◌+◌}
use Rattle.std.specs.List.{insert}
use Rattle.comemo_tree.specs.declared.children.Node.TheVariants.{Inner}
use Rattle.comemo_tree.proofs.Attach.{adds}
use Rattle.comemo_tree.proofs.tree.attach_inner.Goals as goal

pub returns-clause-added : goal.returns-clause-added
returns-clause-added g c =
    let n = c.index_mut-node.result.now in
    let a = c.in_ok-insert.ensures.added in
    let key : c.vacant_key-id.result ≡ c.insert_reserved.result = c.vacant_key-id.ensures.value ∙ sym c.insert_reserved.ensures.key in
    let deep : n.depth + 1 ≡ suc n.depth = omega arith in
    adds g.R.PartialEq.eq c.args.inner.now c.insert_reserved.new.self c.args.above c.insert_reserved.result n _ _ c.args.answer c.args.call a.0 c.index_mut-node.ensures.value c.insert_reserved.ensures.was_vacant c.insert_reserved.ensures.updates refl refl refl refl (a.2 ∙ ap (λ (k : ℕ). insert n.children a.0 (c.args.answer, Inner k)) key) refl refl deep c.new.ensures refl
