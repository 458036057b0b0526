use Rattle.std.proofs.Common.{◌≡◌, ◌∙◌, sym, ap, refl, arith, ℕ}
use Rattle.std.specs.List.{insert}
use Rattle.slab.proofs.SlabLemmas.{Updates-with_value}
use Rattle.comemo_tree.specs.declared.children.Node.TheVariants.{Leaf}
use Rattle.comemo_tree.proofs.tree.attach_leaf.Goals as goal

pub returns-clause-added : goal.returns-clause-added
returns-clause-added g c =
    let n = c.index_mut-node.result.now in
    let a = c.in_ok-insert.ensures.added in
    let key : c.vacant_key-id.result ≡ c.insert_reserved.result = c.vacant_key-id.ensures.value ∙ sym c.insert_reserved.ensures.key in
    let w = Updates-with_value c.args.inner.now c.args.above _ c.requires.there in
    record {
      above = n;
      above' = _;
      place = a.0;
      id = c.insert_reserved.result;
      fresh = _;
      at = c.index_mut-node.ensures.value;
      at' = w.changed;
      same_call = refl;
      same_parent = refl;
      same_depth = refl;
      same_kept = refl;
      grown = a.2 ∙ ap (λ (k : ℕ). insert n.children a.0 (c.args.answer, Leaf k)) key;
      vacant = c.insert_reserved.ensures.was_vacant;
      updates = c.insert_reserved.ensures.updates;
      fresh_key = refl;
      fresh_value = refl;
      fresh_parent = refl;
      fresh_depth = omega arith;
      others = λ x d. w.others x d;
    }
