use Rattle.std.proofs.Common.{ℕ, slice_index}
use Rattle.std.proofs.lemmas.Map.Views.{exact_unsigned_eq}
use Rattle.std.specs.Cmp.{nat_eq_equiv}
use Rattle.comemo_tree_tests.proofs.Found.{found_as_stored}
use Rattle.comemo_tree_tests.proofs.callers.insert_then_get.Goals as goal

pub returns : goal.returns
returns g c =
    let m = λ (call : ℕ). slice_index c.args.table.now call in
    let done = c.in_ok-insert.ensures in
    found_as_stored nat_eq_equiv m (λ a b h. rw (exact_unsigned_eq a b h) (nat_eq_equiv.refl (m b))) _ c.args.tree.now c.args.key c.args.sequence.pairs c.requires _ c.args.value _ done.ok.0 done.ok.1 done.stored c.get_by_table.ensures
