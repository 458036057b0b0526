use Rattle.std.proofs.Common.{rules, ℕ, slice_index}
use Rattle.std.proofs.lemmas.Fn.{always_returns_same}
use Rattle.std.proofs.lemmas.Map.Views.{exact_unsigned_eq}
use Rattle.std.specs.Cmp.{nat_eq_equiv}
use Rattle.comemo_tree_tests.proofs.callers.get_by_table.Goals as goal

pub returns : goal.returns
returns g c =
    let m = λ (call : ℕ). slice_index c.args.table.now call in
    c.in-Ok.ensures.agreeing m (λ a b h. rw (exact_unsigned_eq a b h) (nat_eq_equiv.refl (m b))) (always_returns_same _ _ _ (λ a r f' h. search rules))
