use Rattle.std.proofs.Common.{rules, ℕ, slice_index}
use Rattle.std.proofs.lemmas.Fn.{always_returns_same}
use Rattle.std.proofs.lemmas.Map.Views.{exact_unsigned_eq}
use Rattle.std.specs.Cmp.{nat_eq_equiv}
use Rattle.comemo_tree_tests.proofs.Agreeing.{Agrees-from_find_err}
use Rattle.comemo_tree_tests.proofs.callers.find_by_table.Goals as goal

pub returns-clause-found : goal.returns-clause-found
returns-clause-found g c =
    let m = λ (call : ℕ). slice_index c.args.table.now call in
    c.find.ensures.agreeing m (λ a b h. rw (exact_unsigned_eq a b h) (nat_eq_equiv.refl (m b))) (always_returns_same _ _ _ (λ a r f' h. search rules))

pub returns-clause-err : goal.returns-clause-err
returns-clause-err g c =
    let m = λ (call : ℕ). slice_index c.args.table.now call in
    Agrees-from_find_err nat_eq_equiv nat_eq_equiv _ _ m _ _ c.find.result (λ a b e. rw (exact_unsigned_eq a b e) (nat_eq_equiv.refl (m b))) (always_returns_same _ _ _ (λ a r f' k. search rules)) (c.find.ensures.answered (always_returns_same _ _ _ (λ a r f' k. search rules)))
