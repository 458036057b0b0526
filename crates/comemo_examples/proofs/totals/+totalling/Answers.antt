use Rattle.std.proofs.Common.{rules, arith, ◌≡◌, ◌+◌, ◌-◌, ◌%◌, ◌^◌, ◌++◌, ◌∷◌, [], suc, refl, subst}
use Rattle.comemo.specs.Multi.{second_call}
use Rattle.comemo_examples.specs.declared.notebook.NotebookCall.TheVariants.{Note}
use Rattle.comemo_examples.specs.Totals.{total, notes}
use Rattle.std.proofs.lemmas.List.{map-append}
use Rattle.comemo.proofs.RecordersMut.{right_on_parts}
use Rattle.comemo.proofs.RecursionsMut.{within_goes, writes_nothing, called, wrote, writes_both, failed_after, right_alone}
use Rattle.comemo_examples.proofs.totals.+totalling.Goals as goal

pub add_up-returns-then-count-eq0-clause-tells : goal.add_up-returns-then-count-eq0-clause-tells
add_up-returns-then-count-eq0-clause-tells g t c = writes_nothing _ 0 (λ m f. right_on_parts m (λ cells book p q. rw c.if-count-eq0.true (refl, refl)))

pub add_up-returns-in_err-cell-clause-tells : goal.add_up-returns-in_err-cell-clause-tells
add_up-returns-in_err-cell-clause-tells g t c = failed_after c.in_ok-before.ensures.tells c.in_err-cell.field-0.0 c.from_residual-in_err-cell.result c.in_err-cell.ensures.tells c.from_residual-in_err-cell.ensures.1

pub add_up-returns-in_err-write_part-clause-tells : goal.add_up-returns-in_err-write_part-clause-tells
add_up-returns-in_err-write_part-clause-tells g t c = failed_after (writes_both c.in_ok-before.ensures.tells _ (called c.in_ok-cell.ensures.tells c.in_ok-cell.ensures.writes)) c.in_err-write_part.field-0.0 c.from_residual-in_err-write_part.result c.in_err-write_part.ensures.tells c.from_residual-in_err-write_part.ensures.1

pub add_up-returns-clause-tells : goal.add_up-returns-clause-tells
add_up-returns-clause-tells g t c =
    let low : suc (c.args.count - 1) ≡ c.args.count = omega (arith, c.if-count-eq0.false) in
    let all = writes_both c.in_ok-before.ensures.tells _ (writes_both (called c.in_ok-cell.ensures.tells c.in_ok-cell.ensures.writes) _ (wrote c.in_ok-write_part.ensures.tells _ _ _ c.in_ok-write_part.ensures.sent)) in
    record {
      goes = all.goes;
      before = all.before;
      told = λ m f.
          let told = all.told m f in
          let h = told.2 in (
            told.0,
            told.1,
            right_on_parts m (λ cells book p q.
                let right = h.3.1 cells book p q in
                let wrote = h.3.0 cells book p q in
                let cell = h.4.3.1 cells p in
                let next : total cells c.args.count ≡ (total cells (c.args.count - 1) + cells (record { place = c.args.count - 1 })) % 2 ^ 64 = subst (λ n. total cells n ≡ (total cells (c.args.count - 1) + cells (record { place = c.args.count - 1 })) % 2 ^ 64) low refl in
                let more : notes cells c.args.count ≡ notes cells (c.args.count - 1) ++ Note (total cells c.args.count) ∷ [] = subst (λ n. notes cells n ≡ notes cells (c.args.count - 1) ++ Note (total cells n) ∷ []) low refl in
                (search (rules, next, right, cell), rw (h.2, wrote, h.4.2, h.4.3.0, h.4.4, more, map-append second_call (notes cells (c.args.count - 1)) (Note (total cells c.args.count) ∷ [])) (search (rules, next, right, cell)))),
          );
      complete = all.complete;
      fault = tt;
    }

pub totalled-finish-requires-clause-right : goal.totalled-finish-requires-clause-right
totalled-finish-requires-clause-right g t c = right_alone c.add_up-ran.result c.add_up-ran.ensures.tells (rw c.in-Run.is at c.in_ok-total.ensures.begins).writes

pub totalled-returns-clause-agrees : goal.totalled-returns-clause-agrees
totalled-returns-clause-agrees g t c = c.finish.ensures.agrees _ (within_goes (rw c.in-Run.is at c.in_ok-total.ensures.tells) c.add_up-ran.ensures.tells.goes)

pub totalled-returns-clause-tells : goal.totalled-returns-clause-tells
totalled-returns-clause-tells g t c = c.finish.ensures.tells _ (within_goes (rw c.in-Run.is at c.in_ok-total.ensures.tells) c.add_up-ran.ensures.tells.goes)
