use Rattle.std.proofs.Common.{rules, arith, ◌≡◌, ◌-◌, suc, refl}
use Rattle.comemo.proofs.RecursionsMut.{within_goes, writes_nothing, asked, wrote, writes_both, failed_after, writes_as, right_alone}
use Rattle.comemo_examples.proofs.ruler.+drawing.Goals as goal

pub draw-returns-then-height-eq0-clause-tells : goal.draw-returns-then-height-eq0-clause-tells
draw-returns-then-height-eq0-clause-tells g t c = writes_nothing _ tt (λ m f. (rw c.if-height-eq0.true refl, tt))

pub draw-returns-in_err-owner-clause-tells : goal.draw-returns-in_err-owner-clause-tells
draw-returns-in_err-owner-clause-tells g t c = failed_after c.in_ok-ruled.ensures.tells c.in_err-owner.field-0.0 c.from_residual-in_err-owner.result c.in_err-owner.ensures.tells c.from_residual-in_err-owner.ensures.1

pub draw-returns-clause-tells : goal.draw-returns-clause-tells
draw-returns-clause-tells g t c =
    let low : suc (c.args.height - 1) ≡ c.args.height = omega (arith, c.if-height-eq0.false) in
    let middle = writes_both (wrote c.in_ok-write.ensures.tells _ _ _ c.in_ok-write.ensures.sent) _ (writes_both (wrote c.in_ok-write-2.ensures.tells _ _ _ c.in_ok-write-2.ensures.sent) _ c.ruled-2.ensures.tells) in
    writes_as c.ruled-2.result (writes_both c.in_ok-ruled.ensures.tells _ (writes_both (asked c.in_ok-owner.ensures.tells _ _ _ _ _ c.in_ok-owner.ensures.asks) _ middle)) (λ _ m W f h.
    (rw (h.2, h.3.0, h.4.2, h.4.3.0, h.4.4.2, h.4.4.3, h.4.4.4.2, h.4.4.4.3, h.4.4.4.4.0) (search (rules, low, h.4.3.1)), tt))

pub ruled-finish-requires-clause-right : goal.ruled-finish-requires-clause-right
ruled-finish-requires-clause-right g t c = right_alone c.draw-ran.result c.draw-ran.ensures.tells (rw c.in-Run.is at c.in_ok-begin.ensures.begins).writes

pub ruled-returns-clause-agrees : goal.ruled-returns-clause-agrees
ruled-returns-clause-agrees g t c = c.finish.ensures.agrees _ (within_goes (rw c.in-Run.is at c.in_ok-begin.ensures.tells) c.draw-ran.ensures.tells.goes)

pub ruled-returns-clause-tells : goal.ruled-returns-clause-tells
ruled-returns-clause-tells g t c = c.finish.ensures.tells _ (within_goes (rw c.in-Run.is at c.in_ok-begin.ensures.tells) c.draw-ran.ensures.tells.goes)
