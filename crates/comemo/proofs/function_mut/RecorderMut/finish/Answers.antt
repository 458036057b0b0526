use Rattle.comemo.proofs.RecursionsMut.{of_output, handed_on, incomplete_as, fault_with, is_failure}
use Rattle.comemo_cache.specs.Meaning.{IsRight}
use Rattle.comemo.proofs.function_mut.RecorderMut.finish.Goals as goal

pub returns-clause-tells : goal.returns-clause-tells
returns-clause-tells g c = λ s within. of_output c.in_ok-reply.reply (λ o m W. (IsRight g.G.Function.means g.G.Function.writes) c.args.key.now m o W) (c.in_ok-reply.ensures.tells s within)

pub returns-clause-finished : goal.returns-clause-finished
returns-clause-finished g c =
    let done = c.in_ok-reply.ensures.finished in
    (done.0, c.in_ok-reply.reply.how, done.1)

pub returns-in_err-reply-clause-tells : goal.returns-in_err-reply-clause-tells
returns-in_err-reply-clause-tells g c = λ s within. handed_on c.in_err-reply.field-0.0 c.from_residual.result (c.in_err-reply.ensures.tells s within) c.from_residual.ensures.1

pub returns-in_err-reply-clause-incomplete : goal.returns-in_err-reply-clause-incomplete
returns-in_err-reply-clause-incomplete g c = rw (is_failure c.from_residual.result c.in_err-reply.field-0.0 c.from_residual.ensures.1) (incomplete_as _ _ _ c.args.ran c.in_err-reply.field-0.0 c.in_err-reply.ensures.incomplete)

pub returns-in_err-reply-clause-fault : goal.returns-in_err-reply-clause-fault
returns-in_err-reply-clause-fault g c = rw (is_failure c.from_residual.result c.in_err-reply.field-0.0 c.from_residual.ensures.1) (fault_with _ _ c.args.ran c.in_err-reply.field-0.0 c.in_err-reply.ensures.fault)
