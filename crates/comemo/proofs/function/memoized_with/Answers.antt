use Rattle.comemo.proofs.function.memoized_with.Goals as goal

pub returns-clause-right : goal.returns-clause-right
returns-clause-right g c = rw c.view.ensures at c.memoized_view.ensures.right

pub returns-clause-reply : goal.returns-clause-reply
returns-clause-reply g c = rw c.view.ensures at c.memoized_view.ensures.reply

pub returns-clause-fault : goal.returns-clause-fault
returns-clause-fault g c = rw c.view.ensures at c.memoized_view.ensures.fault

pub returns-clause-err : goal.returns-clause-err
returns-clause-err g c = rw c.view.ensures at c.memoized_view.ensures.err

pub returns-clause-needs : goal.returns-clause-needs
returns-clause-needs g c = rw c.view.ensures at c.memoized_view.ensures.needs
