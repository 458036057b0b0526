use Rattle.comemo.proofs.function.Recorder.finish.Goals as goal

pub returns-clause-finished : goal.returns-clause-finished
returns-clause-finished g c =
    let done = c.in_ok-reply.ensures.finished in
    (done.0, c.in_ok-reply.reply.how, done.1)
