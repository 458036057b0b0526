use Rattle.comemo_kept.proofs.answers.Answers.known.Goals as goal

pub returns-in-Ok : goal.returns-in-Ok
returns-in-Ok g c = c.self.invariant.alike c.args.call.now c.args.call.now c.in_ok-answer.answer.now c.in-Ok.own (g.met.C.Eq.laws.refl c.args.call.now) (g.met.R.Answer.clones c.in_ok-answer.answer.now c.in-Ok.own c.in-Ok.ensures.cases) c.in_ok-answer.ensures.said
