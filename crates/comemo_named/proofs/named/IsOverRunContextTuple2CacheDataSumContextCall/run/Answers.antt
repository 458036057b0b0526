use Rattle.std.proofs.Common.{rules, inl}
use Rattle.comemo.proofs.NamedRuns.{nothing_asked, called_then, settled_run}
use Rattle.comemo_named.proofs.named.IsOverRunContextTuple2CacheDataSumContextCall.run.Goals as goal

pub returns-clause-settled : goal.returns-clause-settled
returns-clause-settled c = λ none. settled_run c.args.n.now (search rules) (called_then c.in_ok-sum.ensures.reply.2 (search rules) (λ x y h. search rules) (rw none tt) (λ n f k e d a. tt) (nothing_asked none)) (λ n f k e d a. inl tt)
