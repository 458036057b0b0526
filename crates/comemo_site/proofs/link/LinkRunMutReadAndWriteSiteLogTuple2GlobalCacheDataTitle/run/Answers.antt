use Rattle.comemo.proofs.RecursionsMut.{right_alone}
use Rattle.comemo_site.proofs.link.LinkRunMutReadAndWriteSiteLogTuple2GlobalCacheDataTitle.run.Goals as goal

pub returns-clause-right : goal.returns-clause-right
returns-clause-right c = right_alone c.link_built.result c.link_built.ensures.tells c.requires.begins
