use Rattle.comemo_cache.proofs.shared.ExclusiveGuard.publish.Goals as goal

pub returns-clause-second : goal.returns-clause-second
returns-clause-second g c = rw c.deref.ensures at c.another.ensures

pub returns-clause-third : goal.returns-clause-third
returns-clause-third g c = rw c.deref-2.ensures at c.another-2.ensures

pub returns-clause-fourth : goal.returns-clause-fourth
returns-clause-fourth g c = rw c.deref-3.ensures at c.another-3.ensures
