use Rattle.comemo_cache.proofs.shared.EntriesRef.store.Goals as goal

pub returns-clause-stored : goal.returns-clause-stored
returns-clause-stored g c = rw (← c.self.view_is, c.in-Some.is) (rw c.in-Some-get_mut.ensures.value at c.store.ensures.stored)
