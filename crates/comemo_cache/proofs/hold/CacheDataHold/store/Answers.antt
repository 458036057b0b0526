use Rattle.comemo_cache.proofs.hold.CacheDataHold.store.Goals as goal

pub store-requires-clause-reads : goal.store-requires-clause-reads
store-requires-clause-reads g c = rw (← c.into_sequence.ensures) at c.requires.reads

pub store-requires-clause-settled : goal.store-requires-clause-settled
store-requires-clause-settled g c = rw (← c.into_sequence.ensures) at c.requires.settled

pub returns-clause-stored : goal.returns-clause-stored
returns-clause-stored g c = rw c.into_sequence.ensures at c.store.ensures.stored
