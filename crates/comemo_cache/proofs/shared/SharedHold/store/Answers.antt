use Rattle.comemo_cache.proofs.Holding.{stored_untold, reason_untold}
use Rattle.comemo_cache.proofs.shared.SharedHold.store.Goals as goal

pub store-stored-requires-clause-reads : goal.store-stored-requires-clause-reads
store-stored-requires-clause-reads g c = rw (← c.into_sequence-reads.ensures) at c.requires.reads

pub store-stored-requires-clause-stands : goal.store-stored-requires-clause-stands
store-stored-requires-clause-stands g c = rw (← c.into_sequence-reads.ensures) at c.requires.stands

pub returns-clause-stored : goal.returns-clause-stored
returns-clause-stored g c = stored_untold _ _ _ c.store-stored.result (rw c.into_sequence-reads.ensures at c.store-stored.ensures.stored)

pub returns-clause-reason : goal.returns-clause-reason
returns-clause-reason g c = reason_untold _ _ c.store-stored.result (rw c.into_sequence-reads.ensures at c.store-stored.ensures.reason)
