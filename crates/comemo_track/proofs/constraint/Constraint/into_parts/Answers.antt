use Rattle.comemo_track.proofs.constraint.Constraint.into_parts.Goals as goal

pub returns-clause-are_reads : goal.returns-clause-are_reads
returns-clause-are_reads g c = rw (← c.self.view_is) c.self.invariant.all_reads

pub returns-clause-are_writes : goal.returns-clause-are_writes
returns-clause-are_writes g c = rw (← c.self.view_is) c.self.invariant.all_writes
