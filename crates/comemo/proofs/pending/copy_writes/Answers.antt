use Rattle.comemo_cache.proofs.Writings.{SameWrites-cloned, written_same}
use Rattle.comemo.proofs.pending.copy_writes.Goals as goal

pub returns-clause-same : goal.returns-clause-same
returns-clause-same g c = SameWrites-cloned g.C.PartialEq.eq g.C.Clone.is_clone g.met.C.Call.laws.clones c.args.writes.now.items c.in_ok-copies.copies.items c.in_ok-copies.ensures.cases.0

pub returns-clause-written : goal.returns-clause-written
returns-clause-written g c = λ h. written_same g.C.PartialEq.eq g.C.Call.is_write g.met.C.Call.laws.same_kind c.args.writes.now.items c.in_ok-copies.copies.items (SameWrites-cloned g.C.PartialEq.eq g.C.Clone.is_clone g.met.C.Call.laws.clones c.args.writes.now.items c.in_ok-copies.copies.items c.in_ok-copies.ensures.cases.0) h
