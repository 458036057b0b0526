use Rattle.std.proofs.Common.{◌≡◌, ◌≤◌, true, length}
use Rattle.std.specs.List.{All}
use Rattle.std.specs.Vec.Iter.{into_iter_items}
use Rattle.comemo_cache.proofs.Writings.{TookWrites}
use Rattle.comemo.proofs.pending.give_writes.Given as goal

-- the calls left are writes, for which there is room, and the sink took those before them
abbrev pub invariant-loop-call : goal.invariant-loop-call
invariant-loop-call g l = record {
  serves : (goal.iterator-loop-call g).can_next l.call-iterator × (goal.iterator-loop-call g).is_finite l.call-iterator;
  writes : All (λ c. g.S.Call.Call.is_write c ≡ true) (into_iter_items l.call-iterator);
  room : length (into_iter_items l.call-iterator) ≤ g.S.Sink.room l.sink;
  so_far : TookWrites g.S.Sink.took l.fn.sink l.sink l.fn.writes.items (into_iter_items l.call-iterator);
}
