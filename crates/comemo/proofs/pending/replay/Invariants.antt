use Rattle.std.proofs.Common.{◌≡◌, ◌≤◌, true, length}
use Rattle.std.specs.List.{All}
use Rattle.std.specs.Vec.Iter.{into_iter_items}
use Rattle.comemo_cache.proofs.Writings.{DidWrites}
use Rattle.comemo.proofs.pending.replay.Given as goal

-- the calls left are writes, for which there is room, and those before them were done and sent to the sink
abbrev pub invariant-loop-write : goal.invariant-loop-write
invariant-loop-write g l = record {
  serves : (goal.iterator-loop-write g).can_next l.write-iterator × (goal.iterator-loop-write g).is_finite l.write-iterator;
  writes : All (λ c. g.In.Call.Call.is_write c ≡ true) (into_iter_items l.write-iterator);
  room : length (into_iter_items l.write-iterator) ≤ g.S.Sink.room l.sink;
  so_far : DidWrites g.In.Input.did g.S.Sink.took l.fn.input l.input l.fn.sink l.sink l.fn.writes.items (into_iter_items l.write-iterator);
}
