use Rattle.std.proofs.Common.{◌≡◌, [], false}
use Rattle.std.specs.List.{All}
use Rattle.std.specs.Vec.Iter.{into_iter_items}
use Rattle.comemo_cache.proofs.Sendings.{TookPrefix}
use Rattle.comemo.proofs.pending.give_pairs.Given as goal

-- the pairs left are reads, the sink took those before them, and once it takes them it has taken all
abbrev pub invariant-loop-call : goal.invariant-loop-call
invariant-loop-call g l = record {
  serves : (goal.iterator-loop-call g).can_next l.call-iterator × (goal.iterator-loop-call g).is_finite l.call-iterator;
  reads : All (λ p. g.S.Call.Call.is_write p.0 ≡ false) (into_iter_items l.call-iterator);
  so_far : TookPrefix g.S.Sink.took l.fn.sink l.sink l.fn.pairs.items (into_iter_items l.call-iterator);
  rest : (t : _) → g.S.Sink.took l.sink t (into_iter_items l.call-iterator) [] → g.S.Sink.took l.fn.sink t l.fn.pairs.items [];
}
