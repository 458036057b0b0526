use Rattle.std.proofs.Common.{◌≡◌, false, length}
use Rattle.std.specs.List.{All}
use Rattle.comemo_cache.proofs.Sendings.{TookPrefix}
use Rattle.comemo.proofs.pending.give_reads.Given as goal

-- the pairs left are reads, and the sink took those before them
abbrev pub invariant-loop-read : goal.invariant-loop-read
invariant-loop-read g l = record {
  reads : All (λ p. g.S.Call.Call.is_write p.0 ≡ false) l.reads.pairs;
  so_far : TookPrefix g.S.Sink.took l.fn.sink l.sink l.fn.reads.pairs l.reads.pairs;
}

abbrev pub decreases-loop-read : goal.decreases-loop-read
decreases-loop-read g l = length l.reads.pairs
