use Rattle.std.proofs.Common.{◌≡◌, ◌<◌, ◌-◌, ◌++◌, length, sum_by, vec_len}
use Rattle.std.specs.List.{HoldsAt}
use Rattle.comemo_base.specs.Sequence.{HasDistinctCalls}
use Rattle.comemo_base.specs.Insertion.{outside}
use Rattle.comemo_base.proofs.Steps.{Walked}
use Rattle.comemo_plain.proofs.walk.Given as goal

-- the path so far is the prefix of the path at hand, and its pairs were taken out of the sequence
abbrev pub invariant-walk : goal.invariant-walk
invariant-walk g l = record {
  bound : l.at < length l.entries;
  walked : HoldsAt (λ e. Walked g.C.PartialEq.eq g.R.PartialEq.eq g.K.PartialEq.eq l.fn.key l.fn.sequence.pairs l.path.items e) l.entries l.at;
  left : l.sequence.pairs ≡ outside g.C.PartialEq.eq l.path.items l.fn.sequence.pairs;
  distinct : HasDistinctCalls g.C.PartialEq.eq (l.path.items ++ l.sequence.pairs);
}

abbrev pub decreases-walk : goal.decreases-walk
decreases-walk g l = sum_by (λ e. length e.path) l.entries - vec_len l.path
