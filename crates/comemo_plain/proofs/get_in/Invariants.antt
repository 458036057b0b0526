use Rattle.std.proofs.Common.{◌≤◌, ◌<◌, ◌-◌, List, length, take, sum_by, IsTrue}
use Rattle.std.specs.List.{All, HoldsAt}
use Rattle.comemo_base.specs.Tree.{IsSamePath}
use Rattle.comemo_base.specs.Lookup.{under, Answered, IsStoredCall}
use Rattle.comemo_plain.proofs.get_in.Given as goal

-- the oracle was asked the prefix of the path at hand, at stored calls, and gave its answers
abbrev pub invariant-loop-depth : goal.invariant-loop-depth
invariant-loop-depth g l = record {
  bound : l.at < length l.entries;
  key : HoldsAt (λ e. IsTrue (g.K.PartialEq.eq e.key l.key)) l.entries l.at;
  deep : HoldsAt (λ e. l.depth ≤ length e.path) l.entries l.at;
  led : (asked : List (_ × _)) × Answered g.O.FnMut l.fn.oracle asked l.oracle × HoldsAt (λ e. IsSamePath g.C.PartialEq.eq g.R.PartialEq.eq asked (take l.depth e.path)) l.entries l.at × All (λ p. IsStoredCall (under g.K.PartialEq.eq l.entries l.key) p.0) asked;
}

-- no path is longer than all of them together
abbrev pub decreases-loop-depth : goal.decreases-loop-depth
decreases-loop-depth g l = sum_by (λ e. length e.path) l.entries - l.depth
