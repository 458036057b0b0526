use Rattle.std.specs.List.{AllWithin}
use Rattle.std.proofs.Common.{IsTrue}
use Rattle.comemo_plain.proofs.find_first.Given as goal

-- no entry before i has the key
abbrev pub invariant-loop-i : goal.invariant-loop-i
invariant-loop-i g l = AllWithin (λ e. ¬ IsTrue (g.K.PartialEq.eq e.key l.key)) l.entries 0 l.i
