use Rattle.std.specs.List.{AllWithin}
use Rattle.std.proofs.Common.{IsTrue}
use Rattle.comemo_base.specs.Steps.{Follows}
use Rattle.comemo_plain.proofs.find_branch.Given as goal

-- no entry before i follows
abbrev pub invariant-loop-i : goal.invariant-loop-i
invariant-loop-i g l = AllWithin (λ e. IsTrue (g.K.PartialEq.eq e.key l.key) → ¬ Follows g.R.PartialEq.eq e.path l.path l.depth l.answer) l.entries 0 l.i
