use Rattle.std.proofs.Common.{◌≡◌, false}
use Rattle.std.specs.List.{AllWithin}
use Rattle.comemo_base.proofs.places.position.Given as goal

-- none of the entries before stands for the call
abbrev pub invariant-loop-at : goal.invariant-loop-at
invariant-loop-at g l = AllWithin (λ e. g.C.PartialEq.eq l.call e.0 ≡ false) l.list 0 l.at
