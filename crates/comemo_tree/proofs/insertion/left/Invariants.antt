use Rattle.std.proofs.Common.{◌≡◌, count_by, is_some, take}
use Rattle.comemo_tree.proofs.insertion.left.Given as goal

-- the filled slots so far are counted
abbrev pub invariant-slots : goal.invariant-slots
invariant-slots g l = l.count ≡ count_by is_some (take l.slot-index l.slot-items)
