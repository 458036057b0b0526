use Rattle.std.proofs.Common.{◌≡◌, Bor}
use Rattle.std.specs.List.{AllZip}
use Rattle.comemo_tree.proofs.tree.cloned.Given as goal

-- the pairs so far are cloned
abbrev pub invariant-pairs : goal.invariant-pairs
invariant-pairs g l = AllZip (λ (p : Bor _ × _) (q : _ × _). g.C.Clone.is_clone p.0.now q.0 × (p.1 ≡ q.1)) l.yielded l.path.items
