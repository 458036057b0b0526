use Rattle.std.proofs.Common.{of_calls, refl}
use Rattle.comemo_tree.proofs.retention.fn.retain_leaves.retain.Goals as goal

pub f-requires : goal.f-requires
f-requires g c = search (of_calls, c.requires)

pub returns : goal.returns
returns g c = record {
  key = refl;
  parent = refl;
  depth = refl;
  kept = record { shown = _; shows = refl; left = _; met = c.f.ensures; leaves = refl };
}
