use Rattle.std.proofs.Common.{arith}
use Rattle.comemo_tree.proofs.Shaped.{IsShape-from_forest, starts_le}
use Rattle.comemo_tree.proofs.shape.shape_of.Goals as goal

pub overflow_sub-leaf_count : goal.overflow_sub-leaf_count
overflow_sub-leaf_count g c = (let le = starts_le g.met.C.Eq.laws g.met.R.Eq.laws g.met.K.Eq.laws c.requires c.len-start_count.ensures.unique in omega (arith, le, c.len-start_count.ensures.len, c.len-leaf_count.ensures))

pub returns : goal.returns
returns g c =
    rw (c.len-inner_count.ensures, c.len-leaf_count.ensures, c.len-start_count.ensures.len) (IsShape-from_forest g.met.C.Eq.laws g.met.R.Eq.laws g.met.K.Eq.laws c.requires c.len-start_count.ensures.unique c.saturating_add-edge_count.result (rw (c.len-inner_count.ensures, c.len-leaf_count.ensures, c.len-start_count.ensures.len) at c.saturating_add-edge_count.ensures))
