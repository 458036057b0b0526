use Rattle.comemo_tree.proofs.tree.CallTree.shape.Goals as goal

pub shape_of-requires : goal.shape_of-requires
shape_of-requires g c = c.self.invariant

pub returns : goal.returns
returns g c = rw (← c.self.view_is) c.shape_of.ensures
