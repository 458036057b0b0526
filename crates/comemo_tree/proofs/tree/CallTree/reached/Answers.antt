use Rattle.comemo_tree.proofs.tree.CallTree.reached.Goals as goal

pub keys_reached-requires : goal.keys_reached-requires
keys_reached-requires g c = c.self.invariant

pub returns-clause-all : goal.returns-clause-all
returns-clause-all g c = rw (← c.self.view_is) c.keys_reached.ensures.all

pub returns-clause-only : goal.returns-clause-only
returns-clause-only g c = rw (← c.self.view_is) c.keys_reached.ensures.only
