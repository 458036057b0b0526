use Rattle.std.proofs.Common.{refl}
use Rattle.comemo_tree.proofs.Forest.{leaf_at}
use Rattle.comemo_tree.proofs.Changed.{IsForest-valued, Changes-valued}
use Rattle.comemo_tree.proofs.tree.CallTree.change.Goals as goal

pub leaf_by_answers-found-requires : goal.leaf_by_answers-found-requires
leaf_by_answers-found-requires g c = c.self.invariant

pub returns-in_default-clause-absent : goal.returns-in_default-clause-absent
returns-in_default-clause-absent g c = λ _. (refl, rw (← c.self.view_is) c.in_default.ensures.absent)

pub index_mut-requires : goal.index_mut-requires
index_mut-requires g c =
    let found = c.in-Some.ensures.found in
    let f = leaf_at g.met.C.Eq.laws g.met.R.Eq.laws g.met.K.Eq.laws c.self.invariant c.args.key.now found.0 c.in-Some.at found.1 in
    rw f.1 refl

pub invariant_of-self : goal.invariant_of-self
invariant_of-self g c = IsForest-valued c.self.inside.leaves c.in-Some.at c.index_mut.result.now c.f.new.arg2 c.index_mut.ensures.value c.self.inside.inner c.self.invariant

pub returns-clause-changed : goal.returns-clause-changed
returns-clause-changed g c = λ _.
    rw (← c.self.view_is) (Changes-valued c.self.inside.leaves c.in-Some.at c.index_mut.result.now c.f.new.arg2 c.index_mut.ensures.value c.self.inside.inner g.met.C.Eq.laws g.met.R.Eq.laws g.met.K.Eq.laws c.self.invariant _ c.args.key.now c.args.answers.now c.in-Some.ensures.found (record { shown = _; shows = refl; left = _; met = c.f.ensures; leaves = refl }))
