use Rattle.std.proofs.Common.{◌∙◌, ap, subst}
use Rattle.std.specs.Map.{lookup}
use Rattle.comemo_tree.specs.Growth.{Grown}
use Rattle.comemo_tree.proofs.Chain.{OnErr-always}
use Rattle.comemo_tree.proofs.Same.{IsForest-same, IsForest-starts, Grown-same, contents-same}
use Rattle.comemo_tree.proofs.Insertions.{IfErr-passed, not_Exists-new, not_Misses-new, Adds-new, lead-own, CanGrow-forks, Adds-forks}
use Rattle.comemo_tree.proofs.tree.CallTree.insert.Goals as goal

pub invariant_of-self : goal.invariant_of-self
invariant_of-self g c =
    let moved = IsForest-same c.self.inside.inner c.begin_key.new.inner c.self.inside.leaves c.begin_key.new.leaves c.begin_key.ensures.nodes c.self.invariant in
    IsForest-starts (λ k. ap (λ es. lookup (g.K.PartialEq.eq k) es) c.in_err-begun.ensures.err) moved

pub plant-requires-clause-forest : goal.plant-requires-clause-forest
plant-requires-clause-forest g c =
    let moved = IsForest-same c.self.inside.inner c.begin_key.new.inner c.self.inside.leaves c.begin_key.new.leaves c.begin_key.ensures.nodes c.self.invariant in
    rw c.of-before.ensures moved

pub plant-requires-clause-put : goal.plant-requires-clause-put
plant-requires-clause-put g c =
    let put = rw c.in_default.is at c.in_ok-begun.ensures.put in
    rw (c.of-before.ensures, c.of-own.ensures) put.1

pub returns-in_default-clause-ok : goal.returns-in_default-clause-ok
returns-in_default-clause-ok g c =
    let put = rw c.in_default.is at c.in_ok-begun.ensures.put in
    rw (← c.self.view_is) (not_Exists-new g.met.C.Eq.laws g.met.R.Eq.laws g.met.K.Eq.laws c.self.invariant c.args.key c.args.sequence.pairs put.0, not_Misses-new g.met.C.Eq.laws g.met.R.Eq.laws g.met.K.Eq.laws c.self.invariant c.args.key c.args.sequence.pairs put.0)

pub returns-in_default-clause-stored : goal.returns-in_default-clause-stored
returns-in_default-clause-stored g c =
    let put = rw c.in_default.is at c.in_ok-begun.ensures.put in
    let grown = subst (λ k. Grown g.C.PartialEq.eq g.R.PartialEq.eq g.K.PartialEq.eq c.begin_key.new.inner c.begin_key.new.leaves c.plant.new.inner c.plant.new.leaves c.begin_key.new.starts k c.args.sequence.pairs c.args.value) c.of-own.ensures c.plant.ensures in
    rw (← c.self.view_is) (Adds-new g.met.C.Eq.laws g.met.R.Eq.laws g.met.K.Eq.laws c.self.invariant c.args.key c.args.sequence.pairs put.0 c.args.value (Grown-same c.self.inside.inner c.begin_key.new.inner c.self.inside.leaves c.begin_key.new.leaves c.begin_key.ensures.nodes grown))

pub walk-requires-clause-forest : goal.walk-requires-clause-forest
walk-requires-clause-forest g c =
    let moved = IsForest-same c.self.inside.inner c.begin_key.new.inner c.self.inside.leaves c.begin_key.new.leaves c.begin_key.ensures.nodes c.self.invariant in
    let stays = rw c.in-Some.is at c.in_ok-begun.ensures.stays in
    let forest = IsForest-starts (λ k. ap (λ es. lookup (g.K.PartialEq.eq k) es) stays) moved in
    forest

pub invariant_of-self-in_err-at : goal.invariant_of-self-in_err-at
invariant_of-self-in_err-at g c =
    let moved = IsForest-same c.self.inside.inner c.begin_key.new.inner c.self.inside.leaves c.begin_key.new.leaves c.begin_key.ensures.nodes c.self.invariant in
    let stays = rw c.in-Some.is at c.in_ok-begun.ensures.stays in
    let forest = IsForest-starts (λ k. ap (λ es. lookup (g.K.PartialEq.eq k) es) stays) moved in
    forest

pub returns-in_err-at-clause-reason : goal.returns-in_err-at-clause-reason
returns-in_err-at-clause-reason g c =
    let there = contents-same c.self.inside.inner c.begin_key.new.inner c.self.inside.leaves c.begin_key.new.leaves c.begin_key.ensures.nodes ∙ c.self.view_is in
    rw (← there, ← c.of-own.ensures) (IfErr-passed c.from_residual-in_err-at.result c.in_err-at.field-0.0 _ c.from_residual-in_err-at.ensures.1 c.in_err-at.ensures.reason)

pub returns-in_err-at-clause-err : goal.returns-in_err-at-clause-err
returns-in_err-at-clause-err g c =
    let there = contents-same c.self.inside.inner c.begin_key.new.inner c.self.inside.leaves c.begin_key.new.leaves c.begin_key.ensures.nodes ∙ c.self.view_is in
    OnErr-always _ c.from_residual-in_err-at.result there

pub insert_below-requires : goal.insert_below-requires
insert_below-requires g c =
    let moved = IsForest-same c.self.inside.inner c.begin_key.new.inner c.self.inside.leaves c.begin_key.new.leaves c.begin_key.ensures.nodes c.self.invariant in
    let stays = rw c.in-Some.is at c.in_ok-begun.ensures.stays in
    let forest = IsForest-starts (λ k. ap (λ es. lookup (g.K.PartialEq.eq k) es) stays) moved in
    CanGrow-forks g.met.C.Eq.laws g.met.R.Eq.laws g.met.K.Eq.laws forest c.of-own.result.value c.args.sequence.pairs c.in_ok-at.at c.in_ok-at.answer c.walk.new.sequence.pairs c.in_ok-at.ensures.forks c.of-own.result.value (g.met.K.Eq.laws.refl c.of-own.result.value)

pub invariant_of-self-in_err-insert_below : goal.invariant_of-self-in_err-insert_below
invariant_of-self-in_err-insert_below g c =
    let moved = IsForest-same c.self.inside.inner c.begin_key.new.inner c.self.inside.leaves c.begin_key.new.leaves c.begin_key.ensures.nodes c.self.invariant in
    let stays = rw c.in-Some.is at c.in_ok-begun.ensures.stays in
    let forest = IsForest-starts (λ k. ap (λ es. lookup (g.K.PartialEq.eq k) es) stays) moved in
    IsForest-same c.begin_key.new.inner c.insert_below.new.inner c.begin_key.new.leaves c.insert_below.new.leaves c.in_err-insert_below.ensures.err forest

pub returns-in_err-insert_below-clause-err : goal.returns-in_err-insert_below-clause-err
returns-in_err-insert_below-clause-err g c =
    let there = contents-same c.self.inside.inner c.begin_key.new.inner c.self.inside.leaves c.begin_key.new.leaves c.begin_key.ensures.nodes ∙ c.self.view_is in
    OnErr-always _ c.from_residual-in_err-insert_below.result (contents-same c.begin_key.new.inner c.insert_below.new.inner c.begin_key.new.leaves c.insert_below.new.leaves c.in_err-insert_below.ensures.err ∙ there)

pub invariant_of-self-2 : goal.invariant_of-self-2
invariant_of-self-2 g c =
    let moved = IsForest-same c.self.inside.inner c.begin_key.new.inner c.self.inside.leaves c.begin_key.new.leaves c.begin_key.ensures.nodes c.self.invariant in
    let stays = rw c.in-Some.is at c.in_ok-begun.ensures.stays in
    let forest = IsForest-starts (λ k. ap (λ es. lookup (g.K.PartialEq.eq k) es) stays) moved in
    let forks = c.in_ok-at.ensures.forks in
    let grown = c.in_ok-insert_below.ensures.grown forks.node forks.done forks.is (lead-own g.met.C.Eq.laws g.met.R.Eq.laws g.met.K.Eq.laws forest c.of-own.result.value c.args.sequence.pairs c.in_ok-at.at c.in_ok-at.answer c.walk.new.sequence.pairs c.in_ok-at.ensures.forks c.of-own.result.value (g.met.K.Eq.laws.refl c.of-own.result.value)) in
    grown.forest

pub returns-clause-ok : goal.returns-clause-ok
returns-clause-ok g c =
    let there = contents-same c.self.inside.inner c.begin_key.new.inner c.self.inside.leaves c.begin_key.new.leaves c.begin_key.ensures.nodes ∙ c.self.view_is in
    rw (← there, ← c.of-own.ensures) (c.in_ok-at.ensures.forks.not_there, c.in_ok-at.ensures.forks.not_missing)

pub returns-clause-stored : goal.returns-clause-stored
returns-clause-stored g c =
    let there = contents-same c.self.inside.inner c.begin_key.new.inner c.self.inside.leaves c.begin_key.new.leaves c.begin_key.ensures.nodes ∙ c.self.view_is in
    let moved = IsForest-same c.self.inside.inner c.begin_key.new.inner c.self.inside.leaves c.begin_key.new.leaves c.begin_key.ensures.nodes c.self.invariant in
    let stays = rw c.in-Some.is at c.in_ok-begun.ensures.stays in
    let forest = IsForest-starts (λ k. ap (λ es. lookup (g.K.PartialEq.eq k) es) stays) moved in
    let forks = c.in_ok-at.ensures.forks in
    let grown = c.in_ok-insert_below.ensures.grown forks.node forks.done forks.is (lead-own g.met.C.Eq.laws g.met.R.Eq.laws g.met.K.Eq.laws forest c.of-own.result.value c.args.sequence.pairs c.in_ok-at.at c.in_ok-at.answer c.walk.new.sequence.pairs c.in_ok-at.ensures.forks c.of-own.result.value (g.met.K.Eq.laws.refl c.of-own.result.value)) in
    rw (← there, ← c.of-own.ensures) (Adds-forks g.met.C.Eq.laws g.met.R.Eq.laws g.met.K.Eq.laws forest c.of-own.result.value c.args.sequence.pairs c.in_ok-at.at c.in_ok-at.answer c.walk.new.sequence.pairs c.in_ok-at.ensures.forks c.of-own.result.value (g.met.K.Eq.laws.refl c.of-own.result.value) c.args.value grown)
