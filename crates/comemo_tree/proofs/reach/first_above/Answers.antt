use Rattle.comemo_tree.proofs.Reaching.{SameFirst-init, SameFirst-step, IsFirstOf-end, rank_falls, there}
use Rattle.comemo_tree.proofs.reach.first_above.Goals as goal

pub up-init : goal.up-init
up-init g c = record { first = SameFirst-init c.args.inner.now c.args.from c.requires.there }

pub index-requires : goal.index-requires
index-requires g c = there c.args.inner.now c.args.from c.up.at c.up.invariant.first

pub up-smaller : goal.up-smaller
up-smaller g c = rank_falls c.args.inner.now c.requires.parents c.up.at c.in-Some.above c.index.result.now c.index.ensures c.in-Some.is

pub up-preserved : goal.up-preserved
up-preserved g c = record { first = SameFirst-step c.args.inner.now c.requires.parents c.args.from c.up.at c.in-Some.above c.index.result.now c.up.invariant.first c.index.ensures c.in-Some.is }

pub returns-clause-first : goal.returns-clause-first
returns-clause-first g c = IsFirstOf-end c.args.inner.now c.args.from c.up.at c.index.result.now c.up.invariant.first c.index.ensures c.in_default.is

pub returns-clause-there : goal.returns-clause-there
returns-clause-there g c = there c.args.inner.now c.args.from c.up.at c.up.invariant.first
