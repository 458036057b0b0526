use Rattle.std.proofs.Common.{◌≡◌, ◌∙◌, refl, arith, ap, length}
use Rattle.std.proofs.lemmas.Result.{on_ok_weaker}
use Rattle.comemo_tree.proofs.Chain.{Chain-begin, Chain-step, Chain-end, Chain-there, Chain-nowhere, Chain-sure, Chain-unchanged, OnErr-always, Chain-untouched, sure-passed}
use Rattle.comemo_tree.proofs.insertion.grow.Goals as goal

pub chain-init : goal.chain-init
chain-init g c = Chain-begin g.met.R.Eq.laws c.args.sequence.pairs c.requires.grows c.requires.shallow c.requires.inner_room

pub attach_inner-requires-clause-there : goal.attach_inner-requires-clause-there
attach_inner-requires-clause-there g c = Chain-there g.met.R.Eq.laws c.chain.invariant

pub attach_inner-requires-clause-leads_nowhere : goal.attach_inner-requires-clause-leads_nowhere
attach_inner-requires-clause-leads_nowhere g c = Chain-nowhere g.met.R.Eq.laws c.chain.invariant

pub attach_inner-requires-clause-room : goal.attach_inner-requires-clause-room
attach_inner-requires-clause-room g c = let cut = c.in-Some.ensures.pairs in omega (arith, c.chain.invariant.room, ap length cut)

pub returns-in_err-at-clause-first : goal.returns-in_err-at-clause-first
returns-in_err-at-clause-first g c = sure-passed _ _ c.attach_inner.result c.in_err-at.field-0.0 c.from_residual.result c.in_err-at.was (Chain-sure g.met.R.Eq.laws c.chain.invariant c.attach_inner.result c.attach_inner.ensures.first)

pub returns-in_err-at-clause-err : goal.returns-in_err-at-clause-err
returns-in_err-at-clause-err g c = OnErr-always _ c.from_residual.result (c.in_err-at.ensures.err ∙ Chain-untouched g.met.R.Eq.laws c.chain.invariant c.attach_inner.result c.in_err-at.field-0.0 c.in_err-at.was c.attach_inner.ensures.first, refl)

pub chain-smaller : goal.chain-smaller
chain-smaller g c = let cut = c.in-Some.ensures.pairs in omega (arith, ap length cut)

pub chain-preserved : goal.chain-preserved
chain-preserved g c = Chain-step g.met.R.Eq.laws c.chain.invariant _ _ _ _ _ c.in-Some.ensures.pairs c.in_ok-at.ensures.added c.in_ok-at.ensures.len c.attach_inner.ensures.room

pub attach_leaf-requires-clause-there : goal.attach_leaf-requires-clause-there
attach_leaf-requires-clause-there g c = Chain-there g.met.R.Eq.laws c.chain.invariant

pub attach_leaf-requires-clause-leads_nowhere : goal.attach_leaf-requires-clause-leads_nowhere
attach_leaf-requires-clause-leads_nowhere g c = Chain-nowhere g.met.R.Eq.laws c.chain.invariant

pub attach_leaf-requires-clause-room : goal.attach_leaf-requires-clause-room
attach_leaf-requires-clause-room g c = c.requires.leaf_room

pub returns-clause-grown : goal.returns-clause-grown
returns-clause-grown g c = λ node done e lead. on_ok_weaker c.attach_leaf.result (λ a. Chain-end g.met.R.Eq.laws c.chain.invariant _ _ c.args.value c.in_default.ensures.pairs.0 a node done e lead) c.attach_leaf.ensures.added

pub returns-clause-first : goal.returns-clause-first
returns-clause-first g c = Chain-sure g.met.R.Eq.laws c.chain.invariant c.attach_leaf.result c.attach_leaf.ensures.first

pub returns-clause-err : goal.returns-clause-err
returns-clause-err g c = Chain-unchanged g.met.R.Eq.laws c.chain.invariant c.attach_leaf.result c.attach_leaf.new.inner (c.attach_leaf.new.leaves ≡ c.args.leaves.now) c.attach_leaf.ensures.first c.attach_leaf.ensures.err
