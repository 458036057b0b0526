use Rattle.std.proofs.Common.{◌∙◌, [], ◌∷◌, ◌++◌, sym, refl, subst}
use Rattle.comemo_base.specs.Sequence.{HasDistinctCalls}
use Rattle.comemo_tree.proofs.Forest.{inner_at, stepped_to, deeper}
use Rattle.comemo_base.proofs.Steps.{outside-nothing}
use Rattle.comemo_tree.proofs.Walks.{Exists-at_leaf, misses, among', left', distinct', forks}
use Rattle.comemo_tree.proofs.tree.walk.Goals as goal

pub walk-init : goal.walk-init
walk-init g c = record {
  led = ([], [], tt, (c.args.first, c.requires.start, refl), tt, sym (outside-nothing g.C.PartialEq.eq c.args.sequence.now.pairs), c.reveal_distinct_calls.ensures.distinct);
}

pub returns-in-Leaf-clause-reason : goal.returns-in-Leaf-clause-reason
returns-in-Leaf-clause-reason g c =
    let i = c.walk.invariant.led in
    let lead = rw c.in-Leaf.is at i.3 in
    Exists-at_leaf g.met.C.Eq.laws g.met.R.Eq.laws g.met.K.Eq.laws c.requires.forest c.args.key.now.value c.args.sequence.now.pairs i.0 i.1 i.2 i.4 _ lead

pub index-node-requires : goal.index-node-requires
index-node-requires g c =
    let i = c.walk.invariant.led in
    let lead = rw c.in-Inner.is at i.3 in
    let f = inner_at g.met.C.Eq.laws g.met.R.Eq.laws g.met.K.Eq.laws c.requires.forest c.args.key.now.value i.1 c.in-Inner.id lead in
    rw f.1 refl

pub returns-in_default-clause-reason : goal.returns-in_default-clause-reason
returns-in_default-clause-reason g c =
    let i = c.walk.invariant.led in
    let lead = rw c.in-Inner.is at i.3 in
    let node = c.index-node.result.now in
    misses g.met.C.Eq.laws g.met.R.Eq.laws g.met.K.Eq.laws c.requires.forest c.args.key.now.value c.args.sequence.now.pairs i.0 i.1 i.2 i.4 c.in-Inner.id node lead c.index-node.ensures c.walk.sequence.pairs i.5 (sym c.in_default.is ∙ c.extract.ensures.answer)

pub returns-in_default-get-clause-forks : goal.returns-in_default-get-clause-forks
returns-in_default-get-clause-forks g c =
    let i = c.walk.invariant.led in
    let lead = rw c.in-Inner.is at i.3 in
    let node = c.index-node.result.now in
    forks g.met.C.Eq.laws g.met.R.Eq.laws g.met.K.Eq.laws c.requires.forest c.args.key.now.value c.args.sequence.now.pairs i.0 i.1 i.2 i.4 c.in-Inner.id node lead c.index-node.ensures c.walk.sequence.pairs i.5 c.in-Some.answer c.in-Some.ensures.answer (sym c.get.ensures ∙ c.in_default-get.is) c.extract.new.self.pairs c.extract.ensures.pairs c.reveal_distinct_calls.ensures.distinct i.6

pub walk-smaller : goal.walk-smaller
walk-smaller g c =
    let i = c.walk.invariant.led in
    let lead = rw c.in-Inner.is at i.3 in
    let node = c.index-node.result.now in
    rw c.in-Inner.is (deeper g.met.C.Eq.laws g.met.R.Eq.laws g.met.K.Eq.laws c.requires.forest c.args.key.now.value i.1 c.in-Inner.id node c.in-Some.answer _ lead c.index-node.ensures (sym c.get.ensures ∙ c.in-Some-get.is))

pub walk-preserved : goal.walk-preserved
walk-preserved g c =
    let i = c.walk.invariant.led in
    let lead = rw c.in-Inner.is at i.3 in
    let node = c.index-node.result.now in
    let answer = c.in-Some.answer in
    let s = stepped_to g.met.C.Eq.laws g.met.R.Eq.laws g.met.K.Eq.laws c.requires.forest c.args.key.now.value i.0 i.1 c.in-Inner.id node answer _ lead c.index-node.ensures i.2 (sym c.get.ensures ∙ c.in-Some-get.is) in
    record {
      led = (
        i.0 ++ (node.call, answer) ∷ [],
        s.0,
        s.1,
        s.2,
        among' g.met.C.Eq.laws g.met.R.Eq.laws g.met.K.Eq.laws c.requires.forest c.args.key.now.value c.args.sequence.now.pairs i.0 i.1 i.2 i.4 c.in-Inner.id node lead c.index-node.ensures c.walk.sequence.pairs i.5 answer c.in-Some.ensures.answer,
        c.extract.ensures.pairs ∙ left' g.met.C.Eq.laws g.met.R.Eq.laws g.met.K.Eq.laws c.requires.forest c.args.key.now.value c.args.sequence.now.pairs i.0 i.1 i.2 i.4 c.in-Inner.id node lead c.index-node.ensures c.walk.sequence.pairs i.5 answer c.in-Some.ensures.answer c.reveal_distinct_calls.ensures.distinct,
        subst (λ xs. HasDistinctCalls g.C.PartialEq.eq ((i.0 ++ (node.call, answer) ∷ []) ++ xs)) (sym c.extract.ensures.pairs) (distinct' g.met.C.Eq.laws g.met.R.Eq.laws g.met.K.Eq.laws c.requires.forest c.args.key.now.value c.args.sequence.now.pairs i.0 i.1 i.2 i.4 c.in-Inner.id node lead c.index-node.ensures c.walk.sequence.pairs i.5 answer c.in-Some.ensures.answer i.6),
      );
    }
