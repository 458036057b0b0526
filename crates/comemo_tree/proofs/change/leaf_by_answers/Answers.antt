use Rattle.std.proofs.Common.{[], ◌++◌, ◌∷◌, List, take, drop, ◌+◌, ◌∙◌, ap, sym, refl, subst}
use Rattle.std.specs.Prelude.{option_map}
use Rattle.std.specs.List.{All}
use Rattle.comemo_base.specs.Lookup.{under}
use Rattle.comemo_tree.specs.Change.{HasAnswers}
use Rattle.comemo_tree.specs.Nodes.{contents}
use Rattle.comemo_tree.specs.declared.tree.Start.{Start}
use Rattle.std.proofs.lemmas.List.{take_all, take_more, append-nil}
use Rattle.comemo_tree.proofs.Forest.{inner_at}
use Rattle.comemo_tree.proofs.Reached.{none_without_start, none_past_leaf, none_past_inner, none_ends_inner, next_reached, split_at}
use Rattle.comemo_tree.proofs.change.leaf_by_answers.Goals as goal

pub returns-in_default-clause-absent : goal.returns-in_default-clause-absent
returns-in_default-clause-absent g c =
    none_without_start g.met.C.Eq.laws g.met.R.Eq.laws g.met.K.Eq.laws c.requires c.args.key.now c.args.answers.now (ap (option_map (λ (s : Start). s.first)) (sym c.in_default.ensures.value))

pub down-init : goal.down-init
down-init g c = record {
  led = ([], (c.in-Some.start.now.first, ap (option_map (λ (s : Start). s.first)) (sym c.in-Some.ensures.value), refl), tt);
}

pub returns-in_default-at-clause-absent : goal.returns-in_default-at-clause-absent
returns-in_default-at-clause-absent g c =
    let i = c.down.invariant.led in
    let lead = rw c.in_default-at.is at i.1 in
    let given = take c.down.answer-index c.args.answers.now in
    let left = drop (c.down.answer-index + 1) c.args.answers.now in
    subst (λ (rs : List _). All (λ e. ¬ HasAnswers g.R.PartialEq.eq e.path rs) (under g.K.PartialEq.eq (contents c.args.inner.now c.args.leaves.now) c.args.key.now)) (split_at c.args.answers.now c.down.answer-index c.answer-item.result c.down-test.true c.answer-item.is) (none_past_leaf g.met.C.Eq.laws g.met.R.Eq.laws g.met.K.Eq.laws c.requires c.args.key.now i.0 c.in_default-at.field-0 given c.answer-item.result left lead i.2)

pub index-requires : goal.index-requires
index-requires g c =
    let i = c.down.invariant.led in
    let lead = rw c.in-Inner.is at i.1 in
    let f = inner_at g.met.C.Eq.laws g.met.R.Eq.laws g.met.K.Eq.laws c.requires c.args.key.now i.0 c.in-Inner.id lead in
    rw f.1 refl

pub returns-in_default-get-clause-absent : goal.returns-in_default-get-clause-absent
returns-in_default-get-clause-absent g c =
    let i = c.down.invariant.led in
    let lead = rw c.in-Inner.is at i.1 in
    let given = take c.down.answer-index c.args.answers.now in
    let left = drop (c.down.answer-index + 1) c.args.answers.now in
    subst (λ (rs : List _). All (λ e. ¬ HasAnswers g.R.PartialEq.eq e.path rs) (under g.K.PartialEq.eq (contents c.args.inner.now c.args.leaves.now) c.args.key.now)) (split_at c.args.answers.now c.down.answer-index c.answer-item.result c.down-test.true c.answer-item.is) (none_past_inner g.met.C.Eq.laws g.met.R.Eq.laws g.met.K.Eq.laws c.requires c.args.key.now i.0 c.in-Inner.id c.index.result.now given c.answer-item.result left lead c.index.ensures i.2 (sym c.get-in-down.ensures ∙ c.in_default-get.is))

pub down-preserved : goal.down-preserved
down-preserved g c =
    let i = c.down.invariant.led in
    let lead = rw c.in-Inner.is at i.1 in
    let given = take c.down.answer-index c.args.answers.now in
    let r = next_reached g.met.C.Eq.laws g.met.R.Eq.laws g.met.K.Eq.laws c.requires c.args.key.now i.0 c.in-Inner.id c.index.result.now given c.answer-item.result _ lead c.index.ensures i.2 (sym c.get-in-down.ensures ∙ c.in-Some-get.is) in
    record {
      led = (r.0, r.1, subst (HasAnswers g.R.PartialEq.eq r.0) (ap (λ x. given ++ x ∷ []) c.answer-item.is ∙ sym (take_more c.args.answers.now c.down.answer-index c.answer-item.result c.down-test.true)) r.2);
    }

pub returns-in-Leaf-clause-found : goal.returns-in-Leaf-clause-found
returns-in-Leaf-clause-found g c =
    let i = c.down.invariant.led in
    let lead = rw c.in-Leaf.is at i.1 in
    (i.0, lead, subst (HasAnswers g.R.PartialEq.eq i.0) (take_all c.down.answer-index c.args.answers.now c.down-test.false) i.2)

pub returns-in-Inner-at-clause-absent : goal.returns-in-Inner-at-clause-absent
returns-in-Inner-at-clause-absent g c =
    let i = c.down.invariant.led in
    let lead = rw c.in-Inner-at.is at i.1 in
    let given = take c.down.answer-index c.args.answers.now in
    subst (λ (rs : List _). All (λ e. ¬ HasAnswers g.R.PartialEq.eq e.path rs) (under g.K.PartialEq.eq (contents c.args.inner.now c.args.leaves.now) c.args.key.now)) (append-nil given ∙ take_all c.down.answer-index c.args.answers.now c.down-test.false) (none_ends_inner g.met.C.Eq.laws g.met.R.Eq.laws g.met.K.Eq.laws c.requires c.args.key.now i.0 c.in-Inner-at.field-0 given lead i.2)
