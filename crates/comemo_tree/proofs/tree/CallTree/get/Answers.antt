use Rattle.std.proofs.Common.{◌∙◌, [], ◌∷◌, ◌++◌, sym, ap, refl, Some, None, arith}
use Rattle.std.specs.Prelude.{option_map}
use Rattle.std.proofs.lemmas.Fn.{FoldsTo-push}
use Rattle.std.proofs.lemmas.List.Elements.{All-push}
use Rattle.comemo_base.specs.Lookup.{under, IsStoredCall}
use Rattle.comemo_tree.specs.Nodes.{contents}
use Rattle.comemo_tree.specs.declared.tree.Start.{Start}
use Rattle.comemo_base.proofs.Paths.{IfErr-refused, FindsAgreeing-from_asked, Agrees-asked, answers_next}
use Rattle.comemo_tree.proofs.Forest.{no_start, stored_at, at_leaf, refused_at, missed_at, stepped_to, deeper, IsTree-from_forest, leaf_at, inner_at}
use Rattle.comemo_tree.proofs.tree.CallTree.get.Goals as goal

pub returns-in_default-clause-asked : goal.returns-in_default-clause-asked
returns-in_default-clause-asked g c =
    record { asked = []; answered = refl; finds = rw (← c.self.view_is) (no_start g.met.C.Eq.laws g.met.R.Eq.laws g.met.K.Eq.laws c.self.invariant c.args.key.now (ap (option_map (λ (s : Start). s.first)) (sym c.in_default.ensures.value))) }

pub returns-in_default-clause-agreeing : goal.returns-in_default-clause-agreeing
returns-in_default-clause-agreeing g c = λ m respects computed.
    rw (← c.self.view_is) (FindsAgreeing-from_asked g.met.C.Eq.laws g.met.R.Eq.laws m respects g.met.K.Eq.laws _ c.args.key.now [] None (IsTree-from_forest g.met.C.Eq.laws g.met.R.Eq.laws g.met.K.Eq.laws c.self.invariant) tt (no_start g.met.C.Eq.laws g.met.R.Eq.laws g.met.K.Eq.laws c.self.invariant c.args.key.now (ap (option_map (λ (s : Start). s.first)) (sym c.in_default.ensures.value))))

pub down-init : goal.down-init
down-init g c = record {
  led = ([], [], refl, tt, (c.in-Some.start.now.first, ap (option_map (λ (s : Start). s.first)) (sym c.in-Some.ensures.value), refl), λ k d l. absurd (omega arith));
}

pub index-requires : goal.index-requires
index-requires g c =
    let i = c.down.invariant.led in
    let lead = rw c.in-Leaf.is at i.4 in
    let f = leaf_at g.met.C.Eq.laws g.met.R.Eq.laws g.met.K.Eq.laws c.self.invariant c.args.key.now i.1 c.in-Leaf.id lead in
    rw f.1 refl

pub returns-in-Leaf-clause-asked : goal.returns-in-Leaf-clause-asked
returns-in-Leaf-clause-asked g c =
    let i = c.down.invariant.led in
    let lead = rw c.in-Leaf.is at i.4 in
    record { asked = i.0; answered = i.2; finds = rw (← c.self.view_is) (at_leaf g.met.C.Eq.laws g.met.R.Eq.laws g.met.K.Eq.laws c.self.invariant c.args.key.now i.0 i.1 c.in-Leaf.id c.index.result.now lead c.index.ensures i.3) }

pub returns-in-Leaf-clause-agreeing : goal.returns-in-Leaf-clause-agreeing
returns-in-Leaf-clause-agreeing g c = λ m respects computed.
    let i = c.down.invariant.led in
    let lead = rw c.in-Leaf.is at i.4 in
    rw (← c.self.view_is) (FindsAgreeing-from_asked g.met.C.Eq.laws g.met.R.Eq.laws m respects g.met.K.Eq.laws _ c.args.key.now i.0 (Some c.index.result.now.value) (IsTree-from_forest g.met.C.Eq.laws g.met.R.Eq.laws g.met.K.Eq.laws c.self.invariant) (Agrees-asked g.O.FnMut g.R.PartialEq.eq m c.args.oracle.now c.down.oracle i.0 computed i.2) (at_leaf g.met.C.Eq.laws g.met.R.Eq.laws g.met.K.Eq.laws c.self.invariant c.args.key.now i.0 i.1 c.in-Leaf.id c.index.result.now lead c.index.ensures i.3))

pub index-node-requires : goal.index-node-requires
index-node-requires g c =
    let i = c.down.invariant.led in
    let lead = rw c.in-Inner.is at i.4 in
    let f = inner_at g.met.C.Eq.laws g.met.R.Eq.laws g.met.K.Eq.laws c.self.invariant c.args.key.now i.1 c.in-Inner.id lead in
    rw f.1 refl

pub oracle-requires : goal.oracle-requires
oracle-requires g c =
    let i = c.down.invariant.led in
    let lead = rw c.in-Inner.is at i.4 in
    let node = c.index-node.result.now in
    let callable = rw (← c.self.view_is) at c.requires in
    callable.at i.0 c.down.oracle node.call i.5 i.2 (stored_at g.met.C.Eq.laws g.met.R.Eq.laws g.met.K.Eq.laws c.self.invariant c.args.key.now i.1 c.in-Inner.id node lead c.index-node.ensures) _ refl

pub returns-in_err-answer-in-Inner-clause-refused : goal.returns-in_err-answer-in-Inner-clause-refused
returns-in_err-answer-in-Inner-clause-refused g c =
    let i = c.down.invariant.led in
    let lead = rw c.in-Inner.is at i.4 in
    let node = c.index-node.result.now in
    IfErr-refused c.from_residual.result _ (record {
      asked = i.0;
      at = c.down.oracle;
      call = node.call;
      answered = i.2;
      called = record { shown = _; shows = refl; called = rw c.in_err-answer-in-Inner.was at c.oracle.ensures };
      refused = rw (← c.self.view_is) (refused_at g.met.C.Eq.laws g.met.R.Eq.laws g.met.K.Eq.laws c.self.invariant c.args.key.now i.0 i.1 c.in-Inner.id node lead c.index-node.ensures i.3);
    })

pub returns-in_err-answer-in-Inner-clause-answered : goal.returns-in_err-answer-in-Inner-clause-answered
returns-in_err-answer-in-Inner-clause-answered g c = λ at.
    let i = c.down.invariant.led in
    absurd (answers_next g.O.FnMut c.args.oracle.now c.down.oracle c.oracle.new.self i.0 c.index-node.result.now.call _ at i.2 (record { shown = _; shows = refl; called = rw c.in_err-answer-in-Inner.was at c.oracle.ensures }))

pub returns-in_default-get-clause-asked : goal.returns-in_default-get-clause-asked
returns-in_default-get-clause-asked g c =
    let i = c.down.invariant.led in
    let lead = rw c.in-Inner.is at i.4 in
    let node = c.index-node.result.now in
    let answer = c.in_ok-answer-in-Inner.answer in
    record {
      asked = i.0 ++ (node.call, answer) ∷ [];
      answered = FoldsTo-push _ _ i.0 _ (node.call, answer) _ i.2 (record { shown = _; shows = refl; called = rw c.in_ok-answer-in-Inner.was at c.oracle.ensures });
      finds = rw (← c.self.view_is) (missed_at g.met.C.Eq.laws g.met.R.Eq.laws g.met.K.Eq.laws c.self.invariant c.args.key.now i.0 i.1 c.in-Inner.id node answer lead c.index-node.ensures i.3 (sym c.get-in-Inner.ensures ∙ c.in_default-get.is));
    }

pub returns-in_default-get-clause-agreeing : goal.returns-in_default-get-clause-agreeing
returns-in_default-get-clause-agreeing g c = λ m respects computed.
    let i = c.down.invariant.led in
    let lead = rw c.in-Inner.is at i.4 in
    let node = c.index-node.result.now in
    let answer = c.in_ok-answer-in-Inner.answer in
    let led = FoldsTo-push _ _ i.0 _ (node.call, answer) _ i.2 (record { shown = _; shows = refl; called = rw c.in_ok-answer-in-Inner.was at c.oracle.ensures }) in
    rw (← c.self.view_is) (FindsAgreeing-from_asked g.met.C.Eq.laws g.met.R.Eq.laws m respects g.met.K.Eq.laws _ c.args.key.now (i.0 ++ (node.call, answer) ∷ []) None (IsTree-from_forest g.met.C.Eq.laws g.met.R.Eq.laws g.met.K.Eq.laws c.self.invariant) (Agrees-asked g.O.FnMut g.R.PartialEq.eq m c.args.oracle.now c.oracle.new.self (i.0 ++ (node.call, answer) ∷ []) computed led) (missed_at g.met.C.Eq.laws g.met.R.Eq.laws g.met.K.Eq.laws c.self.invariant c.args.key.now i.0 i.1 c.in-Inner.id node answer lead c.index-node.ensures i.3 (sym c.get-in-Inner.ensures ∙ c.in_default-get.is)))

pub down-smaller : goal.down-smaller
down-smaller g c =
    let i = c.down.invariant.led in
    let lead = rw c.in-Inner.is at i.4 in
    let node = c.index-node.result.now in
    rw c.in-Inner.is (deeper g.met.C.Eq.laws g.met.R.Eq.laws g.met.K.Eq.laws c.self.invariant c.args.key.now i.1 c.in-Inner.id node c.in_ok-answer-in-Inner.answer _ lead c.index-node.ensures (sym c.get-in-Inner.ensures ∙ c.in-Some-get.is))

pub down-preserved : goal.down-preserved
down-preserved g c =
    let i = c.down.invariant.led in
    let lead = rw c.in-Inner.is at i.4 in
    let node = c.index-node.result.now in
    let answer = c.in_ok-answer-in-Inner.answer in
    let s = stepped_to g.met.C.Eq.laws g.met.R.Eq.laws g.met.K.Eq.laws c.self.invariant c.args.key.now i.0 i.1 c.in-Inner.id node answer _ lead c.index-node.ensures i.3 (sym c.get-in-Inner.ensures ∙ c.in-Some-get.is) in
    record {
      led = (i.0 ++ (node.call, answer) ∷ [], s.0, FoldsTo-push _ _ i.0 _ (node.call, answer) _ i.2 (record { shown = _; shows = refl; called = rw c.in_ok-answer-in-Inner.was at c.oracle.ensures }), s.1, s.2, All-push (λ q. IsStoredCall (under g.K.PartialEq.eq (contents c.self.inside.inner c.self.inside.leaves) c.args.key.now) q.0) i.0 (node.call, answer) i.5 (stored_at g.met.C.Eq.laws g.met.R.Eq.laws g.met.K.Eq.laws c.self.invariant c.args.key.now i.1 c.in-Inner.id node lead c.index-node.ensures));
    }
