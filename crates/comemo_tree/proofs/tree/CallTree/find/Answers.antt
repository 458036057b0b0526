use Rattle.std.proofs.Common.{arith, ◌≡◌, ◌∙◌, [], ◌∷◌, ◌++◌, sym, ap, refl, None, inl, inr, subst, List, not, is_ok, true}
use mathlib.Core.Bool.{true≢false}
use Rattle.std.specs.Prelude.{option_map}
use Rattle.std.proofs.lemmas.Fn.{FoldsTo-push}
use Rattle.std.proofs.lemmas.List.Elements.{All-push}
use Rattle.comemo_base.specs.Lookup.{under, IsStoredCall}
use Rattle.comemo_tree.specs.Nodes.{contents}
use Rattle.comemo_tree.specs.declared.tree.Start.{Start}
use Rattle.comemo_base.proofs.Paths.{IfErr-refused, FindsAgreeing-from_asked, FindsAgreeingPath-from_asked, Agrees-asked, answers_next}
use Rattle.comemo_tree.proofs.Forest.{no_start, stored_at, at_leaf, refused_at, missed_at, stepped_to, deeper, IsTree-from_forest, leaf_at, inner_at}
use Rattle.comemo_base.specs.Tree.{IsSamePath}
use Rattle.comemo_tree.proofs.Trail.{pairs_of, pairs_of-push, IsSamePath-trail}
use Rattle.comemo_tree.proofs.tree.CallTree.find.Goals as goal

pub returns-in_default-clause-asked : goal.returns-in_default-clause-asked
returns-in_default-clause-asked g c =
    record { asked = []; answered = refl; finds = rw (← c.self.view_is) (no_start g.met.C.Eq.laws g.met.R.Eq.laws g.met.K.Eq.laws c.self.invariant c.args.key.now (ap (option_map (λ (s : Start). s.first)) (sym c.in_default.ensures.value))); path = tt }

pub returns-in_default-clause-agreeing : goal.returns-in_default-clause-agreeing
returns-in_default-clause-agreeing g c = λ m respects computed.
    rw (← c.self.view_is) (FindsAgreeing-from_asked g.met.C.Eq.laws g.met.R.Eq.laws m respects g.met.K.Eq.laws _ c.args.key.now [] None (IsTree-from_forest g.met.C.Eq.laws g.met.R.Eq.laws g.met.K.Eq.laws c.self.invariant) tt (no_start g.met.C.Eq.laws g.met.R.Eq.laws g.met.K.Eq.laws c.self.invariant c.args.key.now (ap (option_map (λ (s : Start). s.first)) (sym c.in_default.ensures.value))))

pub down-init : goal.down-init
down-init g c = record {
  led = ([], [], refl, tt, (c.in-Some.start.now.first, ap (option_map (λ (s : Start). s.first)) (sym c.in-Some.ensures.value), refl), λ k d l. absurd (omega arith), λ _. rw c.new_trail-trail.ensures refl);
}

pub index-requires : goal.index-requires
index-requires g c =
    let i = c.down.invariant.led in
    let lead = rw c.in-Leaf.is at i.4 in
    let f = leaf_at g.met.C.Eq.laws g.met.R.Eq.laws g.met.K.Eq.laws c.self.invariant c.args.key.now i.1 c.in-Leaf.id lead in
    rw f.1 refl

pub index-node-requires : goal.index-node-requires
index-node-requires g c =
    let i = c.down.invariant.led in
    let lead = rw c.in-Inner.is at i.4 in
    let f = inner_at g.met.C.Eq.laws g.met.R.Eq.laws g.met.K.Eq.laws c.self.invariant c.args.key.now i.1 c.in-Inner.id lead in
    rw f.1 refl

pub oracle-requires : goal.oracle-requires
oracle-requires g c =
    let i = c.down.invariant.led in
    let lead = rw c.in-Inner.is at i.4 in
    let node = c.index-node.result.now in
    let callable = rw (← c.self.view_is) at c.requires.callable in
    callable.at i.0 c.down.oracle node.call i.5 i.2 (stored_at g.met.C.Eq.laws g.met.R.Eq.laws g.met.K.Eq.laws c.self.invariant c.args.key.now i.1 c.in-Inner.id node lead c.index-node.ensures) _ refl

pub returns-in_err-answer-in-Inner-clause-refused : goal.returns-in_err-answer-in-Inner-clause-refused
returns-in_err-answer-in-Inner-clause-refused g c =
    let i = c.down.invariant.led in
    let lead = rw c.in-Inner.is at i.4 in
    let node = c.index-node.result.now in
    IfErr-refused c.from_residual-in_err-answer-in-Inner.result _ (inl (record {
      asked = i.0;
      at = c.down.oracle;
      call = node.call;
      answered = i.2;
      called = record { shown = _; shows = refl; called = rw c.in_err-answer-in-Inner.was at c.oracle.ensures };
      refused = rw (← c.self.view_is) (refused_at g.met.C.Eq.laws g.met.R.Eq.laws g.met.K.Eq.laws c.self.invariant c.args.key.now i.0 i.1 c.in-Inner.id node lead c.index-node.ensures i.3);
    }))

pub returns-in_err-answer-in-Inner-clause-answered : goal.returns-in_err-answer-in-Inner-clause-answered
returns-in_err-answer-in-Inner-clause-answered g c = λ at.
    let i = c.down.invariant.led in
    absurd (answers_next g.O.FnMut c.args.oracle.now c.down.oracle c.oracle.new.self i.0 c.index-node.result.now.call _ at i.2 (record { shown = _; shows = refl; called = rw c.in_err-answer-in-Inner.was at c.oracle.ensures }))

pub returns-in_default-get-clause-asked : goal.returns-in_default-get-clause-asked
returns-in_default-get-clause-asked g c =
    let i = c.down.invariant.led in
    let lead = rw c.in-Inner.is at i.4 in
    let node = c.index-node.result.now in
    let answer = c.in_ok-answer-in-Inner.answer in
    record {
      asked = i.0 ++ (node.call, answer) ∷ [];
      answered = FoldsTo-push _ _ i.0 _ (node.call, answer) _ i.2 (record { shown = _; shows = refl; called = rw c.in_ok-answer-in-Inner.was at c.oracle.ensures });
      finds = rw (← c.self.view_is) (missed_at g.met.C.Eq.laws g.met.R.Eq.laws g.met.K.Eq.laws c.self.invariant c.args.key.now i.0 i.1 c.in-Inner.id node answer lead c.index-node.ensures i.3 (sym c.get-in-Inner.ensures ∙ c.in_default-get.is));
      path = tt;
    }

pub returns-in_default-get-clause-agreeing : goal.returns-in_default-get-clause-agreeing
returns-in_default-get-clause-agreeing g c = λ m respects computed.
    let i = c.down.invariant.led in
    let lead = rw c.in-Inner.is at i.4 in
    let node = c.index-node.result.now in
    let answer = c.in_ok-answer-in-Inner.answer in
    let led = FoldsTo-push _ _ i.0 _ (node.call, answer) _ i.2 (record { shown = _; shows = refl; called = rw c.in_ok-answer-in-Inner.was at c.oracle.ensures }) in
    rw (← c.self.view_is) (FindsAgreeing-from_asked g.met.C.Eq.laws g.met.R.Eq.laws m respects g.met.K.Eq.laws _ c.args.key.now (i.0 ++ (node.call, answer) ∷ []) None (IsTree-from_forest g.met.C.Eq.laws g.met.R.Eq.laws g.met.K.Eq.laws c.self.invariant) (Agrees-asked g.O.FnMut g.R.PartialEq.eq m c.args.oracle.now c.oracle.new.self (i.0 ++ (node.call, answer) ∷ []) computed led) (missed_at g.met.C.Eq.laws g.met.R.Eq.laws g.met.K.Eq.laws c.self.invariant c.args.key.now i.0 i.1 c.in-Inner.id node answer lead c.index-node.ensures i.3 (sym c.get-in-Inner.ensures ∙ c.in_default-get.is)))

pub down-smaller : goal.down-smaller
down-smaller g c =
    let i = c.down.invariant.led in
    let lead = rw c.in-Inner.is at i.4 in
    let node = c.index-node.result.now in
    rw c.in-Inner.is (deeper g.met.C.Eq.laws g.met.R.Eq.laws g.met.K.Eq.laws c.self.invariant c.args.key.now i.1 c.in-Inner.id node c.in_ok-answer-in-Inner.answer _ lead c.index-node.ensures (sym c.get-in-Inner.ensures ∙ c.in-Some-get.is))

pub down-preserved : goal.down-preserved
down-preserved g c =
    let i = c.down.invariant.led in
    let lead = rw c.in-Inner.is at i.4 in
    let node = c.index-node.result.now in
    let answer = c.in_ok-answer-in-Inner.answer in
    let s = stepped_to g.met.C.Eq.laws g.met.R.Eq.laws g.met.K.Eq.laws c.self.invariant c.args.key.now i.0 i.1 c.in-Inner.id node answer _ lead c.index-node.ensures i.3 (sym c.get-in-Inner.ensures ∙ c.in-Some-get.is) in
    record {
      led = (i.0 ++ (node.call, answer) ∷ [], s.0, FoldsTo-push _ _ i.0 _ (node.call, answer) _ i.2 (record { shown = _; shows = refl; called = rw c.in_ok-answer-in-Inner.was at c.oracle.ensures }), s.1, s.2, All-push (λ q. IsStoredCall (under g.K.PartialEq.eq (contents c.self.inside.inner c.self.inside.leaves) c.args.key.now) q.0) i.0 (node.call, answer) i.5 (stored_at g.met.C.Eq.laws g.met.R.Eq.laws g.met.K.Eq.laws c.self.invariant c.args.key.now i.1 c.in-Inner.id node lead c.index-node.ensures), λ kept. (let good : is_ok c.push.result ≡ true = c.is_err.ensures.negation ∙ ap not c.if-is_err.false in let items = rw good at c.push.ensures.items in ap pairs_of items ∙ pairs_of-push c.down.trail.items _ ∙ ap (λ (xs : List (_ × _)). xs ++ (node.call, answer) ∷ []) (i.6 kept)));
    }

pub down-smaller-then-is_err : goal.down-smaller-then-is_err
down-smaller-then-is_err g c =
    let i = c.down.invariant.led in
    let lead = rw c.in-Inner.is at i.4 in
    let node = c.index-node.result.now in
    rw c.in-Inner.is (deeper g.met.C.Eq.laws g.met.R.Eq.laws g.met.K.Eq.laws c.self.invariant c.args.key.now i.1 c.in-Inner.id node c.in_ok-answer-in-Inner.answer _ lead c.index-node.ensures (sym c.get-in-Inner.ensures ∙ c.in-Some-get.is))

pub down-preserved-then-is_err : goal.down-preserved-then-is_err
down-preserved-then-is_err g c =
    let i = c.down.invariant.led in
    let lead = rw c.in-Inner.is at i.4 in
    let node = c.index-node.result.now in
    let answer = c.in_ok-answer-in-Inner.answer in
    let s = stepped_to g.met.C.Eq.laws g.met.R.Eq.laws g.met.K.Eq.laws c.self.invariant c.args.key.now i.0 i.1 c.in-Inner.id node answer _ lead c.index-node.ensures i.3 (sym c.get-in-Inner.ensures ∙ c.in-Some-get.is) in
    record {
      led = (i.0 ++ (node.call, answer) ∷ [], s.0, FoldsTo-push _ _ i.0 _ (node.call, answer) _ i.2 (record { shown = _; shows = refl; called = rw c.in_ok-answer-in-Inner.was at c.oracle.ensures }), s.1, s.2, All-push (λ q. IsStoredCall (under g.K.PartialEq.eq (contents c.self.inside.inner c.self.inside.leaves) c.args.key.now) q.0) i.0 (node.call, answer) i.5 (stored_at g.met.C.Eq.laws g.met.R.Eq.laws g.met.K.Eq.laws c.self.invariant c.args.key.now i.1 c.in-Inner.id node lead c.index-node.ensures), λ kept. absurd (true≢false (sym kept ∙ ap not c.if-is_err.true)));
    }

pub returns-then-lost-clause-refused : goal.returns-then-lost-clause-refused
returns-then-lost-clause-refused g c =
    let i = c.down.invariant.led in
    let lead = rw c.in-Leaf.is at i.4 in
    let f = leaf_at g.met.C.Eq.laws g.met.R.Eq.laws g.met.K.Eq.laws c.self.invariant c.args.key.now i.1 c.in-Leaf.id lead in
    inr (f.0.value, record { asked = i.0; answered = i.2; finds = rw (← c.self.view_is) (at_leaf g.met.C.Eq.laws g.met.R.Eq.laws g.met.K.Eq.laws c.self.invariant c.args.key.now i.0 i.1 c.in-Leaf.id f.0 lead f.1 i.3) })

pub returns-then-lost-clause-answered : goal.returns-then-lost-clause-answered
returns-then-lost-clause-answered g c = λ at.
    let i = c.down.invariant.led in
    let lead = rw c.in-Leaf.is at i.4 in
    let f = leaf_at g.met.C.Eq.laws g.met.R.Eq.laws g.met.K.Eq.laws c.self.invariant c.args.key.now i.1 c.in-Leaf.id lead in
    (f.0.value, record { asked = i.0; answered = i.2; finds = rw (← c.self.view_is) (at_leaf g.met.C.Eq.laws g.met.R.Eq.laws g.met.K.Eq.laws c.self.invariant c.args.key.now i.0 i.1 c.in-Leaf.id f.0 lead f.1 i.3) })

pub returns-in_err-path-in-Leaf-clause-refused : goal.returns-in_err-path-in-Leaf-clause-refused
returns-in_err-path-in-Leaf-clause-refused g c =
    let i = c.down.invariant.led in
    let lead = rw c.in-Leaf.is at i.4 in
    let f = leaf_at g.met.C.Eq.laws g.met.R.Eq.laws g.met.K.Eq.laws c.self.invariant c.args.key.now i.1 c.in-Leaf.id lead in
    IfErr-refused c.from_residual.result _ (inr (f.0.value, record { asked = i.0; answered = i.2; finds = rw (← c.self.view_is) (at_leaf g.met.C.Eq.laws g.met.R.Eq.laws g.met.K.Eq.laws c.self.invariant c.args.key.now i.0 i.1 c.in-Leaf.id f.0 lead f.1 i.3) }))

pub returns-in_err-path-in-Leaf-clause-answered : goal.returns-in_err-path-in-Leaf-clause-answered
returns-in_err-path-in-Leaf-clause-answered g c = λ at.
    let i = c.down.invariant.led in
    let lead = rw c.in-Leaf.is at i.4 in
    let f = leaf_at g.met.C.Eq.laws g.met.R.Eq.laws g.met.K.Eq.laws c.self.invariant c.args.key.now i.1 c.in-Leaf.id lead in
    IfErr-refused c.from_residual.result _ (f.0.value, record { asked = i.0; answered = i.2; finds = rw (← c.self.view_is) (at_leaf g.met.C.Eq.laws g.met.R.Eq.laws g.met.K.Eq.laws c.self.invariant c.args.key.now i.0 i.1 c.in-Leaf.id f.0 lead f.1 i.3) })

pub returns-in-Leaf-clause-asked : goal.returns-in-Leaf-clause-asked
returns-in-Leaf-clause-asked g c =
    let i = c.down.invariant.led in
    let lead = rw c.in-Leaf.is at i.4 in
    let whole = i.6 (ap not c.if-lost.false) in
    let own = subst (λ (ps : List (_ × _)). IsSamePath g.C.PartialEq.eq g.R.PartialEq.eq ps c.in_ok-path-in-Leaf.path.items) whole (IsSamePath-trail g.met.R.Eq.laws g.C.Clone.is_clone c.requires.calls_clone c.down.trail.items c.in_ok-path-in-Leaf.path.items c.in_ok-path-in-Leaf.ensures) in
    record { asked = i.0; answered = i.2; finds = rw (← c.self.view_is) (at_leaf g.met.C.Eq.laws g.met.R.Eq.laws g.met.K.Eq.laws c.self.invariant c.args.key.now i.0 i.1 c.in-Leaf.id c.index.result.now lead c.index.ensures i.3); path = own }

pub returns-in-Leaf-clause-agreeing : goal.returns-in-Leaf-clause-agreeing
returns-in-Leaf-clause-agreeing g c = λ m respects computed.
    let i = c.down.invariant.led in
    let lead = rw c.in-Leaf.is at i.4 in
    let whole = i.6 (ap not c.if-lost.false) in
    let own = subst (λ (ps : List (_ × _)). IsSamePath g.C.PartialEq.eq g.R.PartialEq.eq ps c.in_ok-path-in-Leaf.path.items) whole (IsSamePath-trail g.met.R.Eq.laws g.C.Clone.is_clone c.requires.calls_clone c.down.trail.items c.in_ok-path-in-Leaf.path.items c.in_ok-path-in-Leaf.ensures) in
    rw (← c.self.view_is) (FindsAgreeingPath-from_asked g.met.C.Eq.laws g.met.R.Eq.laws m respects (under g.K.PartialEq.eq _ c.args.key.now) i.0 c.in_ok-path-in-Leaf.path.items c.index.result.now.value (Agrees-asked g.O.FnMut g.R.PartialEq.eq m c.args.oracle.now c.down.oracle i.0 computed i.2) (at_leaf g.met.C.Eq.laws g.met.R.Eq.laws g.met.K.Eq.laws c.self.invariant c.args.key.now i.0 i.1 c.in-Leaf.id c.index.result.now lead c.index.ensures i.3) own)
