use Rattle.std.proofs.Common.{rules, ◌≡◌, ◌<◌, length, [], ◌∷◌, ◌++◌, refl, inl, ap, sym, ◌∙◌, arith}
use Rattle.std.proofs.lemmas.Fn.{FoldsTo-push}
use Rattle.comemo_base.specs.Tree.{Stored, IsPrefix}
use Rattle.comemo_base.proofs.Under.{All-under}
use Rattle.std.proofs.lemmas.List.Elements.{All-push}
use Rattle.comemo_base.specs.Lookup.{under, IsStoredCall}
use Rattle.comemo_base.proofs.Paths.{IfErr-refused, is_stored, found, whole_path, missed, refused, stepped}
use Rattle.comemo_plain.proofs.get_in.Goals as goal

pub returns-in_default-clause-asked : goal.returns-in_default-clause-asked
returns-in_default-clause-asked g c =
    let none = All-under g.K.PartialEq.eq c.args.entries.now c.args.key.now (λ e. ¬ IsPrefix g.C.PartialEq.eq g.R.PartialEq.eq [] e.path) (λ j d m k f. c.in_default.ensures.none j d m k) in
    ([], refl, (none, inl refl), tt)

pub loop-depth-init : goal.loop-depth-init
loop-depth-init g c = record {
  bound = search rules;
  key = search rules;
  deep = λ d. omega arith;
  led = ([], refl, λ d. tt, λ k d l. absurd (omega arith));
}

pub returns-then-depth-path-clause-asked : goal.returns-then-depth-path-clause-asked
returns-then-depth-path-clause-asked g c =
    let i = c.loop-depth.invariant in
    let e = c.index-entries-at.result in
    let own : c.as_slice-path.result.now ≡ e.path = c.as_slice-path.ensures.value ∙ ap (λ (x : Stored _ _ _ _). x.path) c.entry.view_is in
    (i.led.0, i.led.1, found g.met.C.Eq.laws g.met.R.Eq.laws g.met.K.Eq.laws c.args.entries.now c.loop-depth.at c.loop-depth.depth c.args.key.now e i.led.0 _ i.bound c.index-entries-at.is (i.key e) (i.led.2 e) own e.value c.if-depth-path.true refl, whole_path g.met.C.Eq.laws g.met.R.Eq.laws g.met.K.Eq.laws c.args.entries.now c.loop-depth.at c.loop-depth.depth c.args.key.now e i.led.0 _ i.bound c.index-entries-at.is (i.key e) (i.led.2 e) own c.if-depth-path.true)

pub returns-in_err-answer-clause-refused : goal.returns-in_err-answer-clause-refused
returns-in_err-answer-clause-refused g c =
    let i = c.loop-depth.invariant in
    let e = c.index-entries-at.result in
    let p = c.index-path-depth.result in
    let own : c.as_slice-path.result.now ≡ e.path = c.as_slice-path.ensures.value ∙ ap (λ (x : Stored _ _ _ _). x.path) c.entry.view_is in
    IfErr-refused c.from_residual.result _ (record {
      asked = i.led.0;
      at = c.loop-depth.oracle;
      call = p.0;
      answered = i.led.1;
      called = record { shown = _; shows = ap (λ (z : _ × _). z.0) (sym c.index-path-depth.is); called = rw c.in_err-answer.was at c.oracle.ensures };
      refused = refused g.met.C.Eq.laws g.met.R.Eq.laws g.met.K.Eq.laws c.args.entries.now c.loop-depth.at c.loop-depth.depth c.args.key.now e i.led.0 _ i.bound c.index-entries-at.is (i.key e) (i.led.2 e) own p (search rules) c.index-path-depth.is;
    })

pub oracle-requires : goal.oracle-requires
oracle-requires g c =
    let i = c.loop-depth.invariant in
    let e = c.index-entries-at.result in
    let p = c.index-path-depth.result in
    let own : c.as_slice-path.result.now ≡ e.path = c.as_slice-path.ensures.value ∙ ap (λ (x : Stored _ _ _ _). x.path) c.entry.view_is in
    let deep : c.loop-depth.depth < length c.as_slice-path.result.now = omega (arith, i.deep e, ap (λ (x : Stored _ _ _ _). length x.path) c.index-entries-at.is, ap length own, c.if-depth-path.false) in
    let stored = is_stored g.met.C.Eq.laws g.met.R.Eq.laws g.met.K.Eq.laws c.args.entries.now c.loop-depth.at c.loop-depth.depth c.args.key.now e i.led.0 _ i.bound c.index-entries-at.is (i.key e) (i.led.2 e) own p deep c.index-path-depth.is in
    c.requires.callable.at i.led.0 c.loop-depth.oracle p.0 i.led.3 i.led.1 stored _ (ap (λ (z : _ × _). z.0) (sym c.index-path-depth.is))

pub returns-in_default-find_branch-clause-asked : goal.returns-in_default-find_branch-clause-asked
returns-in_default-find_branch-clause-asked g c =
    let i = c.loop-depth.invariant in
    let e = c.index-entries-at.result in
    let p = c.index-path-depth.result in
    let own : c.as_slice-path.result.now ≡ e.path = c.as_slice-path.ensures.value ∙ ap (λ (x : Stored _ _ _ _). x.path) c.entry.view_is in
    (i.led.0 ++ (p.0, c.in_ok-answer.answer) ∷ [], FoldsTo-push _ _ i.led.0 _ (p.0, c.in_ok-answer.answer) _ i.led.1 (record { shown = _; shows = ap (λ (z : _ × _). z.0) (sym c.index-path-depth.is); called = rw c.in_ok-answer.was at c.oracle.ensures }), missed g.met.C.Eq.laws g.met.R.Eq.laws g.met.K.Eq.laws c.args.entries.now c.loop-depth.at c.loop-depth.depth c.args.key.now e i.led.0 _ i.bound c.index-entries-at.is (i.key e) (i.led.2 e) own p (search rules) c.index-path-depth.is c.in_ok-answer.answer c.in_default-find_branch.ensures.none, tt)

pub loop-depth-preserved : goal.loop-depth-preserved
loop-depth-preserved g c =
    let i = c.loop-depth.invariant in
    let e = c.index-entries-at.result in
    let p = c.index-path-depth.result in
    let own : c.as_slice-path.result.now ≡ e.path = c.as_slice-path.ensures.value ∙ ap (λ (x : Stored _ _ _ _). x.path) c.entry.view_is in
    let some = c.in-Some-find_branch.ensures.some in
    let stored = is_stored g.met.C.Eq.laws g.met.R.Eq.laws g.met.K.Eq.laws c.args.entries.now c.loop-depth.at c.loop-depth.depth c.args.key.now e i.led.0 _ i.bound c.index-entries-at.is (i.key e) (i.led.2 e) own p (search rules) c.index-path-depth.is in
    record {
      bound = search rules;
      key = λ d. (some.1 d).0;
      deep = λ d. omega (arith, (some.1 d).1.0);
      led = (i.led.0 ++ (p.0, c.in_ok-answer.answer) ∷ [], FoldsTo-push _ _ i.led.0 _ (p.0, c.in_ok-answer.answer) _ i.led.1 (record { shown = _; shows = ap (λ (z : _ × _). z.0) (sym c.index-path-depth.is); called = rw c.in_ok-answer.was at c.oracle.ensures }), stepped g.met.C.Eq.laws g.met.R.Eq.laws g.met.K.Eq.laws c.args.entries.now c.loop-depth.at c.loop-depth.depth c.args.key.now e i.led.0 _ i.bound c.index-entries-at.is (i.key e) (i.led.2 e) own p (search rules) c.index-path-depth.is c.in-Some-find_branch.next c.in_ok-answer.answer c.requires.tree some.0 some.1, All-push (λ q. IsStoredCall (under g.K.PartialEq.eq c.args.entries.now c.args.key.now) q.0) i.led.0 (p.0, c.in_ok-answer.answer) i.led.3 stored);
    }
