use Rattle.std.proofs.Common.{rules, ◌≡◌, ◌∙◌, [], IsTrue, false, refl, sym, subst}
use Rattle.std.specs.List.{All}
use Rattle.comemo_base.proofs.Asked.{CanBeAsked-calls}
use Rattle.comemo_base.proofs.Keeps.{find_keeps}
use Rattle.comemo_base.proofs.Paths.{joined}
use Rattle.comemo_base.proofs.Under.{All-under}
use Rattle.comemo_cache.proofs.Looking.{finds, asks, refuses}
use Rattle.comemo_cache.proofs.cache.find_agreeing.Goals as goal

pub find-requires-clause-callable : goal.find-requires-clause-callable
find-requires-clause-callable g c =
    CanBeAsked-calls _ _ (λ call. g.In.Call.Call.is_write call ≡ false) (λ f call reads y is. search (rules, reads, is)) (All-under g.K.PartialEq.eq c.args.tree.now c.args.key.now (λ e. All (λ p. g.In.Call.Call.is_write p.0 ≡ false) e.path) (λ k d l _. c.requires.reads k d l)) _

pub returns-clause-same : goal.returns-clause-same
returns-clause-same g c =
    let did = g.In.Input.did in
    let kept = find_keeps _ (λ f f'. (f'.0.ghost_name ≡ f.0.ghost_name) × did f.0.now f'.0.now []) (λ f. (refl, g.met.In.Input.starts f.0.now)) (λ f f' f'' h k. (k.0 ∙ h.0, g.met.In.Input.joins f.0.now f'.0.now f''.0.now [] [] h.1 k.1)) (λ f f' x r k. let called = k.called in (search rules, search rules)) _ _ _ _ _ _ c.find.result c.find.ensures.asked c.find.ensures.refused in
    let name = sym kept.0 in
    search (rules, kept.1)

pub returns-clause-found : goal.returns-clause-found
returns-clause-found g c =
    let s = c.args.input.now in
    let did = g.In.Input.did in
    let m = g.In.Input.answers s in
    finds _ g.met.In.Call.Eq.laws g.met.In.Answer.Eq.laws g.In.Call.Call.is_write g.met.In.Call.Call.laws.same_kind m (g.met.In.Input.alike s) (λ f. did s f.0.now []) (λ f f' call r i reads k.
    let called = k.called in
    let own : IsTrue (g.In.Answer.PartialEq.eq (g.In.Input.answers f.0.now k.shown.now) r) = search rules in
    let next : did f.0.now f'.0.now [] = search rules in
    (joined g.met.In.Answer.Eq.laws (m call) (g.In.Input.answers f.0.now call) r (g.met.In.Input.keeps s f.0.now [] i call reads refl) (subst (λ x. IsTrue (g.In.Answer.PartialEq.eq (g.In.Input.answers f.0.now x) r)) k.shows own), g.met.In.Input.joins s f.0.now f'.0.now [] [] i next))
    g.met.K.Eq.laws c.args.tree.now c.args.key.now (All-under g.K.PartialEq.eq c.args.tree.now c.args.key.now (λ e. All (λ p. g.In.Call.Call.is_write p.0 ≡ false) e.path) (λ k d l _. c.requires.reads k d l)) c.reveal_tree.ensures _ _ (g.met.In.Input.starts s) _ c.find.result c.find.ensures.asked

pub returns-clause-asked : goal.returns-clause-asked
returns-clause-asked g c =
    let s = c.args.input.now in
    let did = g.In.Input.did in
    let m = g.In.Input.answers s in
    asks _ g.met.In.Call.Eq.laws g.met.In.Answer.Eq.laws g.In.Call.Call.is_write g.met.In.Call.Call.laws.same_kind m (g.met.In.Input.alike s) (λ f. did s f.0.now []) (λ f f' call r i reads k.
    let called = k.called in
    let own : IsTrue (g.In.Answer.PartialEq.eq (g.In.Input.answers f.0.now k.shown.now) r) = search rules in
    let next : did f.0.now f'.0.now [] = search rules in
    (joined g.met.In.Answer.Eq.laws (m call) (g.In.Input.answers f.0.now call) r (g.met.In.Input.keeps s f.0.now [] i call reads refl) (subst (λ x. IsTrue (g.In.Answer.PartialEq.eq (g.In.Input.answers f.0.now x) r)) k.shows own), g.met.In.Input.joins s f.0.now f'.0.now [] [] i next))
    g.met.K.Eq.laws c.args.tree.now c.args.key.now (All-under g.K.PartialEq.eq c.args.tree.now c.args.key.now (λ e. All (λ p. g.In.Call.Call.is_write p.0 ≡ false) e.path) (λ k d l _. c.requires.reads k d l)) c.reveal_tree.ensures _ _ (g.met.In.Input.starts s) _ c.find.result c.find.ensures.asked

pub returns-clause-err : goal.returns-clause-err
returns-clause-err g c =
    let s = c.args.input.now in
    let did = g.In.Input.did in
    let m = g.In.Input.answers s in
    refuses _ g.met.In.Call.Eq.laws g.met.In.Answer.Eq.laws g.In.Call.Call.is_write g.met.In.Call.Call.laws.same_kind m (g.met.In.Input.alike s) (λ f. did s f.0.now []) (λ f f' call r i reads k.
    let called = k.called in
    let own : IsTrue (g.In.Answer.PartialEq.eq (g.In.Input.answers f.0.now k.shown.now) r) = search rules in
    let next : did f.0.now f'.0.now [] = search rules in
    (joined g.met.In.Answer.Eq.laws (m call) (g.In.Input.answers f.0.now call) r (g.met.In.Input.keeps s f.0.now [] i call reads refl) (subst (λ x. IsTrue (g.In.Answer.PartialEq.eq (g.In.Input.answers f.0.now x) r)) k.shows own), g.met.In.Input.joins s f.0.now f'.0.now [] [] i next))
    g.met.K.Eq.laws c.args.tree.now c.args.key.now (All-under g.K.PartialEq.eq c.args.tree.now c.args.key.now (λ e. All (λ p. g.In.Call.Call.is_write p.0 ≡ false) e.path) (λ k d l _. c.requires.reads k d l)) c.reveal_tree.ensures _ _ (g.met.In.Input.starts s) c.find.result c.find.ensures.refused
