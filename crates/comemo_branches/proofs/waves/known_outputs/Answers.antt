use Rattle.std.proofs.Common.{◌∙◌, IsTrue, ap, is_some, subst, sym, take}
use Rattle.std.proofs.lemmas.List.{take_more}
use Rattle.std.proofs.lemmas.List.Elements.{All-more}
use Rattle.std.proofs.lemmas.Slice.Zip.{all_zipped_more}
use Rattle.comemo.specs.Sequence.{held}
use Rattle.comemo_branches.proofs.waves.known_outputs.Goals as goal

pub loop-key-preserved : goal.loop-key-preserved
loop-key-preserved g c =
    let keys = c.args.keys.now in
    let i = c.loop-key.key-index in
    let key = c.key-item.result in
    let right = g.met.Q.Output.Eq.laws.congr _ _ _ c.in-Some.ensures.right ∙ g.met.Q.Output.Answer.clones _ _ c.in_ok-clone-in-Some.ensures.cases in
    let IsRight = λ (k : _) (o : _). IsTrue (g.Q.Output.PartialEq.eq (g.Q.Query.gives k (g.T.Track.answers c.args.round.now.value)) o) in
    let IsKnown = λ (k : _). IsTrue (held g.Q.At.PartialEq.eq c.args.round.now.known k) in
    let known = ap is_some (sym c.in-Some.ensures.known) in
    (rw (take_more keys i key c.loop-key-test.true, ← c.key-item.is, c.in_ok-keep-in-Some.ensures) (all_zipped_more IsRight (take i keys) c.loop-key.outputs.items key c.in_ok-clone-in-Some.field-0 c.loop-key.invariant.0 right), All-more IsKnown keys i key c.loop-key-test.true c.loop-key.invariant.1 (subst IsKnown c.key-item.is known))
