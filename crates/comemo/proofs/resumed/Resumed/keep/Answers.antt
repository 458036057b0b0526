use Rattle.std.proofs.Common.{◌≡◌, IsTrue, take}
use Rattle.std.proofs.lemmas.List.Elements.{All-push, All-take}
use Rattle.comemo.proofs.Trails.{answer_copied}
use Rattle.comemo.proofs.resumed.Resumed.keep.Goals as goal

pub invariant_of-self-2 : goal.invariant_of-self-2
invariant_of-self-2 g c =
    let m = g.T.Track.answers c.self.inside.of.now in
    let P = λ (p : _ × _). IsTrue (g.T.Answer.PartialEq.eq (m p.0) p.1) in
    let pairs = c.self.inside.trail.items in
    let is = answer_copied g.met.T.Answer.Eq.laws m (g.met.T.Track.alike c.self.inside.of.now) c.args.call.now c.in_ok-call.call c.args.answer.now c.in_ok-answer.answer (g.met.T.Call.Call.laws.clones _ _ c.in_ok-call.ensures.cases) (g.met.T.Answer.Answer.clones _ _ c.in_ok-answer.ensures.cases) (rw (← c.self.view_is) at c.requires) in
    (rw (c.in_ok-push.ensures.items, c.truncate.ensures.items) (All-push P (take c.args.place pairs) (c.in_ok-call.call, c.in_ok-answer.answer) (All-take P c.args.place pairs c.self.invariant.0) is), c.self.invariant.1)
