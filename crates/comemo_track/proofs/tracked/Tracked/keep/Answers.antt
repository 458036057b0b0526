use Rattle.std.proofs.Common.{rules, ◌≡◌, Some, false}
use Rattle.std.specs.Prelude.{is_some}
use Rattle.comemo_track.specs.Answered.{known_of}
use Rattle.comemo_track.proofs.Known.{put_true, puts_behind, puts_first}
use Rattle.comemo_track.proofs.tracked.Tracked.keep.Goals as goal

pub invariant_of-self : goal.invariant_of-self
invariant_of-self g c =
    let i = c.self.inside in
    let alike = g.met.T.Call.Call.laws.clones c.args.call.now c.in_ok-key.key c.in_ok-key.ensures.cases in
    let copied = g.met.T.Answer.Answer.clones c.args.answer.now c.in_ok-kept.kept c.in_ok-kept.ensures.cases in
    let right = rw (← c.self.view_is) at c.requires.right in
    let none : is_some i.first ≡ false = search rules in
    let put = puts_first g.T.Call.PartialEq.eq g.met.T.Call.Eq.laws i.first i.table.entries c.in_ok-key.key c.in_ok-kept.kept none in
    put_true g.met.T.Call.Call.laws.same_kind g.met.T.Answer.Eq.laws (g.met.T.Track.alike i.value.now) (known_of i.first i.table.entries) (known_of (Some (c.in_ok-key.key, c.in_ok-kept.kept)) i.table.entries) c.args.call.now c.in_ok-key.key c.args.answer.now c.in_ok-kept.kept c.requires.read right alike copied put c.self.invariant

pub invariant_of-self-2 : goal.invariant_of-self-2
invariant_of-self-2 g c =
    let i = c.self.inside in
    let alike = g.met.T.Call.Call.laws.clones c.args.call.now c.in_ok-key.key c.in_ok-key.ensures.cases in
    let copied = g.met.T.Answer.Answer.clones c.args.answer.now c.in_ok-kept.kept c.in_ok-kept.ensures.cases in
    let right = rw (← c.self.view_is) at c.requires.right in
    let put = puts_behind g.T.Call.PartialEq.eq i.first i.table c.insert.new.self c.in_ok-key.key c.in_ok-kept.kept c.in_ok-insert.ensures.updates in
    put_true g.met.T.Call.Call.laws.same_kind g.met.T.Answer.Eq.laws (g.met.T.Track.alike i.value.now) (known_of i.first i.table.entries) (known_of i.first c.insert.new.self.entries) c.args.call.now c.in_ok-key.key c.args.answer.now c.in_ok-kept.kept c.requires.read right alike copied put c.self.invariant
