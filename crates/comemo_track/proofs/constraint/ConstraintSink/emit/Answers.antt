use Rattle.std.proofs.Common.{is_none, ap, sym, ◌∙◌}
use Rattle.comemo_track.proofs.Recordings.{IsRecording-read}
use Rattle.comemo_track.proofs.constraint.ConstraintSink.emit.Goals as goal

pub invariant_of-self : goal.invariant_of-self
invariant_of-self g c =
    IsRecording-read g.met.C.Eq.laws g.C.Call.is_write c.self.inside.reads c.self.invariant c.insert.new.self c.args.call c.in-Some.answer c.insert.result (sym c.requires.answered ∙ ap is_none c.in-Some.is) c.insert.ensures.pairs c.insert.ensures.seen c.insert.ensures.held c.insert.ensures.err

pub invariant_of-self-in-Some : goal.invariant_of-self-in-Some
invariant_of-self-in-Some g c =
    IsRecording-read g.met.C.Eq.laws g.C.Call.is_write c.self.inside.reads c.self.invariant c.insert.new.self c.args.call c.in-Some.answer c.insert.result (sym c.requires.answered ∙ ap is_none c.in-Some.is) c.insert.ensures.pairs c.insert.ensures.seen c.insert.ensures.held c.insert.ensures.err
