use Rattle.std.proofs.Common.{◌++◌, ◌||◌, refl, sym, ap, ◌∙◌}
use Rattle.comemo_track.specs.Writing.{touched}
use Rattle.comemo_track.proofs.Absorbing.{pairs-absorbed, IsRecording-absorbed}
use Rattle.comemo_track.proofs.Recordings.{took_none}
use Rattle.comemo_track.proofs.Sendings.{on_err}
use Rattle.comemo_track.proofs.constraint.Constraint.absorb_parts.Goals as goal
use Rattle.comemo_track.proofs.constraint.Constraint.absorb_parts.Goals.{then-self, else-self}

pub returns-in_err-reserve-clause-err : goal.returns-in_err-reserve-clause-err
returns-in_err-reserve-clause-err g c = rw (← c.self.view_is) (on_err c.from_residual.result (took_none g.C.PartialEq.eq g.C.Call.touches _ _ refl c.reserve.ensures.items refl refl))

pub invariant_of-self-2 : goal.invariant_of-self-2
invariant_of-self-2 g c =
    IsRecording-absorbed g.met.C.Eq.laws g.C.Call.is_write c.self.inside.reads c.args.reads c.absorb.new.self c.self.invariant c.args.writes.items c.append.new.self.items c.requires.reads c.requires.writes c.in_ok-absorb.ensures.pairs c.in_ok-absorb.ensures.seen (c.in-Ok.ensures.items ∙ ap (λ x. x ++ c.args.writes.items) c.reserve.ensures.items)

pub returns-clause-ok : goal.returns-clause-ok
returns-clause-ok g c =
    rw (← c.self.view_is) (record {
      pairs = pairs-absorbed g.met.C.Eq.laws g.C.Call.is_write c.self.inside.reads c.args.reads c.absorb.new.self c.self.invariant c.reveal_distinct_calls.ensures.distinct c.in_ok-absorb.ensures.pairs;
      writes = c.in-Ok.ensures.items ∙ ap (λ x. x ++ c.args.writes.items) c.reserve.ensures.items;
      complete = refl;
      late =
          elim c.if-self.branch [
            | then-self w ↦ w.late-is ∙ w.if-self.true ∙ sym (ap (λ b. b || touched g.C.Call.touches c.self.inside.writes.items c.args.reads.pairs) w.if-self.true)
            | else-self w ↦ w.late-is ∙ w.touch_some-late.ensures ∙ sym (ap (λ b. b || touched g.C.Call.touches c.self.inside.writes.items c.args.reads.pairs) w.if-self.false)
          ];
    })
