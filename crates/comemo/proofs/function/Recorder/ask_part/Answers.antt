use Rattle.std.proofs.Common.{refl}
use Rattle.comemo.proofs.Recorders.{tells_answer}
use Rattle.comemo.proofs.ThroughMaps.{asks_whole, part_asked_keeps, part_tells}
use Rattle.comemo.proofs.function.Recorder.ask_part.Goals as goal

pub invariant_of-self-2 : goal.invariant_of-self-2
invariant_of-self-2 g c =
    let i = c.self.inside in
    part_asked_keeps g.A.Call.PartialEq.eq g.A.Answer.PartialEq.eq g.T.Call.PartialEq.eq g.T.Answer.PartialEq.eq (g.P.CallMap.maps c.args.part) (g.P.CallMap.maps_answer c.args.part) (g.met.P.CallMap.apart c.args.part) (g.met.P.CallMap.answers_apart c.args.part) g.T.Call.Call.touches g.met.T.Call.Eq.laws g.met.T.Answer.Eq.laws (g.T.Track.answers i.view) (g.met.T.Track.alike i.view) (g.A.Track.answers (g.P.Part.part c.args.part i.view)) (g.met.P.Part.agrees c.args.part i.view) i.recording c.ask_through.new.sink c.self.invariant c.args.call c.ask_through.result (rw c.part-view.ensures at c.ask_through.ensures.ok) c.ask_through.ensures.err

pub returns-clause-tells : goal.returns-clause-tells
returns-clause-tells g c =
    let i = c.self.inside in
    rw (← c.self.view_is) (part_tells g.A.Call.PartialEq.eq g.A.Answer.PartialEq.eq g.T.Call.PartialEq.eq g.T.Answer.PartialEq.eq (g.P.CallMap.maps c.args.part) (g.P.CallMap.maps_answer c.args.part) (g.met.P.CallMap.apart c.args.part) (g.met.P.CallMap.answers_apart c.args.part) c.args.call c.in_ok-ask_through.field-0 (tells_answer refl g.met.T.Call.Eq.laws g.met.T.Answer.Eq.laws (g.T.Track.answers i.view) (g.met.T.Track.alike i.view) c.self.invariant.agrees (g.P.CallMap.maps c.args.part c.args.call) (g.P.CallMap.maps_answer c.args.part c.in_ok-ask_through.field-0) (asks_whole g.A.Call.PartialEq.eq g.A.Answer.PartialEq.eq g.T.Call.PartialEq.eq g.T.Answer.PartialEq.eq (g.P.CallMap.maps c.args.part) (g.P.CallMap.maps_answer c.args.part) (g.met.P.CallMap.apart c.args.part) (g.met.P.CallMap.answers_apart c.args.part) (g.T.Track.answers i.view) (g.A.Track.answers (g.P.Part.part c.args.part i.view)) (g.met.P.Part.agrees c.args.part i.view) c.args.call c.in_ok-ask_through.field-0 (rw c.part-view.ensures at c.in_ok-ask_through.ensures.ok))))
