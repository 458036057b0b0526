use Rattle.std.proofs.Common.{◌∙◌, refl}
use Rattle.comemo.proofs.RecordersMut.{asked_begun, refused_begun, tells_answer_mut, tells_refused}
use Rattle.comemo.proofs.ThroughMaps.{asks_whole, part_tells_mut}
use Rattle.comemo.proofs.function_mut.RecorderMut.ask_part.Goals as goal

pub returns-clause-agrees : goal.returns-clause-agrees
returns-clause-agrees g c = asked_begun g.T.Track.wrote g.T.Call.Call.is_write g.T.Call.Call.touches g.T.Answer.PartialEq.eq g.T.Track.answers g.met.T.Call.Eq.laws g.met.T.Answer.Eq.laws g.met.T.Track.alike refl refl c.requires.agrees refl (g.P.CallMap.maps c.args.part c.args.call) (g.met.P.CallMap.same_kind c.args.part c.args.call ∙ c.requires.read) (g.P.CallMap.maps_answer c.args.part c.in_ok-ask_through.field-0) (asks_whole g.A.Call.PartialEq.eq g.A.Answer.PartialEq.eq g.T.Call.PartialEq.eq g.T.Answer.PartialEq.eq (g.P.CallMap.maps c.args.part) (g.P.CallMap.maps_answer c.args.part) (g.met.P.CallMap.apart c.args.part) (g.met.P.CallMap.answers_apart c.args.part) (g.T.Track.answers c.args.self.now.value.now) (g.A.Track.answers (g.P.Part.part c.args.part c.args.self.now.value.now)) (g.met.P.Part.agrees c.args.part c.args.self.now.value.now) c.args.call c.in_ok-ask_through.field-0 (rw c.view-view.ensures at c.in_ok-ask_through.ensures.ok))

pub returns-in_err-ask_through-clause-agrees : goal.returns-in_err-ask_through-clause-agrees
returns-in_err-ask_through-clause-agrees g c = refused_begun g.T.Track.wrote g.T.Call.Call.is_write g.T.Call.Call.touches g.T.Answer.PartialEq.eq g.T.Track.answers g.met.T.Call.Eq.laws g.met.T.Answer.Eq.laws g.met.T.Track.alike refl refl c.requires.agrees refl c.in_err-ask_through.ensures.err

pub returns-clause-tells : goal.returns-clause-tells
returns-clause-tells g c = part_tells_mut g.A.Call.PartialEq.eq g.A.Answer.PartialEq.eq g.T.Call.PartialEq.eq g.T.Answer.PartialEq.eq (g.P.CallMap.maps c.args.part) (g.P.CallMap.maps_answer c.args.part) (g.met.P.CallMap.apart c.args.part) (g.met.P.CallMap.answers_apart c.args.part) c.args.call c.in_ok-ask_through.field-0 (tells_answer_mut g.T.Track.wrote g.T.Call.Call.is_write g.T.Call.Call.touches g.T.Answer.PartialEq.eq g.T.Track.answers g.met.T.Call.Eq.laws g.met.T.Answer.Eq.laws g.met.T.Track.alike refl refl c.requires.agrees refl (g.P.CallMap.maps c.args.part c.args.call) (g.met.P.CallMap.same_kind c.args.part c.args.call ∙ c.requires.read) (g.P.CallMap.maps_answer c.args.part c.in_ok-ask_through.field-0) (asks_whole g.A.Call.PartialEq.eq g.A.Answer.PartialEq.eq g.T.Call.PartialEq.eq g.T.Answer.PartialEq.eq (g.P.CallMap.maps c.args.part) (g.P.CallMap.maps_answer c.args.part) (g.met.P.CallMap.apart c.args.part) (g.met.P.CallMap.answers_apart c.args.part) (g.T.Track.answers c.args.self.now.value.now) (g.A.Track.answers (g.P.Part.part c.args.part c.args.self.now.value.now)) (g.met.P.Part.agrees c.args.part c.args.self.now.value.now) c.args.call c.in_ok-ask_through.field-0 (rw c.view-view.ensures at c.in_ok-ask_through.ensures.ok)))

pub returns-in_err-ask_through-clause-tells : goal.returns-in_err-ask_through-clause-tells
returns-in_err-ask_through-clause-tells g c = tells_refused g.T.Track.wrote g.T.Call.Call.is_write g.T.Call.Call.touches g.T.Answer.PartialEq.eq g.T.Track.answers g.met.T.Call.Eq.laws g.met.T.Answer.Eq.laws g.met.T.Track.alike refl refl c.requires.agrees refl c.in_err-ask_through.ensures.err c.from_residual.result c.from_residual.ensures.1
