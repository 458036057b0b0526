use Rattle.std.proofs.Common.{rules, [], refl}
use Rattle.comemo.proofs.RecordersMut.{fresh_began, ran_agrees, ran_did, ran_late}
use Rattle.comemo.proofs.function_mut.run_recorded.Goals as goal

pub run-ran-requires-clause-agrees : goal.run-ran-requires-clause-agrees
run-ran-requires-clause-agrees g c = λ complete. (c.args.of.now, fresh_began g.T.Track.wrote g.T.Call.Call.is_write g.T.Call.Call.touches g.T.Answer.PartialEq.eq g.T.Track.answers _ c.new-recording.ensures.pairs c.new-recording.ensures.writes)

pub returns-clause-agrees : goal.returns-clause-agrees
returns-clause-agrees g c = ran_agrees g.T.Track.wrote g.T.Call.Call.is_write g.T.Call.Call.touches g.T.Answer.PartialEq.eq g.T.Track.answers c.run-ran.ensures.goes c.new-recording.ensures.pairs c.new-recording.ensures.writes _ _ _ (search rules) (search rules) (search rules)

pub returns-clause-done : goal.returns-clause-done
returns-clause-done g c = ran_did g.T.Track.wrote g.T.Call.Call.is_write g.T.Call.Call.touches g.T.Answer.PartialEq.eq g.T.Track.answers c.run-ran.ensures.goes c.new-recording.ensures.pairs c.new-recording.ensures.writes _ _ _ (search rules) (search rules) (search rules)

pub returns-clause-late : goal.returns-clause-late
returns-clause-late g c = λ complete. record { touching = ran_late g.T.Track.wrote g.T.Call.Call.is_write g.T.Call.Call.touches g.T.Answer.PartialEq.eq g.T.Track.answers c.run-ran.ensures.goes c.new-recording.ensures.pairs c.new-recording.ensures.writes c.new-recording.ensures.late _ _ _ _ (search rules) (search rules) (search rules) (search rules) complete }

pub returns-clause-reached : goal.returns-clause-reached
returns-clause-reached g c = search (rules, c.run-ran.ensures.goes.reached c.args.of.now ([], refl))

pub returns-clause-early : goal.returns-clause-early
returns-clause-early g c = λ complete late. c.run-ran.ensures.early c.new-recording.ensures.late (search (rules, complete)) (search (rules, late))
