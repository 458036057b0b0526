use Rattle.comemo_track.specs.Sending.{TookAs}
use Rattle.comemo_track.specs.Writing.{Done}
use Rattle.comemo_theorems.proofs.Lawful.{lawful}
use Rattle.comemo_theorems.proofs.Calls.{through_any_holder}
use Rattle.comemo_theorems.proofs.through_any_holder.Goals as goal

pub returns-clause-reads : goal.returns-clause-reads
returns-clause-reads g c = λ s t. through_any_holder _ (lawful _ g.met.M.Call.Eq.laws g.met.M.Answer.Eq.laws g.met.M.Key.Eq.laws g.met.M.Function.laws) g.M.Call.Call.touches (λ _. g.S.Sink.took s t)

pub returns-clause-writes : goal.returns-clause-writes
returns-clause-writes g c = λ v w s t.
    through_any_holder _ (lawful _ g.met.M.Call.Eq.laws g.met.M.Answer.Eq.laws g.met.M.Key.Eq.laws g.met.M.Function.laws) g.M.Call.Call.touches
    (λ late P W. TookAs g.S.Sink.took g.S.Sink.lates late s t P W × Done g.T.Track.wrote g.M.Call.Call.is_write g.M.Call.Call.touches g.M.Answer.PartialEq.eq g.T.Track.answers v w W)
