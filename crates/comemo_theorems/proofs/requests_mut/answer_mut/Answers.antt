use Rattle.comemo_cache.specs.Meaning.{Meaning, IsRight}
use Rattle.comemo_track.specs.Writing.{Done}
use Rattle.comemo_theorems.proofs.Lawful.{lawful}
use Rattle.comemo_theorems.proofs.Answering.{called_mut, failed_mut, evicts_mut}
use Rattle.comemo_theorems.proofs.requests_mut.answer_mut.Goals as goal

pub returns-in-Ok : goal.returns-in-Ok
returns-in-Ok g c =
    let M : Meaning g.row.M-Key.Denot g.row.T-Call.Denot g.row.T-Answer.Denot g.row.M-Out.Denot = record { same_call = g.T.Call.PartialEq.eq; same_answer = g.T.Answer.PartialEq.eq; same_key = g.M.Key.PartialEq.eq; is_write = g.T.Call.Call.is_write; is_clone = g.M.Out.Clone.is_clone; right = IsRight g.M.Function.means g.M.Function.writes; naming = g.M.Function.naming } in
    rw c.in-Call.is (called_mut M g.T.Track.answers (Done g.T.Track.wrote g.T.Call.Call.is_write g.T.Call.Call.touches g.T.Answer.PartialEq.eq g.T.Track.answers) (lawful M g.met.T.Call.Eq.laws g.met.T.Answer.Eq.laws g.met.M.Key.Eq.laws g.met.M.Function.laws) g.T.Call.Call.touches c.in-Call.key _ _ _ _ _ c.in-Ok.reply (g.met.T.Track.alike c.args.of.now) c.in-Ok.ensures.reply)

pub returns-in-Err : goal.returns-in-Err
returns-in-Err g c =
    let M : Meaning g.row.M-Key.Denot g.row.T-Call.Denot g.row.T-Answer.Denot g.row.M-Out.Denot = record { same_call = g.T.Call.PartialEq.eq; same_answer = g.T.Answer.PartialEq.eq; same_key = g.M.Key.PartialEq.eq; is_write = g.T.Call.Call.is_write; is_clone = g.M.Out.Clone.is_clone; right = IsRight g.M.Function.means g.M.Function.writes; naming = g.M.Function.naming } in
    rw c.in-Call.is (failed_mut M g.T.Track.answers (Done g.T.Track.wrote g.T.Call.Call.is_write g.T.Call.Call.touches g.T.Answer.PartialEq.eq g.T.Track.answers) _ _ c.in-Call.key _ c.in-Err.fault _ _ _ _ c.in-Err.ensures.reached c.in-Err.ensures.fault)

pub returns-in-Evict : goal.returns-in-Evict
returns-in-Evict g c =
    let M : Meaning g.row.M-Key.Denot g.row.T-Call.Denot g.row.T-Answer.Denot g.row.M-Out.Denot = record { same_call = g.T.Call.PartialEq.eq; same_answer = g.T.Answer.PartialEq.eq; same_key = g.M.Key.PartialEq.eq; is_write = g.T.Call.Call.is_write; is_clone = g.M.Out.Clone.is_clone; right = IsRight g.M.Function.means g.M.Function.writes; naming = g.M.Function.naming } in
    rw c.in-Evict.is (evicts_mut M g.T.Track.answers (Done g.T.Track.wrote g.T.Call.Call.is_write g.T.Call.Call.touches g.T.Answer.PartialEq.eq g.T.Track.answers) c.in-Evict.max_age _ _ _ c.evict.ensures)
