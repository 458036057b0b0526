use Rattle.comemo_cache.specs.Meaning.{Meaning, IsRight}
use Rattle.comemo_theorems.proofs.Lawful.{lawful}
use Rattle.comemo_theorems.proofs.Answering.{called, failed, evicts}
use Rattle.comemo_theorems.proofs.requests.answer.Goals as goal

pub returns-in-Ok : goal.returns-in-Ok
returns-in-Ok g c =
    let M : Meaning g.row.M-Key.Denot g.row.T-Call.Denot g.row.T-Answer.Denot g.row.M-Out.Denot = record { same_call = g.T.Call.PartialEq.eq; same_answer = g.T.Answer.PartialEq.eq; same_key = g.M.Key.PartialEq.eq; is_write = g.T.Call.Call.is_write; is_clone = g.M.Out.Clone.is_clone; right = IsRight g.M.Function.means g.M.Function.writes; naming = g.M.Function.naming } in
    rw c.in-Call.is (called M g.T.Track.answers (lawful M g.met.T.Call.Eq.laws g.met.T.Answer.Eq.laws g.met.M.Key.Eq.laws g.met.M.Function.laws) _ c.in-Call.key c.in-Call.of _ _ c.in-Ok.reply (g.met.T.Track.alike c.in-Call.of) c.in-Ok.ensures.reply)

pub returns-in-Call : goal.returns-in-Call
returns-in-Call g c =
    let M : Meaning g.row.M-Key.Denot g.row.T-Call.Denot g.row.T-Answer.Denot g.row.M-Out.Denot = record { same_call = g.T.Call.PartialEq.eq; same_answer = g.T.Answer.PartialEq.eq; same_key = g.M.Key.PartialEq.eq; is_write = g.T.Call.Call.is_write; is_clone = g.M.Out.Clone.is_clone; right = IsRight g.M.Function.means g.M.Function.writes; naming = g.M.Function.naming } in
    rw c.in-Call.is (failed M g.T.Track.answers c.in-Call.key c.in-Call.of c.in-Err.fault _ _ c.in-Err.ensures.err.0)

pub returns : goal.returns
returns g c =
    let M : Meaning g.row.M-Key.Denot g.row.T-Call.Denot g.row.T-Answer.Denot g.row.M-Out.Denot = record { same_call = g.T.Call.PartialEq.eq; same_answer = g.T.Answer.PartialEq.eq; same_key = g.M.Key.PartialEq.eq; is_write = g.T.Call.Call.is_write; is_clone = g.M.Out.Clone.is_clone; right = IsRight g.M.Function.means g.M.Function.writes; naming = g.M.Function.naming } in
    rw c.in-Evict.is (evicts M g.T.Track.answers c.in-Evict.max_age _ _ c.evict.ensures)
