use Rattle.std.proofs.Common.{arith, length, [], ◌∙◌, sym, refl, ap}
use Rattle.std.proofs.lemmas.List.{nil_from_length}
use Rattle.std.proofs.lemmas.List.Elements.{All-nil}
use Rattle.comemo_cache.specs.Meaning.{Meaning, IsRight}
use Rattle.comemo_track.specs.Writing.{Done}
use Rattle.comemo_theorems.specs.History.{Honest}
use Rattle.comemo_theorems.proofs.Answering.{Writes, one_more, all_done}
use Rattle.comemo_theorems.proofs.requests_mut.answer_all_mut.Goals as goal

pub loop-request-init : goal.loop-request-init
loop-request-init g c =
    let M : Meaning g.row.M-Key.Denot g.row.T-Call.Denot g.row.T-Answer.Denot g.row.M-Out.Denot = record { same_call = g.T.Call.PartialEq.eq; same_answer = g.T.Answer.PartialEq.eq; same_key = g.M.Key.PartialEq.eq; is_write = g.T.Call.Call.is_write; is_clone = g.M.Out.Clone.is_clone; right = IsRight g.M.Function.means g.M.Function.writes; naming = g.M.Function.naming } in
    let gives = c.into_iter-request-iterator.ensures.into_iter_gives in
    record {
      serves = (tt, tt);
      count = omega (arith, ap length gives.0, gives.1, c.args.requests.ok.0);
      room = omega (arith, ap length gives.0, c.in_ok-events.ensures.len, c.in_ok-events.ensures.capacity, c.len.ensures, c.args.requests.ok.0);
      so_far = record { prefix = []; parts = rw gives.0 refl; steps = []; are = rw c.in_ok-events.ensures.items (refl, refl); history = refl; honest = All-nil (Honest M) };
    }

pub loop-request-preserved : goal.loop-request-preserved
loop-request-preserved g c =
    let M : Meaning g.row.M-Key.Denot g.row.T-Call.Denot g.row.T-Answer.Denot g.row.M-Out.Denot = record { same_call = g.T.Call.PartialEq.eq; same_answer = g.T.Answer.PartialEq.eq; same_key = g.M.Key.PartialEq.eq; is_write = g.T.Call.Call.is_write; is_clone = g.M.Out.Clone.is_clone; right = IsRight g.M.Function.means g.M.Function.writes; naming = g.M.Function.naming } in
    let i = c.loop-request.invariant in
    let step = c.in-Some.ensures.steps.0 in
    record {
      serves = (tt, tt);
      count = omega (arith, ap length step, c.in-Some.ensures.steps.1, i.count);
      room = omega (arith, ap length step, c.push_reserved.ensures.len, c.push_reserved.ensures.capacity, i.room);
      so_far = one_more M (Writes M g.T.Track.answers (Done g.T.Track.wrote g.T.Call.Call.is_write g.T.Call.Call.touches g.T.Answer.PartialEq.eq g.T.Track.answers)) _ _ _ c.in-Some.request _ _ _ _ _ _ _ _ c.answer_mut.result step c.push_reserved.ensures.items c.answer_mut.ensures i.so_far;
    }

pub returns : goal.returns
returns g c =
    let M : Meaning g.row.M-Key.Denot g.row.T-Call.Denot g.row.T-Answer.Denot g.row.M-Out.Denot = record { same_call = g.T.Call.PartialEq.eq; same_answer = g.T.Answer.PartialEq.eq; same_key = g.M.Key.PartialEq.eq; is_write = g.T.Call.Call.is_write; is_clone = g.M.Out.Clone.is_clone; right = IsRight g.M.Function.means g.M.Function.writes; naming = g.M.Function.naming } in
    all_done M (Writes M g.T.Track.answers (Done g.T.Track.wrote g.T.Call.Call.is_write g.T.Call.Call.touches g.T.Answer.PartialEq.eq g.T.Track.answers)) _ _ _ _ _ _ _ (nil_from_length _ (sym c.loop-request.invariant.count ∙ c.in-None.ensures.steps.0)) c.loop-request.invariant.so_far
