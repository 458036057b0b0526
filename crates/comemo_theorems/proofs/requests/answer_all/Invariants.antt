use Rattle.std.proofs.Common.{◌≡◌, ◌≤◌, ◌+◌, length, vec_len, vec_capacity}
use Rattle.std.specs.Vec.Iter.{into_iter_items, into_iter_len}
use Rattle.comemo_cache.specs.Meaning.{IsRight}
use Rattle.comemo_theorems.proofs.Answering.{Reads, Answered}
use Rattle.comemo_theorems.proofs.requests.answer_all.Given as goal

-- for each request left there is room for its event, and those before it were answered
abbrev pub invariant-loop-request : goal.invariant-loop-request
invariant-loop-request g l = record {
  serves : (goal.iterator-loop-request g).can_next l.request-iterator × (goal.iterator-loop-request g).is_finite l.request-iterator;
  count : into_iter_len l.request-iterator ≡ length (into_iter_items l.request-iterator);
  room : vec_len l.events + length (into_iter_items l.request-iterator) ≤ vec_capacity l.events;
  so_far : Answered (record { same_call = g.T.Call.PartialEq.eq; same_answer = g.T.Answer.PartialEq.eq; same_key = g.M.Key.PartialEq.eq; is_write = g.T.Call.Call.is_write; is_clone = g.M.Out.Clone.is_clone; right = IsRight g.M.Function.means g.M.Function.writes; naming = g.M.Function.naming }) (Reads (record { same_call = g.T.Call.PartialEq.eq; same_answer = g.T.Answer.PartialEq.eq; same_key = g.M.Key.PartialEq.eq; is_write = g.T.Call.Call.is_write; is_clone = g.M.Out.Clone.is_clone; right = IsRight g.M.Function.means g.M.Function.writes; naming = g.M.Function.naming }) g.T.Track.answers) l.fn.requests.items (into_iter_items l.request-iterator) tt l.fn.cache l.events.items tt l.cache;
}
