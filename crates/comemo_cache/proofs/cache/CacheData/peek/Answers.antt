use Rattle.std.proofs.Common.{inl, inr, true}
use Rattle.comemo_cache.specs.Meaning.{Meaning}
use Rattle.comemo_cache.proofs.Sendings.{on_err}
use Rattle.comemo_cache.proofs.Writings.{SameWrites-cloned}
use Rattle.comemo_cache.proofs.Peeking.{peeked}
use Rattle.comemo_cache.specs.Meaning.{IsRight}
use Rattle.comemo_cache.proofs.cache.CacheData.peek.Goals as goal

pub returns-in-Err-clause-err : goal.returns-in-Err-clause-err
returns-in-Err-clause-err g c = inl (rw (← c.self.view_is) (rw c.in-Err.is at c.get_agreeing.ensures.err))

pub returns-in_err-output-clause-err : goal.returns-in_err-output-clause-err
returns-in_err-output-clause-err g c =
    let h = rw (c.self.view_is, c.in-Ok-Some.is, c.in-Ok-Some.field-0-is) at c.get_agreeing.ensures.found in
    on_err c.from_residual.result (inr (h.0, h.1, h.2, h.3, h.4.0))

pub returns-in_err-copies-clause-err : goal.returns-in_err-copies-clause-err
returns-in_err-copies-clause-err g c =
    let h = rw (c.self.view_is, c.in-Ok-Some.is, c.in-Ok-Some.field-0-is) at c.get_agreeing.ensures.found in
    on_err c.from_residual-in_err-copies.result (inr (h.0, h.1, h.2, h.3, h.4.0))

pub returns-in-Ok-None-clause-asked : goal.returns-in-Ok-None-clause-asked
returns-in-Ok-None-clause-asked g c =
    let h = rw (c.self.view_is, c.in-Ok-None.is, c.in-Ok-None.field-0-is) at c.get_agreeing.ensures.asked in
    (h.0, (h.1, h.2))

pub returns-clause-found : goal.returns-clause-found
returns-clause-found g c =
    let M : Meaning g.row.M-Key.Denot g.row.M-Call.Denot g.row.M-Answer.Denot g.row.M-Out.Denot = record { same_call = g.M.Call.PartialEq.eq; same_answer = g.M.Answer.PartialEq.eq; same_key = g.M.Key.PartialEq.eq; is_write = g.M.Call.Call.is_write; is_clone = g.M.Out.Clone.is_clone; right = IsRight g.M.Function.means g.M.Function.writes; naming = g.M.Function.naming } in
    let found = rw (c.self.view_is, c.in-Ok-Some.is, c.in-Ok-Some.field-0-is) at c.get_agreeing.ensures.found in
    let writes = SameWrites-cloned g.M.Call.PartialEq.eq g.M.Call.Clone.is_clone g.met.M.Call.Call.laws.clones _ _ c.in_ok-copies.ensures.cases.0 in
    let legal = rw c.self.view_is at c.self.invariant in
    peeked M g.met.M.Call.Eq.laws g.met.M.Answer.Eq.laws g.met.M.Key.Eq.laws g.met.M.Call.Call.laws.same_kind g.met.M.Function.laws c.args.self.now legal c.args.key.now (g.In.Input.answers c.args.input.now) true _ _ c.kept.view_is found c.in_ok-output.output c.in_ok-output.ensures.cases c.in_ok-copies.copies.items writes
