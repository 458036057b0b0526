use Rattle.std.proofs.Common.{Bor}
use Rattle.comemo_cache.specs.Meaning.{Meaning, IsRight}
use Rattle.comemo_cache.proofs.Reaching.{unreached}
use Rattle.comemo_cache.proofs.cache.CacheData.reached.Goals as goal

pub returns-clause-all : goal.returns-clause-all
returns-clause-all g c = rw (← c.self.view_is) c.in_ok-keys.ensures.all

pub returns-clause-only : goal.returns-clause-only
returns-clause-only g c = rw (← c.self.view_is) c.in_ok-keys.ensures.only

pub returns-clause-stays : goal.returns-clause-stays
returns-clause-stays g c =
    let M : Meaning g.row.M-Key.Denot g.row.M-Call.Denot g.row.M-Answer.Denot g.row.M-Out.Denot = record { same_call = g.M.Call.PartialEq.eq; same_answer = g.M.Answer.PartialEq.eq; same_key = g.M.Key.PartialEq.eq; is_write = g.M.Call.Call.is_write; is_clone = g.M.Out.Clone.is_clone; right = IsRight g.M.Function.means g.M.Function.writes; naming = g.M.Function.naming } in
    let all = rw c.self.view_is at c.in_ok-keys.ensures.all in
    let legal = rw c.self.view_is at c.self.invariant in
    λ key none. unreached M g.met.M.Answer.Eq.laws g.met.M.Key.Eq.laws g.met.M.Function.laws c.args.calls.now c.args.self.now legal (λ (k : Bor g.row.M-Key.Denot). k.now) c.in_ok-keys.keys.items all key none
