use Rattle.std.proofs.Common.{◌∙◌, inr, sym, ap, subst}
use Rattle.comemo_base.proofs.Under.{Any-from_under}
use Rattle.comemo_cache.specs.Meaning.{Meaning}
use Rattle.comemo_cache.specs.Cache.{Kept, IsLegal}
use Rattle.comemo_cache.proofs.Sendings.{on_err}
use Rattle.comemo_cache.specs.Meaning.{SameWrites}
use Rattle.comemo_cache.proofs.Entries.{reads_same, Stands-found}
use Rattle.comemo_cache.proofs.Writings.{SameWrites-cloned, written_same}
use Rattle.comemo_cache.proofs.Named.{named_found}
use Rattle.comemo_cache.specs.Meaning.{IsRight}
use Rattle.comemo_cache.proofs.cache.CacheData.look.Goals as goal

pub find_agreeing-requires : goal.find_agreeing-requires
find_agreeing-requires g c = record { reads = λ k d l. (c.self.invariant k d l).reads }

pub returns-in-Err-clause-err : goal.returns-in-Err-clause-err
returns-in-Err-clause-err g c = rw (← c.self.view_is) (rw c.in-Err.is at c.find_agreeing.ensures.err)

pub returns-in_err-output-clause-err : goal.returns-in_err-output-clause-err
returns-in_err-output-clause-err g c =
    let h = rw (c.self.view_is, c.in-Ok-Some.is, c.in-Ok-Some.field-0-is) at c.find_agreeing.ensures.found in
    on_err c.from_residual.result (inr (h.0, h.1, h.2, h.3, h.4.0))

pub returns-in_err-writes-clause-err : goal.returns-in_err-writes-clause-err
returns-in_err-writes-clause-err g c =
    let h = rw (c.self.view_is, c.in-Ok-Some.is, c.in-Ok-Some.field-0-is) at c.find_agreeing.ensures.found in
    on_err c.from_residual-in_err-writes.result (inr (h.0, h.1, h.2, h.3, h.4.0))

pub returns-clause-found : goal.returns-clause-found
returns-clause-found g c =
    let h = rw (c.self.view_is, c.in-Ok-Some.is, c.in-Ok-Some.field-0-is) at c.find_agreeing.ensures.found in
    let value = c.kept.view_is ∙ sym h.4.2 in
    let output = subst (λ (v : Kept _ _). g.M.Out.Clone.is_clone v.output c.in_ok-output.output) value c.in_ok-output.ensures.cases in
    let writes = subst (λ (v : Kept _ _). SameWrites g.M.Call.PartialEq.eq v.writes c.in_ok-writes.writes.items) value (SameWrites-cloned g.M.Call.PartialEq.eq g.M.Call.Clone.is_clone g.met.M.Call.Call.laws.clones _ _ c.in_ok-writes.ensures.cases.0) in
    (h.0, h.1, h.2, h.3, ((h.4.0, h.4.1, output, writes), sym (ap (λ (v : Kept _ _). v.age) value)))

pub returns-clause-stands : goal.returns-clause-stands
returns-clause-stands g c =
    let M : Meaning g.row.M-Key.Denot g.row.M-Call.Denot g.row.M-Answer.Denot g.row.M-Out.Denot = record { same_call = g.M.Call.PartialEq.eq; same_answer = g.M.Answer.PartialEq.eq; same_key = g.M.Key.PartialEq.eq; is_write = g.M.Call.Call.is_write; is_clone = g.M.Out.Clone.is_clone; right = IsRight g.M.Function.means g.M.Function.writes; naming = g.M.Function.naming } in
    let h = Any-from_under g.M.Key.PartialEq.eq _ c.args.key.now _ (rw (c.in-Ok-Some.is, c.in-Ok-Some.field-0-is) at c.find_agreeing.ensures.found) in
    let value = c.kept.view_is ∙ sym h.4.1.2 in
    let output = subst (λ (v : Kept _ _). g.M.Out.Clone.is_clone v.output c.in_ok-output.output) value c.in_ok-output.ensures.cases in
    let writes = subst (λ (v : Kept _ _). SameWrites g.M.Call.PartialEq.eq v.writes c.in_ok-writes.writes.items) value (SameWrites-cloned g.M.Call.PartialEq.eq g.M.Call.Clone.is_clone g.met.M.Call.Call.laws.clones _ _ c.in_ok-writes.ensures.cases.0) in
    let legal = subst (λ e. IsLegal M e) h.3 (c.self.invariant h.0 h.1 h.2) in
    Stands-found M g.met.M.Call.Eq.laws g.met.M.Answer.Eq.laws g.met.M.Function.laws.keys g.met.M.Function.laws.outputs g.met.M.Function.laws.writes h.1 c.args.key.now c.in-Ok-Some.pairs.items c.in_ok-output.output c.in_ok-writes.writes.items legal h.4.0 h.4.1.1 output writes

pub returns-clause-reads : goal.returns-clause-reads
returns-clause-reads g c =
    let M : Meaning g.row.M-Key.Denot g.row.M-Call.Denot g.row.M-Answer.Denot g.row.M-Out.Denot = record { same_call = g.M.Call.PartialEq.eq; same_answer = g.M.Answer.PartialEq.eq; same_key = g.M.Key.PartialEq.eq; is_write = g.M.Call.Call.is_write; is_clone = g.M.Out.Clone.is_clone; right = IsRight g.M.Function.means g.M.Function.writes; naming = g.M.Function.naming } in
    let h = Any-from_under g.M.Key.PartialEq.eq _ c.args.key.now _ (rw (c.in-Ok-Some.is, c.in-Ok-Some.field-0-is) at c.find_agreeing.ensures.found) in
    let legal = subst (λ e. IsLegal M e) h.3 (c.self.invariant h.0 h.1 h.2) in
    reads_same g.M.Call.PartialEq.eq g.M.Answer.PartialEq.eq g.M.Call.Call.is_write g.met.M.Call.Call.laws.same_kind c.in-Ok-Some.pairs.items h.1.path h.4.1.1 legal.reads

pub returns-clause-settled : goal.returns-clause-settled
returns-clause-settled g c =
    let M : Meaning g.row.M-Key.Denot g.row.M-Call.Denot g.row.M-Answer.Denot g.row.M-Out.Denot = record { same_call = g.M.Call.PartialEq.eq; same_answer = g.M.Answer.PartialEq.eq; same_key = g.M.Key.PartialEq.eq; is_write = g.M.Call.Call.is_write; is_clone = g.M.Out.Clone.is_clone; right = IsRight g.M.Function.means g.M.Function.writes; naming = g.M.Function.naming } in
    let h = Any-from_under g.M.Key.PartialEq.eq _ c.args.key.now _ (rw (c.in-Ok-Some.is, c.in-Ok-Some.field-0-is) at c.find_agreeing.ensures.found) in
    let legal = subst (λ e. IsLegal M e) h.3 (c.self.invariant h.0 h.1 h.2) in
    named_found g.met.M.Call.Eq.laws g.met.M.Answer.Eq.laws g.met.M.Key.Eq.laws g.M.Function.naming h.1.key c.args.key.now h.1.path c.in-Ok-Some.pairs.items h.4.0 h.4.1.1 legal.settled

pub returns-in-Ok-None-clause-asked : goal.returns-in-Ok-None-clause-asked
returns-in-Ok-None-clause-asked g c =
    let h = rw (c.self.view_is, c.in-Ok-None.is, c.in-Ok-None.field-0-is) at c.find_agreeing.ensures.asked in
    (h.0, (h.1, h.2))

pub returns-clause-written : goal.returns-clause-written
returns-clause-written g c =
    let M : Meaning g.row.M-Key.Denot g.row.M-Call.Denot g.row.M-Answer.Denot g.row.M-Out.Denot = record { same_call = g.M.Call.PartialEq.eq; same_answer = g.M.Answer.PartialEq.eq; same_key = g.M.Key.PartialEq.eq; is_write = g.M.Call.Call.is_write; is_clone = g.M.Out.Clone.is_clone; right = IsRight g.M.Function.means g.M.Function.writes; naming = g.M.Function.naming } in
    let h = Any-from_under g.M.Key.PartialEq.eq _ c.args.key.now _ (rw (c.in-Ok-Some.is, c.in-Ok-Some.field-0-is) at c.find_agreeing.ensures.found) in
    let value = c.kept.view_is ∙ sym h.4.1.2 in
    let writes = subst (λ (v : Kept _ _). SameWrites g.M.Call.PartialEq.eq v.writes c.in_ok-writes.writes.items) value (SameWrites-cloned g.M.Call.PartialEq.eq g.M.Call.Clone.is_clone g.met.M.Call.Call.laws.clones _ _ c.in_ok-writes.ensures.cases.0) in
    let legal = subst (λ e. IsLegal M e) h.3 (c.self.invariant h.0 h.1 h.2) in
    written_same g.M.Call.PartialEq.eq g.M.Call.Call.is_write g.met.M.Call.Call.laws.same_kind h.1.value.writes c.in_ok-writes.writes.items writes legal.written
