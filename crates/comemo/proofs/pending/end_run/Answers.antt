use Rattle.comemo_cache.proofs.Sendings.{on_err}
use Rattle.comemo_cache.proofs.Entries.{reads_same}
use Rattle.comemo.proofs.Endings.{Ends-cloned, given, gives_itself, broken_itself}
use Rattle.comemo_cache.proofs.Holding.{leads_map, stays_same}
use Rattle.comemo_cache.specs.Meaning.{IsRight}
use Rattle.comemo.proofs.pending.end_run.Goals as goal

pub returns-in_err-give_recording-clause-err : goal.returns-in_err-give_recording-clause-err
returns-in_err-give_recording-clause-err g c = on_err c.from_residual.result (stays_same (g.H.Hold.entries c.args.cache.now), broken_itself g.met.M.Call.Eq.laws g.met.M.Answer.Eq.laws c.args.reads.pairs c.in_err-give_recording.ensures.err)

pub returns-in_default-clause-gives : goal.returns-in_default-clause-gives
returns-in_default-clause-gives g c = gives_itself g.met.M.Call.Eq.laws g.met.M.Answer.Eq.laws c.args.reads.pairs c.args.writes.items c.in_ok-give_recording.ensures.ok

pub give_run-requires-clause-reads : goal.give_run-requires-clause-reads
give_run-requires-clause-reads g c = reads_same g.M.Call.PartialEq.eq g.M.Answer.PartialEq.eq g.M.Call.Call.is_write g.met.M.Call.Call.laws.same_kind _ c.args.reads.pairs c.in-Ok.ensures.pairs c.requires.reads

pub keep-requires-clause-stands : goal.keep-requires-clause-stands
keep-requires-clause-stands g c = λ m r a. g.met.M.Function.laws.writes c.args.key m c.in-Ok.kept c.args.writes.items c.in-Ok.copies.items r c.in-Ok.ensures.same (g.met.M.Function.laws.outputs c.args.key m c.args.output.now c.in-Ok.kept c.args.writes.items r c.in-Ok.ensures.output (c.requires.stands m r a))

pub returns-clause-ends : goal.returns-clause-ends
returns-clause-ends g c = leads_map (g.H.Hold.entries c.args.cache.now) (g.H.Hold.entries c.keep.new.cache) _ _ (λ es es' e. Ends-cloned (record { same_call = g.M.Call.PartialEq.eq; same_answer = g.M.Answer.PartialEq.eq; same_key = g.M.Key.PartialEq.eq; is_write = g.M.Call.Call.is_write; is_clone = g.M.Out.Clone.is_clone; right = IsRight g.M.Function.means g.M.Function.writes; naming = g.M.Function.naming }) g.met.M.Call.Eq.laws es c.args.key c.args.reads.pairs c.args.output.now c.in-Ok.kept c.in-Ok.ensures.output c.args.writes.items c.in-Ok.copies.items c.in-Ok.ensures.same c.keep.result es' e) c.keep.ensures.ends

pub returns-clause-gives : goal.returns-clause-gives
returns-clause-gives g c = given g.met.M.Call.Eq.laws g.met.M.Answer.Eq.laws _ c.args.reads.pairs c.args.writes.items c.in-Ok.ensures.pairs c.in_ok-give_run.ensures.ok

pub returns-in_err-give_run-clause-err : goal.returns-in_err-give_run-clause-err
returns-in_err-give_run-clause-err g c = on_err c.from_residual-in_err-give_run.result (stays_same (g.H.Hold.entries c.args.cache.now), record { given = _; alike = c.in-Ok.ensures.pairs; is_broken = c.in_err-give_run.ensures.err })

pub returns-then-keeps_nothing-clause-gives : goal.returns-then-keeps_nothing-clause-gives
returns-then-keeps_nothing-clause-gives g c = gives_itself g.met.M.Call.Eq.laws g.met.M.Answer.Eq.laws c.args.reads.pairs c.args.writes.items (c.keeps_nothing.ensures c.if-keeps_nothing.true c.args.reads.pairs c.args.writes.items).0

pub keep-requires-clause-written : goal.keep-requires-clause-written
keep-requires-clause-written g c = c.in-Ok.ensures.written c.requires.written
