use Rattle.std.proofs.Common.{[], refl}
use Rattle.comemo.proofs.Calls.{write_handed}
use Rattle.comemo_cache.proofs.Writings.{took_run, spoiled_run}
use Rattle.comemo.proofs.pending.give_peeked.Goals as goal

pub returns-in_default-clause-err : goal.returns-in_default-clause-err
returns-in_default-clause-err g c = (g.met.In.Input.starts _, record { prefix = []; rest = []; parts = refl; mid = c.reserve.new.self; taken = c.reserve.ensures.same; spoiled = c.spoil.ensures })

pub returns-in_err-replay-clause-err : goal.returns-in_err-replay-clause-err
returns-in_err-replay-clause-err g c =
    let at = c.in_err-replay.ensures.err in
    write_handed c.from_residual.result c.in_err-replay.field-0.0 c.from_residual.ensures.1 c.in_err-replay.ensures.fault _ _ (at.0, at.1, at.2, at.3, at.4, spoiled_run g.met.S.Sink.joins _ _ _ [] at.0 c.reserve.ensures.same at.5, at.6)

pub returns-clause-sent : goal.returns-clause-sent
returns-clause-sent g c = took_run g.met.S.Sink.joins _ _ _ [] c.args.peeked.writes.items c.reserve.ensures.same c.in_ok-replay.ensures.sent
