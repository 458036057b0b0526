use Rattle.std.proofs.Common.{[], ◌∷◌}
use Rattle.comemo_track.proofs.writing.TrackedMut.write.Goals as goal

pub returns-clause-sent : goal.returns-clause-sent
returns-clause-sent g c = g.met.S.Sink.joins _ _ _ [] [] (c.args.call ∷ []) c.in_ok-reserve.ensures.same c.in-Ok.ensures.ok
