use Rattle.comemo_cache.proofs.Writings.{writes_left, head_write, room_left, done_more, stopped}
use Rattle.comemo.proofs.pending.replay.Goals as goal

pub loop-write-preserved : goal.loop-write-preserved
loop-write-preserved g c =
    let i = c.loop-write.invariant in
    let step = c.in-Some.ensures.steps.0 in
    record {
      serves = (tt, tt);
      writes = writes_left g.In.Call.Call.is_write _ _ c.in-Some.write step i.writes;
      room = room_left _ _ c.in-Some.write _ _ step i.room c.in-Ok-emit.ensures.room;
      so_far = done_more g.met.In.Input.joins g.met.S.Sink.adds _ _ _ _ _ _ _ _ _ c.in-Some.write step (c.in-Ok.ensures.ok (head_write g.In.Call.Call.is_write _ _ c.in-Some.write step i.writes)) c.in-Ok-emit.ensures.ok i.so_far;
    }

pub returns-in_default-clause-err : goal.returns-in_default-clause-err
returns-in_default-clause-err g c = stopped g.met.In.Input.joins _ _ _ _ _ _ g.In.Call.Call.is_write _ _ _ c.in-Some.write c.in-Some.ensures.steps.0 c.loop-write.invariant.writes c.in_default.ensures.err c.spoil.ensures c.loop-write.invariant.so_far
