use Rattle.comemo_cache.proofs.Writings.{writes_left, room_left, writes_more}
use Rattle.comemo.proofs.pending.give_writes.Goals as goal

pub loop-call-preserved : goal.loop-call-preserved
loop-call-preserved g c =
    let i = c.loop-call.invariant in
    let step = c.in-Some.ensures.steps.0 in
    record {
      serves = (tt, tt);
      writes = writes_left g.S.Call.Call.is_write _ _ c.in-Some.call step i.writes;
      room = room_left _ _ c.in-Some.call _ _ step i.room c.in-Ok-emit.ensures.room;
      so_far = writes_more g.met.S.Sink.adds _ _ _ _ _ _ c.in-Some.call step c.in-Ok-emit.ensures.ok i.so_far;
    }
