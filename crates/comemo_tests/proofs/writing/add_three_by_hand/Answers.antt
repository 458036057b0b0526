use Rattle.std.proofs.Common.{refl}
use Rattle.comemo_tests.proofs.writing.add_three_by_hand.Goals as goal

pub begin-requires : goal.begin-requires
begin-requires c = record { agrees = λ complete. (c.args.counter.now, record { done = rw (c.new-recorder.ensures.value, c.new-recorder.ensures.recording, c.new-recording.ensures.writes) refl; agrees = λ l. rw (c.new-recorder.ensures.recording, c.new-recording.ensures.pairs) tt }) }
