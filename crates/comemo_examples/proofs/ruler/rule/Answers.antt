use Rattle.std.proofs.Common.{rules, refl}
use Rattle.comemo.proofs.Lateness.{still_early}
use Rattle.comemo.proofs.RecursionsMut.{writes_now}
use Rattle.comemo_examples.proofs.ruler.rule.Goals as goal

pub returns : goal.returns
returns g c = search (rules, writes_now (λ v x y h. search rules) c.ruled.result (search (rules, c.new-recording.ensures)) (search (rules, c.new-recording.ensures)) (search (rules, c.new-recording.ensures)) c.ruled.ensures.tells (λ x W is done. rw is.0 at done) (still_early c.ruled.ensures.tells.goes (λ x y. refl) (search (rules, c.new-recording.ensures))))

pub ruled-requires : goal.ruled-requires
ruled-requires g c = record { agrees = λ complete. (c.args.book.now, record { done = rw (c.new-recorder.ensures.value, c.new-recorder.ensures.recording, c.new-recording.ensures.writes) refl; agrees = λ l. rw (c.new-recorder.ensures.recording, c.new-recording.ensures.pairs) tt }) }
