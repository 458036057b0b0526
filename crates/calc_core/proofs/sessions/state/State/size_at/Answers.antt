use Rattle.std.proofs.Common.{refl}
use Rattle.calc_core.specs.Sessions.{bytes_at, no_memory}
use Rattle.calc_core.proofs.sessions.state.State.size_at.Goals as goal

pub returns-in-Ok-clause-answer : goal.returns-in-Ok-clause-answer
returns-in-Ok-clause-answer c = bytes_at (rw c.view-view.ensures at c.in-Ok.ensures.output) (λ path. refl)

pub returns-in-Err-clause-answer : goal.returns-in-Err-clause-answer
returns-in-Err-clause-answer c = no_memory (λ path. refl)
