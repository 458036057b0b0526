use Rattle.std.proofs.Common.{rules}
use Rattle.comemo.proofs.RecursionsMut.{called, writes_to}
use Rattle.comemo_site.proofs.Steps.{printed}
use Rattle.comemo_site.proofs.link.entry_built.Goals as goal

pub returns-clause-tells : goal.returns-clause-tells
returns-clause-tells g c = writes_to (called c.in_ok-title.ensures.tells c.in_ok-title.ensures.writes) (λ m W f k. printed m (λ site p. rw k.0 (search (rules, k.1 site p))))
