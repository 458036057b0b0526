use Rattle.std.proofs.Common.{rules}
use Rattle.comemo.proofs.RecursionsMut.{called, wrote, writes_both, writes_to, failed_after}
use Rattle.comemo_site.proofs.Steps.{printed}
use Rattle.comemo_site.proofs.link.link_built.Goals as goal

pub returns-in_err-write_part-in-None-clause-tells : goal.returns-in_err-write_part-in-None-clause-tells
returns-in_err-write_part-in-None-clause-tells g c = failed_after (called c.in_ok-title.ensures.tells c.in_ok-title.ensures.writes) c.in_err-write_part-in-None.field-0.0 c.from_residual-in_err-write_part-in-None.result c.in_err-write_part-in-None.ensures.tells c.from_residual-in_err-write_part-in-None.ensures.1

pub returns-in_ok-link-in-Some-clause-tells : goal.returns-in_ok-link-in-Some-clause-tells
returns-in_ok-link-in-Some-clause-tells g c = writes_to (called c.in_ok-title.ensures.tells c.in_ok-title.ensures.writes) (λ m W f k. printed m (λ site p. rw k.0 (search (rules, k.1 site p))))

pub returns-in_ok-write_part-in-None-clause-tells : goal.returns-in_ok-write_part-in-None-clause-tells
returns-in_ok-write_part-in-None-clause-tells g c = writes_to (writes_both (called c.in_ok-title.ensures.tells c.in_ok-title.ensures.writes) _ (wrote c.in_ok-write_part-in-None.ensures.tells _ _ _ c.in_ok-write_part-in-None.ensures.sent)) (λ m W f k. printed m (λ site p. rw (k.2, k.3.0, k.4) (search (rules, k.3.1 site p))))
