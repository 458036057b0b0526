use Rattle.comemo_site.proofs.reason.reason_now.Goals as goal

pub returns : goal.returns
returns g c = (c.in_ok-said.said, c.of.ensures, rw (c.in_ok-clone.ensures.cases, c.view.ensures) at c.in_ok-said.ensures.explains)
