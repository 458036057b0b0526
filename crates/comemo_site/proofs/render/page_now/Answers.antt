use Rattle.comemo.proofs.Recursions.{own_now}
use Rattle.comemo_site.specs.Sites.{site_answer}
use Rattle.comemo_site.specs.SiteLaws.{site_alike}
use Rattle.comemo_site.proofs.render.page_now.Goals as goal

pub returns : goal.returns
returns g c = rw (c.new-recorder.ensures.value, c.view.ensures) at (own_now c.rendered.result (λ s. site_answer s.pages) (λ s. site_alike s.pages) c.new-recorder.ensures.complete c.recorder.view_is c.recorder.invariant c.rendered.ensures)
