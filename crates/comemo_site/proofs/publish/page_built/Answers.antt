use Rattle.comemo_site.proofs.Recorded.{seconds_of}
use Rattle.comemo_site.proofs.publish.page_built.Goals as goal

pub returns : goal.returns
returns g c =
    let page = rw c.view.ensures at c.in_ok-html.ensures in (
      (page.0.0, rw (c.in_ok-warnings.ensures, c.as_slice.ensures.value, page.0.1) (seconds_of _ _)),
      λ n alike.
          let still = page.1 n alike in
          (still.0, rw (c.in_ok-warnings.ensures, c.as_slice.ensures.value, still.1) (seconds_of _ _)),
    )
