use Rattle.std.proofs.Common.{refl}
use Rattle.comemo_site.proofs.publish.publish_page.Goals as goal

pub returns : goal.returns
returns g c =
    let built = rw c.in_ok-own.ensures.cases at c.in_ok-html.ensures in
    record {
      published = (rw (c.in_ok-document.ensures, built.0.0) refl, built.0.1);
      stays = λ n title alike.
          let still = built.1 n alike in
          (rw (c.in_ok-document.ensures, title, still.0) refl, still.1);
    }
