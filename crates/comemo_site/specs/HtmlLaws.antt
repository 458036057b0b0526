-- Each document begins with the mark.
use Rattle.std.specs.Prelude.{◌≡◌, ℕ, true, List, refl}
use Rattle.comemo_site.specs.Html.{document_html, is_marked}

pub document_marked : (title name body : List ℕ) → is_marked (document_html title name body) ≡ true
document_marked title name body = refl
