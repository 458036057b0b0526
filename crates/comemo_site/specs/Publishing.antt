-- What it means that a page was published, and with which answers it stays so.
use Rattle.std.specs.Prelude.{◌≡◌, ⊤, ℕ, List}
use Rattle.std.specs.List.{AllByRecursion}
use Rattle.comemo.specs.Multi.{part_answers}
use Rattle.comemo.specs.declared.MultiAnswer.{MultiAnswer}
use Rattle.comemo.specs.declared.MultiCall.{MultiCall}
use Rattle.comemo_site.specs.Pages.{page_document, page_html, page_warnings}
use Rattle.comemo_site.specs.declared.log.Warning.{Warning}
use Rattle.comemo_site.specs.declared.publish.Published.{Published}
use Rattle.comemo_site.specs.declared.site.SiteAnswer.{SiteAnswer}
use Rattle.comemo_site.specs.declared.site.SiteCall.{SiteCall}
use Rattle.comemo_site.specs.declared.site.SiteCall.TheVariants.{TitleOf}

-- a site and a log as one, where the log answers nothing
abbrev pub answers_of : (SiteCall → SiteAnswer) → MultiCall SiteCall Warning → MultiAnswer SiteAnswer ⊤
answers_of site = part_answers site (λ _. tt)

-- both answer each of the reads alike
abbrev pub SameAt : (SiteCall → SiteAnswer) → (SiteCall → SiteAnswer) → List (MultiCall SiteCall Warning × MultiAnswer SiteAnswer ⊤) → Type 0
SameAt m n reads = AllByRecursion (λ read. answers_of n read.0 ≡ answers_of m read.0) reads

-- it holds of these answers, and of all that are the same at the reads
abbrev pub Outlives : List (MultiCall SiteCall Warning × MultiAnswer SiteAnswer ⊤) → (SiteCall → SiteAnswer) → ((SiteCall → SiteAnswer) → Type 0) → Type 0
Outlives reads m holds = holds m × ((n : SiteCall → SiteAnswer) → SameAt m n reads → holds n)

-- the HTML of a page and its warnings are these
abbrev pub IsBuilt : ℕ → List ℕ → List ℕ → List Warning → (SiteCall → SiteAnswer) → Type 0
IsBuilt limit name html warnings m = (html ≡ page_html m limit name) × (warnings ≡ page_warnings m limit name)

-- the document is that of the page, and the warnings are those about it
abbrev pub IsPublished : (SiteCall → SiteAnswer) → ℕ → List ℕ → Published → Type 0
IsPublished m limit name page = (page.document ≡ page_document m limit name) × (page.warnings.items ≡ page_warnings m limit name)

-- so it is with all answers that are the same at the page's title and at its reads
abbrev pub StaysPublished : (SiteCall → SiteAnswer) → ℕ → List ℕ → Published → Type 0
StaysPublished m limit name page = (n : SiteCall → SiteAnswer) → n (TitleOf name) ≡ m (TitleOf name) → SameAt m n page.reads.pairs → IsPublished n limit name page
