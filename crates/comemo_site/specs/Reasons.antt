-- Why a page is rendered again, and how that is said.
use Rattle.std.specs.Prelude.{ℕ, ⊤, List, ◌++◌, codes, Option, None, Some, bytes_eq, if◌then◌else◌}
use Rattle.comemo.specs.declared.Explanation.{Explanation}
use Rattle.comemo.specs.declared.Explanation.TheVariants.{Hit, NeverKept, Changed}
use Rattle.comemo.specs.declared.MultiCall.{MultiCall}
use Rattle.comemo.specs.declared.MultiCall.TheVariants.{A, B}
use Rattle.comemo.specs.declared.MultiAnswer.{MultiAnswer}
use Rattle.comemo_site.specs.declared.log.Warning.{Warning}
use Rattle.comemo_site.specs.declared.reason.Reason.{Reason}
use Rattle.comemo_site.specs.declared.reason.Reason.TheVariants.{New, Text, Title}
use Rattle.comemo_site.specs.declared.site.SiteAnswer.{SiteAnswer}
use Rattle.comemo_site.specs.declared.site.SiteCall.{SiteCall}
use Rattle.comemo_site.specs.declared.site.SiteCall.TheVariants.{TitleOf, BlocksOf}

-- the reason in an explanation; none for a hit
abbrev pub reason_of : Explanation (MultiCall SiteCall Warning) (MultiAnswer SiteAnswer ⊤) → Option Reason
reason_of Hit = None
reason_of NeverKept = Some New
reason_of (Changed asked (A (TitleOf name)) answer) = Some (Title name)
reason_of (Changed asked (A (BlocksOf name)) answer) = Some (Text name)
reason_of (Changed asked (B warning) answer) = None

-- the line about a page
abbrev pub reason_text : List ℕ → Reason → List ℕ
reason_text page New = page ++ codes ": it is new"
reason_text page (Text name) =
    if bytes_eq name page then page ++ codes ": its text changed"
    else page ++ codes ": the text of " ++ name ++ codes " changed"
reason_text page (Title name) = page ++ codes ": the title of " ++ name ++ codes " changed"
