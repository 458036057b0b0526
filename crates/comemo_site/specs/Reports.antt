-- What is written and printed of a build.
use Rattle.std.specs.Prelude.{ℕ, Bool, ◌||◌, List, ◌++◌, codes, decimal, bytes_eq, if◌then◌else◌, Option, None, Some}
use Rattle.comemo_site.specs.Html.{is_marked}
use Rattle.comemo_site.specs.declared.log.Warning.{Warning}
use Rattle.comemo_site.specs.declared.log.Warning.TheVariants.{Missing, TooDeep}
use Rattle.comemo_site.specs.declared.report.Fate.{Fate}
use Rattle.comemo_site.specs.declared.report.Fate.TheVariants.{Unchanged, Written, Kept}
use Rattle.comemo_site.specs.declared.report.Summary.{Summary}
use Rattle.comemo_site.specs.declared.tally.Tally.{Tally}

-- what becomes of the file of a document, whose bytes are these, if it is there, and whether any file may be replaced
abbrev pub fate_of : Option (List ℕ) → List ℕ → Bool → Fate
fate_of None document forced = Written
fate_of (Some bytes) document forced =
    if bytes_eq bytes document then Unchanged
    else if forced || is_marked bytes then Written
    else Kept

-- the line about a warning of a page
abbrev pub warning_text : List ℕ → Warning → List ℕ
warning_text page (Missing name) = page ++ codes ": no page is named " ++ name
warning_text page (TooDeep name) = page ++ codes ": " ++ name ++ codes " is included too deep"

-- the line about a build
abbrev pub summary_text : Summary → List ℕ
summary_text s =
    codes "written " ++ decimal s.written ++ codes ", unchanged " ++ decimal s.unchanged
    ++ codes ", failed " ++ decimal s.failed ++ codes ", warnings " ++ decimal s.warnings

-- the line about a round
abbrev pub round_text : ℕ → ℕ → Tally → ℕ → List ℕ
round_text round changed tally milliseconds =
    codes "round " ++ decimal round ++ codes ": pages changed " ++ decimal changed
    ++ codes ", calls run " ++ decimal tally.runs ++ codes ", calls hit " ++ decimal tally.hits
    ++ codes ", " ++ decimal milliseconds ++ codes " ms"
