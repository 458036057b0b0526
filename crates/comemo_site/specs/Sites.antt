-- What a site answers, and what an answer holds.
use Rattle.std.specs.Prelude.{ℕ, List, String, Option, None, Some}
use Rattle.std.specs.Global.{Global}
use Rattle.std.specs.HashMap.{HashMap, get_by_text}
use Rattle.comemo_site.specs.declared.block.Block.{Block}
use Rattle.comemo_site.specs.declared.site.Page.{Page}
use Rattle.comemo_site.specs.declared.site.SiteCall.{SiteCall}
use Rattle.comemo_site.specs.declared.site.SiteCall.TheVariants.{TitleOf, BlocksOf}
use Rattle.comemo_site.specs.declared.site.SiteAnswer.{SiteAnswer}
use Rattle.comemo_site.specs.declared.site.SiteAnswer.TheVariants.{Missing, Title, Blocks}

-- the page of a name
abbrev pub page_of : {H : Type 0} → HashMap (String Global) Page H → List ℕ → Option Page
page_of pages name = get_by_text pages name

abbrev pub title_answer : Option Page → SiteAnswer
title_answer None = Missing
title_answer (Some page) = Title page.title

abbrev pub blocks_answer : Option Page → SiteAnswer
blocks_answer None = Missing
blocks_answer (Some page) = Blocks page.blocks

-- what a site answers to a call
abbrev pub site_answer : {H : Type 0} → HashMap (String Global) Page H → SiteCall → SiteAnswer
site_answer pages (TitleOf name) = title_answer (page_of pages name)
site_answer pages (BlocksOf name) = blocks_answer (page_of pages name)

-- the title in an answer; none if there is no such page
abbrev pub title_in : SiteAnswer → Option (List ℕ)
title_in Missing = None
title_in (Title title) = Some title
title_in (Blocks blocks) = None

-- the blocks in an answer; none if there is no such page
abbrev pub blocks_in : SiteAnswer → Option (List Block)
blocks_in Missing = None
blocks_in (Title title) = None
blocks_in (Blocks blocks) = Some blocks
