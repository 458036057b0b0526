-- What a page is rendered to, and what is wrong with it.
use Rattle.std.specs.Prelude.{⊤, ◌≡◌, ℕ, zero, suc, List, [], ◌∷◌, ◌++◌, codes, map, Option, None, Some, unwrap_or}
use Rattle.std.specs.List.{fold}
use Rattle.comemo.specs.Function.{OnPart}
use Rattle.comemo.specs.Multi.{first_call, first_answer, second_call}
use Rattle.comemo.specs.declared.MultiCall.{MultiCall}
use Rattle.comemo.specs.declared.MultiAnswer.{MultiAnswer}
use Rattle.comemo_site.specs.Html.{element, anchor_html, plain_html, document_html}
use Rattle.comemo_site.specs.Sites.{title_in, blocks_in}
use Rattle.comemo_site.specs.declared.block.Block.{Block}
use Rattle.comemo_site.specs.declared.block.Block.TheVariants.{Plain, Include, Link, Entry}
use Rattle.comemo_site.specs.declared.log.Warning.{Warning}
use Rattle.comemo_site.specs.declared.log.Warning.TheVariants.{Missing, TooDeep}
use Rattle.comemo_site.specs.declared.site.SiteCall.{SiteCall}
use Rattle.comemo_site.specs.declared.site.SiteCall.TheVariants.{TitleOf, BlocksOf}
use Rattle.comemo_site.specs.declared.site.SiteAnswer.{SiteAnswer}

-- the results of the blocks, concatenated in order
abbrev pub in_turn : {X : Type 0} → (Block → List X) → List Block → List X
in_turn each blocks = fold (λ all block. all ++ each block) [] blocks

-- the warning of a page of this name, if it is missing
abbrev pub missing : {X : Type 0} → List ℕ → Option X → List Warning
missing name None = Missing name ∷ []
missing name (Some x) = []

-- the title of the page of a name, or the name if there is no such page
abbrev pub title_or_name : (SiteCall → SiteAnswer) → List ℕ → List ℕ
title_or_name m name = unwrap_or (title_in (m (TitleOf name))) name

-- a link to the page of a name, in an element
abbrev pub link_html : (SiteCall → SiteAnswer) → List ℕ → List ℕ → List ℕ
link_html m tag name = element tag (anchor_html (title_or_name m name) name)

-- the HTML of a block, where `inner` is that of an included page
abbrev pub block_html : (SiteCall → SiteAnswer) → (List ℕ → List ℕ) → Block → List ℕ
block_html m inner (Plain plain) = plain_html plain
block_html m inner (Include name) = inner name
block_html m inner (Link name) = link_html m (codes "p") name
block_html m inner (Entry name) = link_html m (codes "li") name

-- what is wrong with a block, where `inner` is what is wrong with an included page
abbrev pub block_warnings : (SiteCall → SiteAnswer) → (List ℕ → List Warning) → Block → List Warning
block_warnings m inner (Plain plain) = []
block_warnings m inner (Include name) = inner name
block_warnings m inner (Link name) = missing name (title_in (m (TitleOf name)))
block_warnings m inner (Entry name) = []

-- the HTML of the page of a name, with the pages that it includes up to a depth of `limit`
abbrev pub page_html : (SiteCall → SiteAnswer) → ℕ → List ℕ → List ℕ
page_html m zero name = []
page_html m (suc limit) name = in_turn (block_html m (page_html m limit)) (unwrap_or (blocks_in (m (BlocksOf name))) [])

-- what is wrong with it: a page is missing, or included too deep
abbrev pub page_warnings : (SiteCall → SiteAnswer) → ℕ → List ℕ → List Warning
page_warnings m zero name = TooDeep name ∷ []
page_warnings m (suc limit) name = missing name (blocks_in (m (BlocksOf name))) ++ in_turn (block_warnings m (page_warnings m limit)) (unwrap_or (blocks_in (m (BlocksOf name))) [])

-- the document of the page of a name
abbrev pub page_document : (SiteCall → SiteAnswer) → ℕ → List ℕ → List ℕ
page_document m limit name = document_html (title_or_name m name) name (page_html m limit name)

-- it holds of the site's answers
abbrev pub OnSite : (MultiCall SiteCall Warning → MultiAnswer SiteAnswer ⊤) → ((SiteCall → SiteAnswer) → Type 0) → Type 0
OnSite m holds = OnPart first_call first_answer m holds

-- where a site answers, the writes are those of these warnings, and this HTML is right
abbrev pub IsPrinted : ((SiteCall → SiteAnswer) → List ℕ) → ((SiteCall → SiteAnswer) → List Warning) → List ℕ → (MultiCall SiteCall Warning → MultiAnswer SiteAnswer ⊤) → List (MultiCall SiteCall Warning) → Type 0
IsPrinted html warnings given m writes = OnSite m (λ site. writes ≡ map second_call (warnings site)) × OnSite m (λ site. given ≡ html site)
