-- What the blocks of a source say of its page.
use Rattle.std.specs.Prelude.{ℕ, List, [], ◌∷◌, Option, None, Some, unwrap_or}
use Rattle.comemo_site.specs.declared.block.Block.{Block}
use Rattle.comemo_site.specs.declared.block.Block.TheVariants.{Plain, Include, Link, Entry}
use Rattle.comemo_site.specs.declared.block.Plain.TheVariants.{Heading, Subheading, Paragraph, Outside, ListStart, Item, ListEnd}

-- the words of a heading
abbrev pub heading_of : Block → Option (List ℕ)
heading_of (Plain (Heading words)) = Some words
heading_of (Plain (Subheading words)) = None
heading_of (Plain (Paragraph words)) = None
heading_of (Plain (Outside address)) = None
heading_of (Plain ListStart) = None
heading_of (Plain (Item words)) = None
heading_of (Plain ListEnd) = None
heading_of (Include name) = None
heading_of (Link name) = None
heading_of (Entry name) = None

-- the first heading, or else the name of the page
abbrev pub title_of : List ℕ → List Block → List ℕ
title_of name [] = name
title_of name (block ∷ blocks) = unwrap_or (heading_of block) (title_of name blocks)
