-- The language of sources: what a line says, and which blocks the lines of a source give.
use Rattle.std.specs.Prelude.{ℕ, ◌==◌, Bool, ◌&&◌, not, List, [], ◌∷◌, ◌++◌, map, length, drop, codes, bytes_eq, if◌then◌else◌}
use Rattle.std.specs.Char.{is_whitespace}
use Rattle.std.specs.List.{flat_map, list_any}
use Rattle.std.specs.Str.{chars, trim, trim_start}
use Rattle.std.specs.Str.Lines.{lines}
use Rattle.comemo_site.specs.Addresses.{begins, is_outside}
use Rattle.comemo_site.specs.declared.block.Block.{Block}
use Rattle.comemo_site.specs.declared.block.Block.TheVariants.{Plain, Include, Link, Entry}
use Rattle.comemo_site.specs.declared.block.Plain.TheVariants.{Heading, Subheading, Paragraph, Outside, ListStart, Item, ListEnd}

-- what a line says, or neighbouring lines together: words of a paragraph, items of a list, or a block of its own
pub data Part : Type 0 where
  Empty : Part
  Words : List ℕ → Part
  Items : List (List ℕ) → Part
  Contents : Part
  Single : Block → Part

-- what stands after the mark, without white space at its start
abbrev pub past : List ℕ → List ℕ → List ℕ
past mark line = trim_start (drop (length mark) line)

-- a text is one word, as the name of a page is
abbrev pub is_name : List ℕ → Bool
is_name text = not (length text == 0) && not (list_any is_whitespace (chars text))

-- a line is this mark and the name of a page
abbrev pub names : List ℕ → List ℕ → Bool
names mark line = begins mark line && is_name (past mark line)

-- a link to an address of another place, or else to the page of a name
abbrev pub linked : List ℕ → Block
linked target = if is_outside target then Plain (Outside target) else Link target

-- what a line says that has no white space at its start and its end
abbrev pub said : List ℕ → Part
said line =
    if length line == 0 then Empty
    else if bytes_eq line (codes "toc") then Contents
    else if begins (codes "# ") line then Single (Plain (Heading (past (codes "# ") line)))
    else if begins (codes "## ") line then Single (Plain (Subheading (past (codes "## ") line)))
    else if begins (codes "- ") line then Items (past (codes "- ") line ∷ [])
    else if names (codes "include ") line then Single (Include (past (codes "include ") line))
    else if names (codes "link ") line then Single (linked (past (codes "link ") line))
    else Words line

-- what a line says
abbrev pub part_of : List ℕ → Part
part_of line = said (trim line)

-- what each line of a source says
abbrev pub parts_of : List ℕ → List Part
parts_of source = map part_of (lines source)

-- a part before others: it joins the first of them if both are words, or both are items
abbrev pub put : Part → List Part → List Part
put (Words above) (Words below ∷ parts) = Words (above ++ codes "\n" ++ below) ∷ parts
put (Items above) (Items below ∷ parts) = Items (above ++ below) ∷ parts
put part parts = part ∷ parts

-- neighbours that belong together are joined
abbrev pub joined : List Part → List Part
joined [] = []
joined (part ∷ parts) = put part (joined parts)

-- the page that a line includes
abbrev pub included : Part → List (List ℕ)
included (Single (Include name)) = name ∷ []
included part = []

-- the pages that a source includes
abbrev pub pages_of : List ℕ → List (List ℕ)
pages_of source = flat_map included (parts_of source)

-- a list of these blocks
abbrev pub listed : List Block → List Block
listed blocks = Plain ListStart ∷ blocks ++ Plain ListEnd ∷ []

-- the blocks of a part, in a source that includes these pages
abbrev pub part_blocks : List (List ℕ) → Part → List Block
part_blocks pages Empty = []
part_blocks pages (Words words) = Plain (Paragraph words) ∷ []
part_blocks pages (Items items) = listed (map (λ words. Plain (Item words)) items)
part_blocks [] Contents = []
part_blocks (page ∷ pages) Contents = listed (map Entry (page ∷ pages))
part_blocks pages (Single block) = block ∷ []

-- the blocks of a source
abbrev pub blocks_of : List ℕ → List Block
blocks_of source = flat_map (part_blocks (pages_of source)) (joined (parts_of source))
