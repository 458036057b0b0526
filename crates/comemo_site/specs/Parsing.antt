-- A source that is parsed in part: which part a line is, and which blocks are still to come.
use Rattle.std.specs.Prelude.{ℕ, List, [], ◌∷◌, ◌++◌, drop, string_bytes}
use Rattle.std.specs.List.{flat_map}
use Rattle.comemo_site.specs.Lines.{Part, joined, part_blocks}
use Rattle.comemo_site.specs.Lines as lines
use Rattle.comemo_site.specs.declared.block.Block.{Block}
use Rattle.comemo_site.specs.declared.block.Block.TheVariants as block
use Rattle.comemo_site.specs.declared.block.Plain.TheVariants as plain
use Rattle.comemo_site.specs.declared.parse.Line.{Line}
use Rattle.comemo_site.specs.declared.parse.Line.TheVariants.{Empty, Heading, Subheading, Item, Include, Link, Outside, Contents, Words}
use Rattle.comemo_site.specs.declared.parse.Unended.{Unended}
use Rattle.comemo_site.specs.declared.parse.Unended.TheVariants as unended
use Rattle.comemo_site.specs.declared.parse.Parser.{Parser}

-- the part that a line is
abbrev pub part_in : Line → Part
part_in Empty = lines.Empty
part_in (Heading words) = lines.Single (block.Plain (plain.Heading words.now))
part_in (Subheading words) = lines.Single (block.Plain (plain.Subheading words.now))
part_in (Item words) = lines.Items (words.now ∷ [])
part_in (Include name) = lines.Single (block.Include name.now)
part_in (Link name) = lines.Single (block.Link name.now)
part_in (Outside address) = lines.Single (block.Plain (plain.Outside address.now))
part_in Contents = lines.Contents
part_in (Words words) = lines.Words words.now

-- the blocks of parts
abbrev pub blocks_in : List (List ℕ) → List Part → List Block
blocks_in pages parts = flat_map (part_blocks pages) (joined parts)

-- the block that ends what has not ended: a paragraph of these words, or a list
abbrev pub ending : Unended → List ℕ → List Block
ending unended.Nothing words = []
ending unended.Paragraph words = block.Plain (plain.Paragraph words) ∷ []
ending unended.List words = block.Plain plain.ListEnd ∷ []

-- the rest of it and the blocks of the parts that follow
abbrev pub to_come : List (List ℕ) → Unended → List ℕ → List Part → List Block
to_come pages unended.Nothing words parts = blocks_in pages parts
to_come pages unended.Paragraph words parts = blocks_in pages (lines.Words words ∷ parts)
to_come pages unended.List words parts = drop 1 (blocks_in pages (lines.Items [] ∷ parts))

-- the blocks of a source that is parsed up to these parts
abbrev pub whole : List (List ℕ) → Parser → List Part → List Block
whole pages parser parts = parser.blocks.items ++ to_come pages parser.unended (string_bytes parser.words) parts
