use Rattle.std.proofs.Common.{◌≡◌, drop}
use Rattle.comemo_site.specs.Sources.{title_of}
use Rattle.comemo_site.proofs.parse.title_in_blocks.Given as goal

abbrev pub invariant-loop-block : goal.invariant-loop-block
invariant-loop-block l = title_of l.name l.blocks ≡ title_of l.name (drop l.block-index l.blocks)
