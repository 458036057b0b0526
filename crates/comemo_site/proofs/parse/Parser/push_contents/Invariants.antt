use Rattle.std.proofs.Common.{◌≡◌, ◌++◌, map}
use Rattle.comemo_site.specs.declared.block.Block.TheVariants.{Entry}
use Rattle.comemo_site.specs.declared.parse.Unended.TheVariants.{Nothing}
use Rattle.comemo_site.proofs.parse.Parser.push_contents.Given as goal

abbrev pub invariant-loop-page : goal.invariant-loop-page
invariant-loop-page l =
    (l.self.blocks.items ≡ l.initial.self.blocks.items ++ map Entry l.yielded) × (l.self.unended ≡ Nothing)
