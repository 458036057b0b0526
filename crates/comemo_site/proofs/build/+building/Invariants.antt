use Rattle.std.proofs.Common.{◌+◌, ◌*◌, take, Ok}
use Rattle.comemo.specs.FunctionMut.{lent}
use Rattle.comemo_site.specs.Pages.{in_turn, block_html, block_warnings, page_html, page_warnings}
use Rattle.comemo_site.specs.contracts.warns.ReadAndWriteSiteLogWarns.TheImpl as both
use Rattle.comemo_site.proofs.build.+building.Given as goal

abbrev pub decreases-built : goal.decreases-built
decreases-built g l = 3 * l.limit

abbrev pub decreases-block_built : goal.decreases-block_built
decreases-block_built g l = 3 * l.limit + 1

abbrev pub decreases-draft : goal.decreases-draft
decreases-draft g l = 3 * l.limit + 2

-- the text so far, and the warnings, are those of the blocks so far
abbrev pub invariant-draft-loop-block : goal.invariant-draft-loop-block
invariant-draft-loop-block g l = record {
  agrees : both.ghosts.agrees (lent l.both.value l.both.recording);
  tells : both.ghosts.tells (lent l.initial.both.value l.initial.both.recording) (lent l.both.value l.both.recording) (Ok l.html) (λ site. in_turn (block_html site (page_html site l.limit)) (take l.block-index l.block-items)) (λ site. in_turn (block_warnings site (page_warnings site l.limit)) (take l.block-index l.block-items));
}
