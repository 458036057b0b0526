use Rattle.std.proofs.Common.{rules, arith, ◌≡◌, ◌++◌, ◌-◌, [], suc}
use Rattle.std.proofs.lemmas.List.{take_all}
use Rattle.std.proofs.lemmas.List.Sums.{fold_more}
use Rattle.comemo.proofs.Recursions.{own_then}
use Rattle.comemo_site.specs.Pages.{block_html, page_html}
use Rattle.comemo_site.specs.SiteLaws.{blocks_alike}
use Rattle.comemo_site.specs.declared.site.SiteCall.TheVariants.{BlocksOf}
use Rattle.comemo_site.proofs.render.+rendering.Goals as goal

pub rendered-loop-block-preserved : goal.rendered-loop-block-preserved
rendered-loop-block-preserved g t c =
    own_then c.loop-block.invariant c.in_ok-part.ensures (λ m f before told.
    search (rules, fold_more (λ html block. html ++ block_html m (page_html m (c.args.limit - 1)) block) [] c.blocks-block-items.result.now c.loop-block.block-index c.block-item.result))

pub rendered-finish-requires-2-clause-right : goal.rendered-finish-requires-2-clause-right
rendered-finish-requires-2-clause-right g t c = λ m f.
    let deep : suc (c.args.limit - 1) ≡ c.args.limit = omega (arith, c.if-limit-eq0.false) in
    let asked = blocks_alike (m (BlocksOf c.args.name)) c.in_ok-answer.answer (search (rules, c.in_ok-answer.ensures.tells.told m (c.loop-block.invariant.before m f))) in
    rw (← deep, asked) (search (rules, take_all c.loop-block.block-index c.blocks-block-items.result.now c.loop-block-test.false, c.blocks-block-items.ensures, c.loop-block.invariant.told m f))
