use Rattle.std.proofs.Common.{rules, arith, ◌≡◌, ◌∙◌, ◌+◌, ◌-◌, ◌++◌, [], None, Some, suc, map, refl, subst}
use Rattle.std.proofs.lemmas.List.{take_all}
use Rattle.std.proofs.lemmas.List.Sums.{fold_more}
use Rattle.comemo.specs.Multi.{second_call}
use Rattle.comemo.proofs.RecursionsMut.{within_goes, called, wrote, writes_both, writes_as, writes_to, failed_after, stopped_after, memory_after, right_alone, writes_nothing}
use Rattle.comemo_site.proofs.Steps.{printed, printed_both}
use Rattle.comemo_site.specs.Pages.{in_turn, block_html, block_warnings, page_html, page_warnings}
use Rattle.comemo_site.specs.SiteLaws.{blocks_alike}
use Rattle.comemo_site.specs.Sites.{blocks_in}
use Rattle.comemo_site.specs.declared.site.SiteCall.TheVariants.{BlocksOf}
use Rattle.comemo_site.proofs.build.+building.Goals as goal

pub built-finish-requires-clause-right : goal.built-finish-requires-clause-right
built-finish-requires-clause-right g t c =
    let deep : c.args.limit - 1 + 1 ≡ c.args.limit = omega (arith, c.if-limit-eq0.false) in
    rw deep at (right_alone c.draft-ran.result c.draft-ran.ensures.tells (rw c.in-Run.is at c.in_ok-html.ensures.begins).writes)

pub built-returns-clause-agrees : goal.built-returns-clause-agrees
built-returns-clause-agrees g t c = c.finish.ensures.agrees _ (within_goes (rw c.in-Run.is at c.in_ok-html.ensures.tells) c.draft-ran.ensures.tells.goes)

pub built-returns-clause-tells : goal.built-returns-clause-tells
built-returns-clause-tells g t c = c.finish.ensures.tells _ (within_goes (rw c.in-Run.is at c.in_ok-html.ensures.tells) c.draft-ran.ensures.tells.goes)

pub draft-returns-in_err-write_part : goal.draft-returns-in_err-write_part
draft-returns-in_err-write_part g t c = record {
  agrees = c.in_err-write_part.ensures.agrees;
  tells = failed_after (called c.in_ok-blocks.ensures.tells c.in_ok-blocks.ensures.writes) c.in_err-write_part.field-0.0 c.from_residual-in_err-write_part.result c.in_err-write_part.ensures.tells c.from_residual-in_err-write_part.ensures.1;
}

pub draft-returns-in_default : goal.draft-returns-in_default
draft-returns-in_default g t c =
    let next : c.args.limit + 1 ≡ suc c.args.limit = omega arith in
    let none : blocks_in c.in_ok-blocks.field-0 ≡ None = search (rules, c.in_default.not-Blocks) in
    let all = writes_both (called c.in_ok-blocks.ensures.tells c.in_ok-blocks.ensures.writes) _ (wrote c.in_ok-write_part.ensures.tells _ _ _ c.in_ok-write_part.ensures.sent) in
    record {
      agrees = c.in_ok-write_part.ensures.agrees;
      tells = writes_to all (λ m W f k. printed m (λ site p.
          let asked = blocks_alike (site (BlocksOf c.args.name.now)) c.in_ok-blocks.field-0 (search (rules, k.3.1 site p)) ∙ none in
          rw (k.2, k.3.0, k.4, next, asked) (search (rules, c.new.ensures))));
    }

pub draft-returns-in_err-part-clause-tells : goal.draft-returns-in_err-part-clause-tells
draft-returns-in_err-part-clause-tells g t c = stopped_after (writes_both (called c.in_ok-blocks.ensures.tells c.in_ok-blocks.ensures.writes) _ c.loop-block.invariant.tells) c.in_err-part.field-0.0 c.from_residual-in_err-part.result c.in_err-part.ensures.tells c.from_residual-in_err-part.ensures.1

pub draft-returns-in_err-push-clause-tells : goal.draft-returns-in_err-push-clause-tells
draft-returns-in_err-push-clause-tells g t c = memory_after (writes_both (called c.in_ok-blocks.ensures.tells c.in_ok-blocks.ensures.writes) _ (writes_both c.loop-block.invariant.tells _ c.in_ok-part.ensures.tells)) c.from_residual-in_err-push.result (search (rules, c.from_residual-in_err-push.ensures))

pub draft-returns-in_err-finish-clause-tells : goal.draft-returns-in_err-finish-clause-tells
draft-returns-in_err-finish-clause-tells g t c = memory_after (writes_both (called c.in_ok-blocks.ensures.tells c.in_ok-blocks.ensures.writes) _ c.loop-block.invariant.tells) c.from_residual-in_err-finish.result (search (rules, c.from_residual-in_err-finish.ensures))

pub draft-loop-block-preserved : goal.draft-loop-block-preserved
draft-loop-block-preserved g t c = record {
  agrees = c.in_ok-part.ensures.agrees;
  tells = writes_to (printed_both _ _ c.loop-block.invariant.tells c.in_ok-part.ensures.tells) (λ m W f k. (
    λ site p. search (rules, fold_more (λ them block. them ++ block_warnings site (page_warnings site c.args.limit) block) [] c.as_slice-block-items.result.now c.loop-block.block-index c.block-item.result, k.0 site p),
    λ site p. search (rules, fold_more (λ html block. html ++ block_html site (page_html site c.args.limit) block) [] c.as_slice-block-items.result.now c.loop-block.block-index c.block-item.result, k.1 site p),
  ));
}

pub draft-returns-clause-tells : goal.draft-returns-clause-tells
draft-returns-clause-tells g t c =
    let next : c.args.limit + 1 ≡ suc c.args.limit = omega arith in
    let are : blocks_in c.in_ok-blocks.field-0 ≡ Some c.in-Blocks.blocks = rw c.in-Blocks.is refl in
    let every = take_all c.loop-block.block-index c.as_slice-block-items.result.now c.loop-block-test.false ∙ c.as_slice-block-items.ensures in
    writes_to (writes_both (called c.in_ok-blocks.ensures.tells c.in_ok-blocks.ensures.writes) _ c.loop-block.invariant.tells) (λ m W f k. printed m (λ site p.
    let asked = blocks_alike (site (BlocksOf c.args.name.now)) c.in_ok-blocks.field-0 (search (rules, k.3.1 site p)) ∙ are in
    let done = subst (λ blocks. (c.loop-block.html ≡ in_turn (block_html site (page_html site c.args.limit)) blocks) × (k.1 ≡ map second_call (in_turn (block_warnings site (page_warnings site c.args.limit)) blocks))) every (k.4.1 site p, k.4.0 site p) in
    rw (k.2, k.3.0, next, asked, c.in_ok-finish.ensures) done))

pub block_built-returns-in_ok-clone-in-Include-clause-tells : goal.block_built-returns-in_ok-clone-in-Include-clause-tells
block_built-returns-in_ok-clone-in-Include-clause-tells g t c = writes_as c.built.result c.built.ensures.tells (λ x m W f h. printed m (λ site p. search (rules, h.0 site p, h.1 site p)))

pub block_built-returns-in-Link-clause-tells : goal.block_built-returns-in-Link-clause-tells
block_built-returns-in-Link-clause-tells g t c = writes_as c.link_built.result c.link_built.ensures.tells (λ x m W f h. printed m (λ site p. search (rules, h.0 site p, h.1 site p)))

pub block_built-returns-in-Entry-clause-tells : goal.block_built-returns-in-Entry-clause-tells
block_built-returns-in-Entry-clause-tells g t c = writes_as c.entry_built.result c.entry_built.ensures.tells (λ x m W f h. printed m (λ site p. search (rules, h.0 site p, h.1 site p)))

pub block_built-returns-in_ok-of_plain-in-Plain-clause-tells : goal.block_built-returns-in_ok-of_plain-in-Plain-clause-tells
block_built-returns-in_ok-of_plain-in-Plain-clause-tells g t c = writes_nothing _ _ (λ m f. printed m (λ site p. (search (rules, c.in_ok-of_plain-in-Plain.ensures), search rules)))
