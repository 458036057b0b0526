-- A site answers equal calls alike, and equal answers are one value.
use Rattle.std.specs.Prelude.{◌≡◌, List, String}
use Rattle.std.specs.Global.{Global}
use Rattle.std.specs.HashMap.{HashMap}
use Rattle.std.proofs.Common.{IsTrue, rules, refl}
use Rattle.std.specs.Cmp.Lexicographic.{same_text, nat_list_eq_equiv}
use Rattle.comemo.specs.Answers.{Respects}
use Rattle.comemo.proofs.Texts.{items_refl, items_same, respects_same}
use Rattle.comemo_text.specs.contracts.items.ItemsPartialEq.TheImpl as items
use Rattle.comemo_site.specs.Sites.{site_answer, title_in, blocks_in}
use Rattle.comemo_site.specs.declared.block.Block.{Block}
use Rattle.comemo_site.specs.declared.block.Plain.{Plain}
use Rattle.comemo_site.specs.declared.site.Page.{Page}
use Rattle.comemo_site.specs.declared.site.SiteAnswer.{SiteAnswer}
use Rattle.comemo_site.specs.declared.site.SiteAnswer.TheVariants.{Blocks}
use Rattle.comemo_site.specs.declared.site.SiteCall.{SiteCall}
use Rattle.comemo_site.specs.contracts.block.PlainPartialEq.TheImpl as plain
use Rattle.comemo_site.specs.contracts.block.Block as block_type
use Rattle.comemo_site.specs.contracts.block.BlockPartialEq.TheImpl as block
use Rattle.comemo_site.specs.contracts.site.SiteCallPartialEq.TheImpl as call
use Rattle.comemo_site.specs.contracts.site.SiteAnswerPartialEq.TheImpl as answer

plain_refl : (x : Plain) → IsTrue (plain.ghosts.eq x x)
plain_refl x = search (rules, nat_list_eq_equiv)

plain_same : (x y : Plain) → IsTrue (plain.ghosts.eq x y) → y ≡ x
plain_same x y h = search (rules, same_text)

-- lists of blocks
blocks_refl : (xs : List Block) → IsTrue ((items.ghosts block_type.the_row block.ghosts block.dict).eq xs xs)
blocks_refl = items_refl block.ghosts.eq (λ x. search (rules, nat_list_eq_equiv, plain_refl))

blocks_same : (xs ys : List Block) → IsTrue ((items.ghosts block_type.the_row block.ghosts block.dict).eq xs ys) → ys ≡ xs
blocks_same = items_same block.ghosts.eq (λ x y h. search (rules, same_text, plain_same))

pub answer_refl : (x : SiteAnswer) → IsTrue (answer.ghosts.eq x x)
answer_refl x = search (rules, nat_list_eq_equiv, blocks_refl)

pub answer_same : (x y : SiteAnswer) → IsTrue (answer.ghosts.eq x y) → y ≡ x
answer_same (Blocks xs) (Blocks ys) h = rw (blocks_same xs ys (search rules)) refl
answer_same x y h = search (rules, same_text)

pub any_alike : (m : SiteCall → SiteAnswer) → Respects call.ghosts.eq answer.ghosts.eq m
any_alike m = respects_same call.ghosts.eq answer.ghosts.eq (λ x y h. search (rules, same_text)) answer_refl m

pub site_alike : {H : Type 0} (pages : HashMap (String Global) Page H) → Respects call.ghosts.eq answer.ghosts.eq (site_answer pages)
site_alike pages = any_alike (site_answer pages)

pub title_alike : (x y : SiteAnswer) → IsTrue (answer.ghosts.eq x y) → title_in x ≡ title_in y
title_alike x y h = rw (answer_same x y h) refl

pub blocks_alike : (x y : SiteAnswer) → IsTrue (answer.ghosts.eq x y) → blocks_in x ≡ blocks_in y
blocks_alike x y h = rw (answer_same x y h) refl
