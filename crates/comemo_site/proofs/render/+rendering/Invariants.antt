use Rattle.std.proofs.Common.{◌≡◌, ◌+◌, ◌-◌, ◌*◌, take, Ok}
use Rattle.comemo.specs.Function.{Fits}
use Rattle.comemo.specs.Recursive.{TellsOwn}
use Rattle.comemo_site.specs.Pages.{in_turn, block_html, page_html}
use Rattle.comemo_site.specs.contracts.site.SiteCallPartialEq.TheImpl as call
use Rattle.comemo_site.specs.contracts.site.SiteAnswerPartialEq.TheImpl as answer
use Rattle.comemo_site.proofs.render.+rendering.Given as goal

abbrev pub decreases-rendered : goal.decreases-rendered
decreases-rendered g l = 2 * l.limit

abbrev pub decreases-block_rendered : goal.decreases-block_rendered
decreases-block_rendered g l = 2 * l.limit + 1

abbrev pub invariant-rendered-loop-block : goal.invariant-rendered-loop-block
invariant-rendered-loop-block g l = TellsOwn (Fits call.ghosts.eq answer.ghosts.eq) l.initial.recorder l.recorder (Ok l.html) (λ html m. html ≡ in_turn (block_html m (page_html m (l.limit - 1))) (take l.block-index l.block-items))
