use Rattle.std.proofs.Common.{◌≡◌, ◌∙◌}
use Rattle.std.proofs.lemmas.List.Elements.{All-push}
use Rattle.comemo_branches.specs.declared.lanes.Lane.{Lane}
use Rattle.comemo_branches.proofs.lanes.deal.Goals as goal

pub loop-provider-preserved : goal.loop-provider-preserved
loop-provider-preserved g c = (c.in_ok-later.ensures.cut ∙ c.loop-provider.invariant.0, rw c.in_ok-push.ensures.items (All-push (λ (lane : Lane _ _ _ _ _ _ _). lane.takes ≡ c.args.turns) c.loop-provider.lanes.items _ c.loop-provider.invariant.1 (c.cut.ensures.same ∙ c.loop-provider.invariant.0)))
