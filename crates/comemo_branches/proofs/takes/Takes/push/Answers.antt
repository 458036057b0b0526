use Rattle.std.proofs.Common.{◌≡◌}
use Rattle.std.proofs.lemmas.List.Elements.{All-push}
use Rattle.comemo_branches.proofs.takes.Takes.push.Goals as goal

pub invariant_of-self : goal.invariant_of-self
invariant_of-self g c = rw c.in_err-push.ensures.items c.self.invariant

pub invariant_of-self-2 : goal.invariant_of-self-2
invariant_of-self-2 g c = rw c.in_ok-push.ensures.items (All-push (λ take. take ≡ c.self.inside.of.now) c.self.inside.items.items c.args.take c.self.invariant (rw c.self.view_is c.requires))
