use Rattle.std.proofs.Common.{◌≡◌, Option, IfSome}
use Rattle.std.proofs.lemmas.List.Elements.{All-set}
use Rattle.comemo_branches.specs.declared.takes.Waiting.{Waiting}
use Rattle.comemo_branches.proofs.waits.Waits.put.Goals as goal

pub invariant_of-self : goal.invariant_of-self
invariant_of-self g c = (c.self.invariant.0, All-set (λ (slot : Option (Waiting _ _ _ _ _ _)). IfSome slot (λ waits. waits.trail ≡ c.self.inside.of.now)) c.self.inside.asleep.items c.args.number c.replace.new.dest (rw (c.replace.ensures.after, c.self.view_is) c.requires) c.self.invariant.1)
