use Rattle.std.proofs.Common.{◌≡◌, ◌∙◌, None, Option, IfSome}
use Rattle.std.proofs.lemmas.List.Elements.{All-push}
use Rattle.comemo_branches.specs.declared.takes.Waiting.{Waiting}
use Rattle.comemo_branches.proofs.waits.Waits.number_of.Goals as goal

pub invariant_of-self-in_err-push-2 : goal.invariant_of-self-in_err-push-2
invariant_of-self-in_err-push-2 g c = (c.push-2.ensures ∙ c.self.invariant.0, rw c.in_ok-push.ensures.items (All-push (λ (slot : Option (Waiting _ _ _ _ _ _)). IfSome slot (λ waits. waits.trail ≡ c.self.inside.of.now)) c.self.inside.asleep.items None c.self.invariant.1 tt))

pub invariant_of-self-2 : goal.invariant_of-self-2
invariant_of-self-2 g c = (c.push-2.ensures ∙ c.self.invariant.0, rw c.in_ok-push.ensures.items (All-push (λ (slot : Option (Waiting _ _ _ _ _ _)). IfSome slot (λ waits. waits.trail ≡ c.self.inside.of.now)) c.self.inside.asleep.items None c.self.invariant.1 tt))
