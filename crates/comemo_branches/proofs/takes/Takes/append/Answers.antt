use Rattle.std.proofs.Common.{◌≡◌, ◌∙◌, sym, subst}
use Rattle.std.proofs.lemmas.List.Elements.{All-append}
use Rattle.std.specs.List.{All}
use Rattle.comemo_branches.proofs.takes.Takes.append.Goals as goal

pub invariant_of-self-2 : goal.invariant_of-self-2
invariant_of-self-2 g c =
    let same = c.other.view_is ∙ c.requires ∙ sym c.self.view_is in
    let others = subst (λ v. All (λ take. take ≡ v) c.other.inside.items.items) same c.other.invariant in
    rw c.in_ok-append.ensures.items (All-append (λ take. take ≡ c.self.inside.of.now) c.self.inside.items.items c.other.inside.items.items c.self.invariant others)
