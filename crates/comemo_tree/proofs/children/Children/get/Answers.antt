use Rattle.std.proofs.Common.{◌∙◌, sym}
use Rattle.comemo_tree.proofs.Rising.{before, found_after}
use Rattle.comemo_tree.proofs.children.Children.get.Goals as goal

pub returns-in-Less : goal.returns-in-Less
returns-in-Less g c =
    let s = rw c.in-Some.is at c.self.invariant.0 in
    rw (← c.self.view_is, c.in-Some.is) (sym (before g.met.R.Ord.total g.met.R.Ord.matches_eq c.args.answer.now (c.in-Some.first, c.in-Some.node) c.self.inside.more.entries s (sym c.cmp.ensures ∙ c.in-Less.is)))

pub returns-in-Greater : goal.returns-in-Greater
returns-in-Greater g c =
    rw (← c.self.view_is, c.in-Some.is) (c.copied.ensures ∙ c.get.ensures.value ∙ found_after g.met.R.Ord.total g.met.R.Ord.matches_eq c.args.answer.now (c.in-Some.first, c.in-Some.node) c.self.inside.more.entries (sym c.cmp.ensures ∙ c.in-Greater.is))
