use Rattle.std.proofs.Common.{sym, ap, ◌∙◌}
use Rattle.std.specs.Str.{trim}
use Rattle.calc_core.specs.Parts.{left}
use Rattle.calc_core.proofs.Cuts.{parts_first, parts_last}
use Rattle.calc_core.proofs.scripts.part.Parts.next.Goals as goal

pub returns-in-Some : goal.returns-in-Some
returns-in-Some c = (
  trim c.in-Some.part.now,
  sym c.self.view_is ∙ ap left c.in_ok-text.was ∙ parts_first c.in_ok-text.text.now (c.in-Some.part, c.in-Some.rest) c.in-Some.ensures.cases,
  c.of.ensures,
)

pub returns-in-None : goal.returns-in-None
returns-in-None c = (
  trim c.in_ok-text.text.now,
  sym c.self.view_is ∙ ap left c.in_ok-text.was ∙ parts_last c.in_ok-text.text.now c.in-None.ensures.cases,
  c.of-in-None.ensures,
)
