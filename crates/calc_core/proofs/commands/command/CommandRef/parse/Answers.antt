use Rattle.std.proofs.Common.{arith, rules, refl, sym, ◌∙◌}
use Rattle.std.proofs.lemmas.Bool.{eqb-false}
use Rattle.calc_core.proofs.Words.{write_of}
use Rattle.calc_core.proofs.commands.command.CommandRef.parse.Goals as goal

pub returns-in-Some : goal.returns-in-Some
returns-in-Some c =
    let some = eqb-false _ 0 (sym c.is_empty.ensures ∙ c.if-is_empty.false) in
    write_of _ c.in-Some.rest _ _ _ _ _ (search rules) refl c.split_once.ensures.cases c.unwrap_or.ensures refl refl (omega (arith, some))

pub returns : goal.returns
returns c = search rules
