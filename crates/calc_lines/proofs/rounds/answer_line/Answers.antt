use Rattle.std.proofs.Common.{rules, ◌≡◌, ◌<◌, length}
use Rattle.std.proofs.lemmas.List.{nil_from_length}
use Rattle.calc_lines.proofs.Steps.{line_empty, line_answered, line_refused}
use Rattle.calc_lines.proofs.rounds.answer_line.Goals as goal

pub returns-then-is_empty-clause-answered : goal.returns-then-is_empty-clause-answered
returns-then-is_empty-clause-answered g c =
    let none : length c.args.line.now ≡ 0 = search rules in
    line_empty g.S.Session.answers g.S.Session.refuses c.args.line.now _ _ (nil_from_length c.args.line.now none)

pub returns-in-Ok-clause-answered : goal.returns-in-Ok-clause-answered
returns-in-Ok-clause-answered g c =
    let some : 0 < length c.args.line.now = search rules in
    line_answered g.S.Session.answers g.S.Session.refuses c.args.line.now _ _ _ _ _ _ _ some c.utf8.line c.in-Ok.ensures.ok c.as_bytes.ensures.value c.put.ensures.written

pub returns-in-Err-clause-answered : goal.returns-in-Err-clause-answered
returns-in-Err-clause-answered g c =
    let some : 0 < length c.args.line.now = search rules in
    line_refused g.S.Session.answers g.S.Session.refuses c.args.line.now _ _ _ _ _ some c.utf8.line c.in-Err.ensures.refused c.put-in-Err.ensures.written
