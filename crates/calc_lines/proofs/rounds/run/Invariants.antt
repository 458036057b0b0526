use Rattle.calc_lines.specs.Runs.{AnswersPrefix}
use Rattle.calc_lines.proofs.rounds.run.Given as goal

abbrev pub invariant-loop : goal.invariant-loop
invariant-loop g l =
    AnswersPrefix g.S.Session.answers g.S.Session.refuses (g.R.Read.remaining l.initial.reader) (g.R.Read.remaining l.reader)
    (g.W.Write.contents l.initial.writer) (g.W.Write.contents l.writer) l.initial.session l.session
