use Rattle.std.proofs.Common.{◌∙◌, IsUtf8, rules, subst, sym}
use Rattle.calc_lines.proofs.Steps.{prefix_none, prefix_more, stopped_in_read}
use Rattle.calc_lines.proofs.rounds.run.Goals as goal

pub loop-init : goal.loop-init
loop-init g c = prefix_none g.S.Session.answers g.S.Session.refuses _ _ _

pub loop-preserved : goal.loop-preserved
loop-preserved g c =
    let next = c.in_ok-is_there.ensures.line (search rules) in
    prefix_more g.S.Session.answers g.S.Session.refuses _ _ _ _ _ _ _ _ _ _ c.in-Ok.text.now c.loop.invariant next
    (c.in-Ok.ensures.cases.0 ∙ c.as_slice.ensures.value) c.in_ok-answer_line.ensures.answered

pub returns-in_default : goal.returns-in_default
returns-in_default g c =
    let next = c.in_ok-is_there.ensures.line (search rules) in
    (_, _, c.loop.invariant, next, λ utf8. c.in_default.ensures.cases.0 (subst IsUtf8 (sym c.as_slice.ensures.value) utf8))

pub returns-in_err-is_there : goal.returns-in_err-is_there
returns-in_err-is_there g c =
    let failed = c.in_err-is_there.ensures in
    stopped_in_read g.S.Session.answers g.S.Session.refuses _ _ _ _ _ _ c.from_residual.result _ c.from_residual.ensures.1 failed.fault (_, c.loop.invariant, failed.begun)
