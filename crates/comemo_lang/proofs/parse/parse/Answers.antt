use Rattle.std.proofs.Common.{◌≡◌, ◌∙◌, ◌++◌, ◌≤◌, length, sym, ap, arith}
use Rattle.std.specs.List.{flat_map}
use Rattle.std.specs.Str.{trim}
use Rattle.std.specs.Str.Lines.{lines}
use Rattle.std.proofs.lemmas.Iterator.Consumers.{YieldsList-turn, YieldsList-end}
use Rattle.std.proofs.lemmas.Iterator.Splits.{YieldsList-from_lines}
use Rattle.std.proofs.lemmas.List.{take_all}
use Rattle.comemo_lang.specs.Syntax.{declared_by, parsed}
use Rattle.comemo_lang.proofs.Lists.{flat_map_turn}
use Rattle.comemo_lang.proofs.parse.parse.Goals as goal

pub returns : goal.returns
returns c =
    let text = c.args.text.now in
    let end = YieldsList-end (YieldsList-from_lines text (cc)) c.loop-line.yielded _ c.loop-line.yielded_by _ _ c.in-None.is c.next.ensures.steps in
    let past : length (lines text) ≤ length c.loop-line.yielded = omega (arith, end.1) in
    let all : c.loop-line.declarations.items ≡ parsed text = c.loop-line.invariant ∙ ap (flat_map (λ line. declared_by (trim line))) (take_all (length c.loop-line.yielded) (lines text) past) in
    rw all at c.new.ensures

pub loop-line-preserved : goal.loop-line-preserved
loop-line-preserved c =
    let text = c.args.text.now in
    let line = c.in-Some.line.now in
    let turn = YieldsList-turn (YieldsList-from_lines text (cc)) c.loop-line.yielded _ c.loop-line.yielded_by _ _ c.in-Some.line c.in-Some.is c.next.ensures.steps in
    c.in_ok-push_declaration.ensures ∙ ap (λ t. c.loop-line.declarations.items ++ declared_by t) c.trim.ensures.trim
    ∙ ap (λ d. d ++ declared_by (trim line)) c.loop-line.invariant
    ∙ sym (flat_map_turn (lines text) c.loop-line.yielded c.in-Some.line line turn (λ line. declared_by (trim line)))
