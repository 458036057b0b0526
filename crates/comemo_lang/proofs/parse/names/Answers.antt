use Rattle.std.proofs.Common.{◌≡◌, ◌∙◌, ◌++◌, ◌≤◌, length, sym, ap, arith, lit<}
use Rattle.std.specs.List.{flat_map, slice_split}
use Rattle.std.specs.Str.{trim}
use Rattle.std.proofs.lemmas.Iterator.Consumers.{YieldsList-turn, YieldsList-end}
use Rattle.std.proofs.lemmas.Iterator.Splits.{YieldsList-from_str_split}
use Rattle.std.proofs.lemmas.List.{take_all}
use Rattle.comemo_lang.specs.Syntax.{is_plus, named, names_in}
use Rattle.comemo_lang.proofs.Lists.{flat_map_turn}
use Rattle.comemo_lang.proofs.parse.names.Goals as goal

pub returns : goal.returns
returns c =
    let text = c.args.expression.now in
    let end = YieldsList-end (YieldsList-from_str_split 43 text (lit< tt) (cc) (cc) (cc)) c.loop-term.yielded _ c.loop-term.yielded_by _ _ c.in-None.is c.next.ensures.steps in
    let past : length (slice_split is_plus text) ≤ length c.loop-term.yielded = omega (arith, end.1) in
    let all : c.loop-term.names.items ≡ names_in text = c.loop-term.invariant ∙ ap (flat_map (λ term. named (trim term))) (take_all (length c.loop-term.yielded) (slice_split is_plus text) past) in
    rw all at c.new.ensures

pub loop-term-preserved : goal.loop-term-preserved
loop-term-preserved c =
    let text = c.args.expression.now in
    let term = c.in-Some.term.now in
    let turn = YieldsList-turn (YieldsList-from_str_split 43 text (lit< tt) (cc) (cc) (cc)) c.loop-term.yielded _ c.loop-term.yielded_by _ _ c.in-Some.term c.in-Some.is c.next.ensures.steps in
    c.in_ok-push_name.ensures ∙ ap (λ t. c.loop-term.names.items ++ named t) c.trim.ensures.trim
    ∙ ap (λ d. d ++ named (trim term)) c.loop-term.invariant
    ∙ sym (flat_map_turn (slice_split is_plus text) c.loop-term.yielded c.in-Some.term term turn (λ term. named (trim term)))
