use Rattle.std.proofs.Common.{◌∙◌, ◌++◌, ◌≤◌, sym, ap, length, arith}
use Rattle.std.specs.List.{flat_map}
use Rattle.std.specs.Str.Lines.{lines}
use Rattle.std.proofs.lemmas.Iterator.Consumers.{YieldsList-turn, YieldsList-end}
use Rattle.std.proofs.lemmas.Iterator.Splits.{YieldsList-from_lines}
use Rattle.std.proofs.lemmas.List.{length-map, take_all}
use Rattle.comemo_site.specs.Lines.{included, part_of, parts_of}
use Rattle.comemo_site.proofs.Lines.{flat_map_turn}
use Rattle.comemo_site.proofs.parse.pages_in.Goals as goal

pub returns : goal.returns
returns c =
    let source = c.args.source.now in
    let end = YieldsList-end (YieldsList-from_lines source (cc)) c.loop-line.yielded _ c.loop-line.yielded_by _ _ c.in-None.is c.next.ensures.steps in
    let all : length (parts_of source) ≤ length c.loop-line.yielded = omega (arith, length-map (lines source) part_of, end.1) in
    c.loop-line.invariant ∙ ap (flat_map included) (take_all (length c.loop-line.yielded) (parts_of source) all)

pub loop-line-preserved : goal.loop-line-preserved
loop-line-preserved c =
    let source = c.args.source.now in
    let turn = YieldsList-turn (YieldsList-from_lines source (cc)) c.loop-line.yielded _ c.loop-line.yielded_by _ _ c.in-Some.line c.in-Some.is c.next.ensures.steps in
    c.in_ok-push_page.ensures ∙ ap (λ pages. pages ++ included (part_of c.in-Some.line.now)) c.loop-line.invariant
    ∙ sym (flat_map_turn part_of (lines source) c.loop-line.yielded c.in-Some.line c.in-Some.line.now turn included)
