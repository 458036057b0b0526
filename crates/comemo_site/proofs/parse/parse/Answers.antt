use Rattle.std.proofs.Common.{◌∙◌, ◌++◌, ◌∷◌, [], ◌≤◌, length, drop, sym, ap, arith}
use Rattle.std.specs.Str.Lines.{lines}
use Rattle.std.proofs.lemmas.Iterator.Consumers.{YieldsList-turn, YieldsList-end}
use Rattle.std.proofs.lemmas.Iterator.Splits.{YieldsList-from_lines}
use Rattle.std.proofs.lemmas.List.{at_drop_all, length-map}
use Rattle.comemo_site.specs.Lines.{pages_of, part_of, parts_of}
use Rattle.comemo_site.specs.Parsing.{whole}
use Rattle.comemo_site.proofs.Lines.{drop_turn, whole_end}
use Rattle.comemo_site.proofs.parse.parse.Goals as goal

pub loop-line-preserved : goal.loop-line-preserved
loop-line-preserved c =
    let source = c.args.source.now in
    let turn = YieldsList-turn (YieldsList-from_lines source (cc)) c.loop-line.yielded _ c.loop-line.yielded_by _ _ c.in-Some.line c.in-Some.is c.next.ensures.steps in
    let left = drop (length (c.loop-line.yielded ++ c.in-Some.line ∷ [])) (parts_of source) in
    c.in_ok-push_line.ensures left ∙ ap (λ part. whole (pages_of source) c.loop-line.parser (part ∷ left)) c.line_of.ensures
    ∙ ap (whole (pages_of source) c.loop-line.parser) (sym (drop_turn part_of (lines source) c.loop-line.yielded c.in-Some.line c.in-Some.line.now turn)) ∙ c.loop-line.invariant

pub returns-clause-body : goal.returns-clause-body
returns-clause-body c =
    let source = c.args.source.now in
    let end = YieldsList-end (YieldsList-from_lines source (cc)) c.loop-line.yielded _ c.loop-line.yielded_by _ _ c.in-None.is c.next.ensures.steps in
    let all : length (parts_of source) ≤ length c.loop-line.yielded = omega (arith, length-map (lines source) part_of, end.1) in
    c.in_ok-blocks.ensures ∙ c.in_ok-end.ensures.appended ∙ sym (whole_end (pages_of source) c.loop-line.parser)
    ∙ sym (at_drop_all (whole (pages_of source) c.loop-line.parser) (parts_of source) (length c.loop-line.yielded) all) ∙ c.loop-line.invariant
