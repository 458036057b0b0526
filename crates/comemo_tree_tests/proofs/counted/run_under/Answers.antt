use Rattle.std.proofs.Common.{◌∙◌, sym, ap}
use Rattle.comemo_tree_tests.specs.CountedCalls.{bound_of}
use Rattle.comemo_tree_tests.proofs.Drafts.{IsRun-from_draft}
use Rattle.comemo_tree_tests.proofs.counted.run_under.Goals as goal

pub end-requires-clause-asked : goal.end-requires-clause-asked
end-requires-clause-asked c = λ m g.
    c.bound_at-bound.ensures ∙ ap (bound_of c.args.key) (sym (c.in_ok-ask.ensures.told c.if-not-branch.false m g))

pub returns : goal.returns
returns c =
    IsRun-from_draft c.args.key c.bound_at-bound.result c.end.new.run c.end.ensures.draft (λ m g. c.bound_at-bound.ensures ∙ ap (bound_of c.args.key) (sym (c.in_ok-ask.ensures.told c.if-not-branch.false m (c.end.ensures.agrees m g)))) c.in_ok-end.ensures.whole
