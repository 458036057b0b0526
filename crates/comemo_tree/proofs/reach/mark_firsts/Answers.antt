use Rattle.std.proofs.Common.{sym, ap, ◌∙◌, length, option_copied}
use Rattle.comemo_tree.proofs.Reaching.{IsMarkedUpTo-skip, IsMarkedUpTo-step, first_within}
use Rattle.comemo_tree.proofs.reach.mark_firsts.Goals as goal

pub nodes-preserved-then-not-contains : goal.nodes-preserved-then-not-contains
nodes-preserved-then-not-contains g c = record {
  marks = IsMarkedUpTo-skip c.args.inner.now g.C.PartialEq.eq c.args.calls.now c.nodes.marks.items c.nodes.at c.in-Some.node.now c.nodes.invariant.marks (sym c.get.ensures ∙ ap option_copied c.in-Some.is) (sym c.contains.ensures.value ∙ c.if-not-contains.true);
}

pub nodes-preserved : goal.nodes-preserved
nodes-preserved g c = record {
  marks = IsMarkedUpTo-step c.args.inner.now g.C.PartialEq.eq c.args.calls.now c.nodes.marks.items c.nodes.at c.in-Some.node.now c.first_above-first.result c.nodes.invariant.marks (sym c.get.ensures ∙ ap option_copied c.in-Some.is) (sym c.contains.ensures.value ∙ c.if-not-contains.false) c.first_above-first.ensures.first (first_within c.args.inner.now c.first_above-first.result (length c.nodes.marks.items) c.first_above-first.ensures.there c.nodes.invariant.marks.len);
}
