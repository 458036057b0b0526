use Rattle.std.proofs.Common.{rules, ◌≡◌, ◌∙◌, ◌++◌, true, false, is_some, not, ap, sym}
use Rattle.std.specs.Option.{option_to_list}
use Rattle.std.proofs.lemmas.Map.Made.{filter_same_pairs}
use Rattle.comemo_tree.specs.Marks.{has_node, linked, linked_option}
use Rattle.comemo_tree.specs.declared.children.Node.{Node}
use Rattle.comemo_tree.proofs.Passes.{linked_first, linked_others, sorted_filter}
use Rattle.comemo_tree.proofs.Rising.{taken_out}
use Rattle.comemo_tree.proofs.children.Children.retain.Goals as goal
use Rattle.comemo_tree.proofs.children.Children.retain.Goals.{in-Some-2, in-None-2}

pub invariant_of-self-else-is_none : goal.invariant_of-self-else-is_none
invariant_of-self-else-is_none g c =
    let more = filter_same_pairs _ (λ (p : _ × Node). has_node c.args.inner.now c.args.leaves.now p.1) _ (λ k v b w f' t. search rules) _ _ c.retain.ensures.filtered in
    let first = c.linked_pair.ensures ∙ ap (linked_option c.args.inner.now c.args.leaves.now) c.take.ensures.value in
    let sorted = sorted_filter (λ p. has_node c.args.inner.now c.args.leaves.now p.1) g.R.Ord.cmp (option_to_list c.self.inside.first ++ c.self.inside.more.entries) c.self.invariant.0 in
    (rw (first, more, linked_first c.args.inner.now c.args.leaves.now c.self.inside.first c.self.inside.more.entries) sorted, λ e. (let k : false ≡ true = sym (ap is_some e) ∙ c.is_none.ensures ∙ ap not c.if-is_none.false in cc))

pub returns-then-is_none : goal.returns-then-is_none
returns-then-is_none g c =
    let more = filter_same_pairs _ (λ (p : _ × Node). has_node c.args.inner.now c.args.leaves.now p.1) _ (λ k v b w f' t. search rules) _ _ c.retain.ensures.filtered in
    let first = c.linked_pair.ensures ∙ ap (linked_option c.args.inner.now c.args.leaves.now) c.take.ensures.value in
    let out = taken_out c.pop_first.result c.retain.new.self.entries c.pop_first.new.self.entries c.pop_first.ensures.removal c.pop_first.ensures.unchanged in
    let gone : is_some c.linked_pair.result ≡ false = c.is_none.ensures ∙ ap not c.if-is_none.true in
    let others = linked_others c.args.inner.now c.args.leaves.now c.self.inside.first c.self.inside.more.entries (ap is_some (sym first) ∙ gone) in
    let all : option_to_list c.pop_first.result ++ c.pop_first.new.self.entries ≡ linked c.args.inner.now c.args.leaves.now c.args.self.now = rw (← c.self.view_is) (out ∙ more ∙ others) in
    elim c.match-self-pop_first.branch [
      | in-Some-2 w ↦ w.self-is ∙ all
      | in-None-2 w ↦ w.self-is ∙ all
    ]

pub returns-else-is_none : goal.returns-else-is_none
returns-else-is_none g c =
    let more = filter_same_pairs _ (λ (p : _ × Node). has_node c.args.inner.now c.args.leaves.now p.1) _ (λ k v b w f' t. search rules) _ _ c.retain.ensures.filtered in
    let first = c.linked_pair.ensures ∙ ap (linked_option c.args.inner.now c.args.leaves.now) c.take.ensures.value in
    rw (first, more, ← c.self.view_is) (linked_first c.args.inner.now c.args.leaves.now c.self.inside.first c.self.inside.more.entries)
