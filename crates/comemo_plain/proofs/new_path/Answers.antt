use Rattle.std.proofs.Common.{◌≡◌, ◌∙◌, ◌++◌, sym, ap, append-nil}
use Rattle.comemo_base.specs.Insertion.{outside}
use Rattle.comemo_plain.proofs.new_path.Goals as goal

pub returns-clause-path : goal.returns-clause-path
returns-clause-path g c =
    let prefix = c.in_ok-path.path.items in
    let whole : c.rest.path.items ≡ prefix ++ outside g.C.PartialEq.eq prefix c.args.sequence.pairs = sym (append-nil c.rest.path.items) ∙ ap (λ xs. c.rest.path.items ++ xs) (sym c.in_default.ensures.pairs.0) ∙ c.rest.invariant ∙ ap (λ xs. prefix ++ xs) c.in_ok-path.ensures.left in
    (prefix, c.in_ok-path.ensures.stem, whole)

pub returns-clause-apart : goal.returns-clause-apart
returns-clause-apart g c =
    let prefix = c.in_ok-path.path.items in
    let whole : c.rest.path.items ≡ prefix ++ outside g.C.PartialEq.eq prefix c.args.sequence.pairs = sym (append-nil c.rest.path.items) ∙ ap (λ xs. c.rest.path.items ++ xs) (sym c.in_default.ensures.pairs.0) ∙ c.rest.invariant ∙ ap (λ xs. prefix ++ xs) c.in_ok-path.ensures.left in
    λ j d l k. rw whole (c.in_ok-path.ensures.apart (outside g.C.PartialEq.eq prefix c.args.sequence.pairs) j d l k)
