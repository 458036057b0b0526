use Rattle.std.proofs.Common.{◌∙◌, [], length, refl, sym, ap, subst}
use Rattle.comemo_tree.specs.declared.children.Node.TheVariants.{Inner, Leaf}
use Rattle.comemo_tree.specs.Growth.{Begins}
use Rattle.comemo_tree.proofs.Planting.{Grown-leaf, Grown-moved, first_inner}
use Rattle.comemo_tree.proofs.insertion.plant.Goals as goal

pub returns-in_default : goal.returns-in_default
returns-in_default g c =
    let put = c.requires.put in
    let nothing = c.in_default.ensures.pairs.0 in
    let begins = subst (λ xs. Begins c.args.inner.now c.args.leaves.now (length xs) put.0.first) nothing put.1 in
    let first = begins ∙ ap Leaf (sym c.insert_reserved.ensures.key) in
    let new = Grown-leaf g.met.K.Eq.laws c.requires.forest c.args.starts.now c.args.key.value put.0 c.requires.new put.2 c.insert_reserved.result _ first c.insert_reserved.ensures.was_vacant c.insert_reserved.ensures.updates refl refl refl c.args.value refl in
    Grown-moved refl refl (sym nothing) new

pub grow-requires-clause-grows : goal.grow-requires-clause-grows
grow-requires-clause-grows g c =
    let put = c.requires.put in
    let cut = c.in-Some.ensures.pairs in
    let begins = subst (λ xs. Begins c.args.inner.now c.args.leaves.now (length xs) put.0.first) cut put.1 in
    let first = begins ∙ ap Inner (sym c.insert_reserved-id.ensures.key) in
    let f = first_inner g.met.K.Eq.laws c.requires.forest c.args.starts.now c.args.key.value put.0 c.requires.new put.2 c.insert_reserved-id.result _ first c.insert_reserved-id.ensures.was_vacant c.insert_reserved-id.ensures.updates c.new.ensures refl refl refl c.in-Some.answer c.next.new.self.pairs (rw cut at c.reveal_distinct_calls.ensures.distinct) in
    f.0

pub returns : goal.returns
returns g c =
    let put = c.requires.put in
    let cut = c.in-Some.ensures.pairs in
    let begins = subst (λ xs. Begins c.args.inner.now c.args.leaves.now (length xs) put.0.first) cut put.1 in
    let first = begins ∙ ap Inner (sym c.insert_reserved-id.ensures.key) in
    let f = first_inner g.met.K.Eq.laws c.requires.forest c.args.starts.now c.args.key.value put.0 c.requires.new put.2 c.insert_reserved-id.result _ first c.insert_reserved-id.ensures.was_vacant c.insert_reserved-id.ensures.updates c.new.ensures refl refl refl c.in-Some.answer c.next.new.self.pairs (rw cut at c.reveal_distinct_calls.ensures.distinct) in
    Grown-moved f.3 refl (sym cut) (c.in-Ok.ensures.grown _ [] f.1 f.2)
