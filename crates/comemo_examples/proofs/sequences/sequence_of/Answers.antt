use Rattle.std.proofs.Common.{◌∙◌, [], sym, ap, arith, Result, Ok, Err, IfOk}
use Rattle.std.proofs.lemmas.List.{map-id}
use Rattle.std.proofs.lemmas.Iterator.{items_from_drains}
use Rattle.std.proofs.lemmas.Iterator.Adapters.{YieldsList-from_vec}
use Rattle.comemo_base.specs.Sequence.{absorbed}
use Rattle.comemo_examples.proofs.sequences.sequence_of.Goals as goal

IfOk-more : {A E : Type 0} (P Q : A → Type 0) (r : Result A E) → ((a : A) → P a → Q a) → IfOk r P → IfOk r Q
IfOk-more P Q (Ok a) more h = more a h
IfOk-more P Q (Err e) more h = tt

pub returns : goal.returns
returns g c =
    let v = c.args.pairs in
    IfOk-more _ _ c.from_pairs.result (λ s e. e.4.pairs ∙ ap (λ xs. absorbed g.C.PartialEq.eq [] xs) (sym (map-id e.1) ∙ items_from_drains e.1 (e.3.1.0, e.3.1.1, λ _. (e.3.0, e.3.1.2)) (YieldsList-from_vec v.items e.2.0 (omega (arith, e.2.1, v.ok.0))))) c.from_pairs.ensures
