use Rattle.std.proofs.Common.{◌≡◌, ◌∙◌, ◌∷◌, sym, ap, arith, Some, refl}
use Rattle.std.specs.BTreeMap.{insert_entry}
use Rattle.comemo_tree.proofs.Rising.{greater, less, sorted_one, sorted_first, put_least, put_after, sorted_after}
use Rattle.comemo_tree.proofs.children.Children.insert.Goals as goal

pub invariant_of-self : goal.invariant_of-self
invariant_of-self g c =
    let none = c.self.invariant.1 c.in_default.is in
    (sorted_one g.met.R.Ord.total g.met.R.Ord.matches_eq c.args.answer c.args.node c.self.inside.more.entries none, λ e. none)

pub invariant_of-self-in-Ok : goal.invariant_of-self-in-Ok
invariant_of-self-in-Ok g c =
    let former : c.unwrap-former.result ≡ (c.in-Some.first, c.in-Some.field-0-1) = (let k : Some c.unwrap-former.result ≡ Some (c.in-Some.first, c.in-Some.field-0-1) = sym c.unwrap-former.ensures ∙ c.replace.ensures.value ∙ c.in-Some.is in cc) in
    let sorted = rw c.in-Some.is at c.self.invariant.0 in
    let put : c.insert.new.self.entries ≡ (c.in-Some.first, c.in-Some.field-0-1) ∷ c.self.inside.more.entries = c.in-Ok.ensures.entries ∙ ap (λ (p : _ × _). insert_entry g.R.Ord.cmp c.self.inside.more.entries p.0 p.1) former ∙ put_least g.met.R.Ord.total g.met.R.Ord.matches_eq (c.in-Some.first, c.in-Some.field-0-1) c.self.inside.more.entries sorted in
    rw (c.replace.ensures.after, put) (sorted_first g.met.R.Ord.total g.met.R.Ord.matches_eq c.args.answer c.args.node (c.in-Some.first, c.in-Some.field-0-1) c.self.inside.more.entries sorted (sym c.cmp.ensures ∙ less c.cmp.result (sym c.is_lt.ensures ∙ c.if-is_lt.true)), λ e. cc)

pub returns-in-Ok-clause-added : goal.returns-in-Ok-clause-added
returns-in-Ok-clause-added g c =
    let former : c.unwrap-former.result ≡ (c.in-Some.first, c.in-Some.field-0-1) = (let k : Some c.unwrap-former.result ≡ Some (c.in-Some.first, c.in-Some.field-0-1) = sym c.unwrap-former.ensures ∙ c.replace.ensures.value ∙ c.in-Some.is in cc) in
    let sorted = rw c.in-Some.is at c.self.invariant.0 in
    let put : c.insert.new.self.entries ≡ (c.in-Some.first, c.in-Some.field-0-1) ∷ c.self.inside.more.entries = c.in-Ok.ensures.entries ∙ ap (λ (p : _ × _). insert_entry g.R.Ord.cmp c.self.inside.more.entries p.0 p.1) former ∙ put_least g.met.R.Ord.total g.met.R.Ord.matches_eq (c.in-Some.first, c.in-Some.field-0-1) c.self.inside.more.entries sorted in
    rw (c.replace.ensures.after, put, ← c.self.view_is, c.in-Some.is) (0, omega arith, refl)

pub invariant_of-self-2 : goal.invariant_of-self-2
invariant_of-self-2 g c =
    let none = rw (← c.self.view_is, c.in-Some.is) at c.requires in
    let sorted = rw c.in-Some.is at c.self.invariant.0 in
    let above = greater g.met.R.Ord.total g.met.R.Ord.matches_eq c.args.answer (c.in-Some.first, c.in-Some.field-0-1) c.self.inside.more.entries c.cmp.result (sym c.cmp.ensures) (sym c.is_lt.ensures ∙ c.if-is_lt.false) none in
    let rest = rw c.in_ok-insert.ensures.entries at c.insert-2.ensures.ordered in
    rw (c.in-Some.is, c.in_ok-insert.ensures.entries) (sorted_after g.met.R.Ord.total g.met.R.Ord.matches_eq c.args.answer c.args.node (c.in-Some.first, c.in-Some.field-0-1) c.self.inside.more.entries sorted above rest, λ e. cc)

pub returns-clause-added : goal.returns-clause-added
returns-clause-added g c =
    let none = rw (← c.self.view_is, c.in-Some.is) at c.requires in
    let above = greater g.met.R.Ord.total g.met.R.Ord.matches_eq c.args.answer (c.in-Some.first, c.in-Some.field-0-1) c.self.inside.more.entries c.cmp.result (sym c.cmp.ensures) (sym c.is_lt.ensures ∙ c.if-is_lt.false) none in
    rw (← c.self.view_is, c.in-Some.is, c.in_ok-insert.ensures.entries) (put_after g.met.R.Ord.total g.met.R.Ord.matches_eq c.args.answer c.args.node (c.in-Some.first, c.in-Some.field-0-1) c.self.inside.more.entries none above)
