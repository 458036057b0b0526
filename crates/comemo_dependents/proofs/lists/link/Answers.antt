use Rattle.std.proofs.Common.{true, cond, None, Some, IsSome, refl, sym, ap, subst, ◌∙◌}
use Rattle.std.specs.HashMap.{get}
use Rattle.std.specs.List.{list_any}
use Rattle.comemo_dependents.proofs.Listing.{linked}
use Rattle.comemo_dependents.proofs.lists.link.Goals as goal

pub returns-in-Some-clause-ok : goal.returns-in-Some-clause-ok
returns-in-Some-clause-ok g c =
    let there = c.in-Some.ensures.value in
    let put = (c.get_mut.follows.holds c.insert.new.self).3 (subst (λ o. IsSome o) there refl) in
    linked g.met.K.Eq.laws g.met.C.Eq.laws c.args.lists.now (c.get_mut.follows.lender c.insert.new.self) c.args.call.now c.args.key (Some c.in-Some.keys.now) (Some c.insert.new.self) (sym there) put.0 c.in_ok-insert.ensures.updates.0

pub returns-clause-ok : goal.returns-clause-ok
returns-clause-ok g c =
    let eqk = g.K.PartialEq.eq in
    let eqc = g.C.PartialEq.eq in
    let call = c.args.call.now in
    let own = c.in_ok-clone.field-0 in
    let equal = g.met.C.Call.laws.clones call own c.in_ok-clone.ensures.cases in
    linked g.met.K.Eq.laws g.met.C.Eq.laws c.args.lists.now c.insert-3.new.self call c.args.key None (Some c.insert-2.new.self) (sym c.in_default.ensures.value) (λ q. c.in_ok-insert-3.ensures.updates.0 q ∙ ap (λ m. cond (eqc own q) (Some c.insert-2.new.self) (get eqc m q)) c.get_mut.follows.holds-at-none ∙ ap (λ b. cond b (Some c.insert-2.new.self) (get eqc c.args.lists.now q)) (sym (g.met.C.Eq.laws.congr call own q equal))) (λ k. c.in_ok-insert-2.ensures.updates.0 k ∙ ap (λ ks. cond (eqk c.args.key k) true (list_any (eqk k) ks)) c.new-keys.ensures.empty)
