use Rattle.std.proofs.Common.{◌≡◌, Bool, true, false, cond, List, [], ◌∷◌, length, Option, None, Some, IsSome, refl, sym, ap, subst, ◌∙◌, arith}
use Rattle.std.specs.List.{list_any}
use Rattle.comemo_dependents.proofs.Listing.{unlinked}
use Rattle.comemo_dependents.proofs.lists.unlink.Goals as goal

twice : {X : Type 0} (b : Bool) (w : Option X) (x : Option X) → cond b None (cond b w x) ≡ cond b None x
twice true w x = refl
twice false w x = refl

none_in : {X : Type 0} (xs : List X) → length xs ≡ 0 → [] ≡ xs
none_in [] h = refl
none_in (x ∷ xs) h = absurd (omega (arith, h))

pub returns-then-is_empty : goal.returns-then-is_empty
returns-then-is_empty g c =
    let eqk = g.K.PartialEq.eq in
    let eqc = g.C.PartialEq.eq in
    let call = c.args.call.now in
    let there = c.in-Some.ensures.value in
    let left = c.remove.new.self in
    let put = (c.get_mut.follows.holds left).3 (subst (λ o. IsSome o) there refl) in
    let empty = none_in left.keys (c.is_empty-is_empty.ensures.0 c.if-is_empty.true) in
    unlinked g.met.K.Eq.laws g.met.C.Eq.laws c.args.lists.now c.remove-then-is_empty.new.self call c.args.key.now (Some c.in-Some.keys.now) None (sym there) (λ q. c.remove-then-is_empty.ensures.updates.0 q ∙ ap (λ o. cond (eqc call q) None o) (put.0 q) ∙ twice (eqc call q) (Some left) _) (λ k. ap (λ ks. list_any (eqk k) ks) empty ∙ c.remove.ensures.updates.0 k)

pub returns-else-is_empty : goal.returns-else-is_empty
returns-else-is_empty g c =
    let there = c.in-Some.ensures.value in
    let left = c.remove.new.self in
    let put = (c.get_mut.follows.holds left).3 (subst (λ o. IsSome o) there refl) in
    unlinked g.met.K.Eq.laws g.met.C.Eq.laws c.args.lists.now (c.get_mut.follows.lender left) c.args.call.now c.args.key.now (Some c.in-Some.keys.now) (Some left) (sym there) put.0 c.remove.ensures.updates.0
