-- A look-up with an oracle that answers one call and fails at every later one.
use Rattle.std.proofs.Common.{◌≡◌, ◌∙◌, ◌++◌, arith, refl, sym, ap, Bool, true, false, List, [], ◌∷◌, ◌⊎◌, inl, inr, Option, Some, None, Result, Ok, Err, IfOk, IfErr, IfSome, IfNone, is_err, subst}
use Rattle.std.specs.List.{All, Any}
use Rattle.std.specs.Fn.{Mut, CalledAt}
use Rattle.std.specs.declared.alloc.AllocError.{AllocError}
use denote.Ref.{Bor}
use Rattle.comemo_base.specs.Tree.{Stored, IsSamePath, IsPrefix}
use Rattle.comemo_base.specs.Lookup.{Answered, LooksUp, IsLookupRefused, IsNext, IsAskedPrefix}
use Rattle.comemo_tree_tests.specs.Refusals.{GoesOnAfter, IsAnsweredBy, LacksAnswer}

-- the oracle answers once, with what is left, and then fails and notes it
pub record AnswersOnce {O C R : Type 0} (g : Mut O (Bor C × Unit {0}) (Result R AllocError)) (left : O → Option R) (refused : O → Bool) : Type 0 where
  pub given : (f f' : O) (x : C) (r : R) → CalledAt g f x (Ok r) f' → (left f ≡ Some r) × (left f' ≡ None) × (refused f' ≡ refused f)
  pub refuses : (f f' : O) (x : C) (e : AllocError) → CalledAt g f x (Err e) f' → (left f ≡ None) × (refused f' ≡ true)

-- the list has at most the one pair, with the answer
abbrev pub IsGiven : {C R : Type 0} → R → List (C × R) → Type 0
IsGiven answer [] = Unit {0}
IsGiven answer (x ∷ []) = x.1 ≡ answer
IsGiven answer (x ∷ (y ∷ xs)) = ⊥

module _ {C R : Type 0} (eq : C → C → Bool) (same : R → R → Bool) (answer : R) where
  IsAnsweredBy-same : (asked path : List (C × R)) → IsGiven answer asked → IsSamePath eq same asked path → IsAnsweredBy same answer path
  IsAnsweredBy-same [] [] a k = tt
  IsAnsweredBy-same [] (q ∷ qs) a k = absurd k
  IsAnsweredBy-same (x ∷ []) [] a k = absurd k
  IsAnsweredBy-same (x ∷ []) (q ∷ []) a k = ap (λ z. same z q.1) (sym a) ∙ k.1
  IsAnsweredBy-same (x ∷ []) (q ∷ (p ∷ qs)) a k = absurd k.2
  IsAnsweredBy-same (x ∷ (y ∷ xs)) path a k = absurd a

  -- a call that comes after the one pair
  GoesOnAfter-next : (x : C × R) (call : C) (path : List (C × R)) → x.1 ≡ answer → IsNext eq same (x ∷ []) call path → GoesOnAfter same answer path
  GoesOnAfter-next x call [] a k = absurd k
  GoesOnAfter-next x call (q ∷ []) a k = absurd k.2
  GoesOnAfter-next x call (q ∷ (p ∷ qs)) a k = ap (λ z. same z q.1) (sym a) ∙ k.1

-- a look-up with such an oracle: whether the oracle noted a failure, after which calls it failed, and what was found
pub record Told {C R K T B : Type 0} (eq : C → C → Bool) (same : R → R → Bool) (answer : R) (us : List (Stored K C R T)) (value : B → Option T) (r : Result B AllocError) (refused : Bool) : Type 0 where
  pub noted : is_err r ≡ refused
  pub goes_on : IfErr r (λ _. Any (λ e. GoesOnAfter same answer e.path) us)
  pub missed : IfOk r (λ b. IfNone (value b) (LacksAnswer eq same us answer))
  pub found : IfOk r (λ b. IfSome (value b) (λ v. Any (λ e. IsAnsweredBy same answer e.path × (e.value ≡ v)) us))

module _ {O C R : Type 0} (g : Mut O (Bor C × Unit {0}) (Result R AllocError)) (left : O → Option R) (refused : O → Bool) (once : AnswersOnce g left refused) (answer : R) where
  -- an answered list has at most the one pair, and notes nothing
  one_given : (xs : List (C × R)) (f f' : O) → left f ≡ Some answer → Answered g f xs f' → IsGiven answer xs × (refused f' ≡ refused f)
  one_given [] f f' some h = (tt, ap refused (sym h))
  one_given (x ∷ []) f f' some h =
      let k = once.given f h.0 x.0 x.1 h.1 in
      let a : x.1 ≡ answer = cc in
      (a, ap refused (sym h.2) ∙ k.2)
  one_given (x ∷ (y ∷ xs)) f f' some h =
      let k = once.given f h.0 x.0 x.1 h.1 in
      let e = (once.given h.0 h.2.0 y.0 y.1 h.2.1).0 in
      cc

  -- if it fails next, it was answered once
  after : (eq : C → C → Bool) (same : R → R → Bool) (asked : List (C × R)) (f at : O) (call : C) (path : List (C × R)) → left f ≡ Some answer → Answered g f asked at → left at ≡ None → IsNext eq same asked call path → GoesOnAfter same answer path
  after eq same [] f at call path some h none k = let e : left f ≡ None = ap left h ∙ none in cc
  after eq same (x ∷ []) f at call path some h none k = GoesOnAfter-next eq same answer x call path (one_given (x ∷ []) f at some h).0 k
  after eq same (x ∷ (y ∷ xs)) f at call path some h none k = absurd (one_given (x ∷ (y ∷ xs)) f at some h).0

  module _ {K T : Type 0} (eq : C → C → Bool) (same : R → R → Bool) (us : List (Stored K C R T)) (f f' : O) (some : left f ≡ Some answer) (none : refused f ≡ false) where
    nothing-from_All : {X : Type 0} (xs : List X) → All (λ x. ⊥) xs → xs ≡ []
    nothing-from_All [] n = refl
    nothing-from_All (x ∷ xs) n = absurd (n 0 x (omega arith))

    -- the call of the one pair is the first of a path
    first : (x : C × R) (prefix : List (C × R)) (last : C × R) → x ∷ [] ≡ prefix ++ last ∷ [] → Any (λ e. IsNext eq same prefix last.0 e.path) us → Any (λ e. IsNext eq same [] x.0 e.path) us
    first x [] last is h = let same_pair : last ≡ x = cc in subst (λ (z : C × R). Any (λ e. IsNext eq same [] z.0 e.path) us) same_pair h
    first x (y ∷ []) last is h = cc
    first x (y ∷ (z ∷ prefix)) last is h = cc

    not_noted : (r : Option T) → LooksUp g eq same us f f' r → refused f' ≡ false
    not_noted r h = (one_given h.asked f f' some h.answered).1 ∙ none

    noted : (e : AllocError) → IsLookupRefused g eq same us f e f' → refused f' ≡ true
    noted e h = (once.refuses h.at f' h.call e h.called).1

    found_by : (r : Option T) → LooksUp g eq same us f f' r → IfSome r (λ v. Any (λ e. IsAnsweredBy same answer e.path × (e.value ≡ v)) us)
    found_by None h = tt
    found_by (Some v) h =
        let k = h.finds in
        (k.0, k.1, k.2, k.3, (IsAnsweredBy-same eq same answer h.asked k.1.path (one_given h.asked f f' some h.answered).0 k.4.0, k.4.1))

    lacking : (asked : List (C × R)) → IsGiven answer asked → All (λ e. ¬ IsPrefix eq same asked e.path) us → (asked ≡ []) ⊎ IsAskedPrefix eq same us asked → LacksAnswer eq same us answer
    lacking [] a n k = inl (nothing-from_All us (λ i d l. n i d l tt))
    lacking (x ∷ []) a n (inl e) = cc
    lacking (x ∷ []) a n (inr k) =
        let Q : R → Type 0 = λ r. All (λ e. ¬ IsPrefix eq same ((x.0, r) ∷ []) e.path) us in
        inr (x.0, first x k.prefix k.last k.splits k.next, subst Q a n)
    lacking (x ∷ (y ∷ xs)) a n k = absurd a

    missed_by : (r : Option T) → LooksUp g eq same us f f' r → IfNone r (LacksAnswer eq same us answer)
    missed_by None h = lacking h.asked (one_given h.asked f f' some h.answered).0 h.finds.0 h.finds.1
    missed_by (Some v) h = tt

    refused_under : (e : AllocError) → IsLookupRefused g eq same us f e f' → Any (λ e. GoesOnAfter same answer e.path) us
    refused_under e h =
        let k = h.refused in
        (k.0, k.1, k.2, k.3, after eq same h.asked f h.at h.call k.1.path some h.answered (once.refuses h.at f' h.call e h.called).0 k.4)

    -- the result of a look-up with such an oracle
    module _ {B : Type 0} (value : B → Option T) (r : Result B AllocError) (asked : IfOk r (λ b. LooksUp g eq same us f f' (value b))) (refuses : IfErr r (λ e. IsLookupRefused g eq same us f e f')) where
      pub told : Told eq same answer us value r (refused f')
      told = elim r as (λ r. IfOk r (λ b. LooksUp g eq same us f f' (value b)) → IfErr r (λ e. IsLookupRefused g eq same us f e f') → Told eq same answer us value r (refused f')) [
        | Ok b ↦ λ h k. record { noted = sym (not_noted (value b) h); goes_on = tt; missed = missed_by (value b) h; found = found_by (value b) h }
        | Err e ↦ λ h k. record { noted = sym (noted e k); goes_on = refused_under e k; missed = tt; found = tt }
      ] asked refuses
