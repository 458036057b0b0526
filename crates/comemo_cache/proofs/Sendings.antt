-- How pairs are sent to a sink one by one.
use Rattle.std.proofs.Common.{◌≡◌, ◌∙◌, suc, Bool, false, List, [], ◌∷◌, ◌++◌, refl, sym, ap, subst, Result, Ok, Err, IfOk, OnErr, arith, append_assoc, append-nil}
use Rattle.std.specs.List.{All}
use Rattle.comemo_track.specs.Sending.{BreaksOff}

pub reads_left : {C R : Type 0} (w : C → Bool) (old new : List (C × R)) (p : C × R) → old ≡ p ∷ new → All (λ q. w q.0 ≡ false) old → All (λ q. w q.0 ≡ false) new
reads_left w old new p e h = let h' = subst (λ ps. All (λ q. w q.0 ≡ false) ps) e h in λ k d l. h' (suc k) d (omega arith)

pub head_read : {C R : Type 0} (w : C → Bool) (old new : List (C × R)) (p : C × R) → old ≡ p ∷ new → All (λ q. w q.0 ≡ false) old → w p.0 ≡ false
head_read w old new p e h = (subst (λ ps. All (λ q. w q.0 ≡ false) ps) e h) 0 p (omega arith)

-- of all pairs the sink at s took a prefix, after which it was t; these are left
pub record TookPrefix {S C R : Type 0} (took : S → S → List (C × R) → List C → Type 0) (s t : S) (all left : List (C × R)) : Type 0 where
  pub prefix : List (C × R)
  pub parts : all ≡ prefix ++ left
  pub taken : took s t prefix []

module _ {S C R : Type 0} {took : S → S → List (C × R) → List C → Type 0} (joins : (s t u : S) (P Q : List (C × R)) (W : List C) → took s t P [] → took t u Q W → took s u (P ++ Q) W) where
  pub takes_more : (s t u : S) (all old new : List (C × R)) (p : C × R) → old ≡ p ∷ new → took t u (p ∷ []) [] → TookPrefix took s t all old → TookPrefix took s u all new
  takes_more s t u all old new p e sent so_far = record {
    prefix = so_far.prefix ++ p ∷ [];
    parts = so_far.parts ∙ ap (λ ps. so_far.prefix ++ ps) e ∙ sym (append_assoc so_far.prefix (p ∷ []) new);
    taken = joins s t u so_far.prefix (p ∷ []) [] so_far.taken sent;
  }

  -- once the sink takes those that are left, it has taken all
  pub rest_of : (s t : S) (all left : List (C × R)) → TookPrefix took s t all left → (u : S) → took t u left [] → took s u all []
  rest_of s t all left so_far u k = subst (λ ps. took s u ps []) (sym so_far.parts) (joins s t u so_far.prefix left [] so_far.taken k)

  pub breaks : {spoils : S → S → Type 0} (s t u v : S) (all left : List (C × R)) → TookPrefix took s t all left → took t u [] [] → spoils u v → BreaksOff took spoils s v all
  breaks s t u v all left so_far refused spoiled = record {
    prefix = so_far.prefix;
    rest = left;
    parts = so_far.parts;
    mid = u;
    taken = subst (λ ps. took s u ps []) (append-nil so_far.prefix) (joins s t u so_far.prefix [] [] so_far.taken refused);
    spoiled = spoiled;
  }

pub took_all : {S C R : Type 0} {took : S → S → List (C × R) → List C → Type 0} (s t : S) (all left : List (C × R)) → left ≡ [] → TookPrefix took s t all left → took s t all []
took_all {took = took} s t all left none so_far = subst (λ ps. took s t ps []) (sym (so_far.parts ∙ ap (λ ps. so_far.prefix ++ ps) none ∙ append-nil so_far.prefix)) so_far.taken

pub took_none : {S C R : Type 0} {took : S → S → List (C × R) → List C → Type 0} → ((s : S) → took s s [] []) → (s : S) (all : List (C × R)) → TookPrefix took s s all all
took_none starts s all = record { prefix = []; parts = refl; taken = starts s }

-- what is spoiled as it was took none of any pairs
pub breaks_at_once : {S C R : Type 0} {took : S → S → List (C × R) → List C → Type 0} {spoils : S → S → Type 0} → ((s : S) → took s s [] []) → (s u : S) (all : List (C × R)) → spoils s u → BreaksOff took spoils s u all
breaks_at_once starts s u all spoiled = record { prefix = []; rest = all; parts = refl; mid = s; taken = starts s; spoiled = spoiled }

pub on_err : {T E P : Type 0} (r : Result T E) → P → OnErr r P
on_err (Ok x) p = tt
on_err (Err e) p = p

-- what ended with an output ended as that output's
pub ended_so : {T X E F : Type 0} (P : T → X → Type 0) (output : T) (ran : Result T E) → ran ≡ Ok output → (r : Result X F) → IfOk r (P output) → IfOk r (λ x. (o : T) × (ran ≡ Ok o) × P o x)
ended_so P output ran is (Ok x) p = (output, is, p)
ended_so P output ran is (Err e) p = tt

-- what holds of one result holds of it where it says more
pub mapped : {A E : Type 0} {P Q : A → Type 0} → ((a : A) → P a → Q a) → (r : Result A E) → IfOk r P → IfOk r Q
mapped f (Ok a) p = f a p
mapped f (Err e) p = tt
