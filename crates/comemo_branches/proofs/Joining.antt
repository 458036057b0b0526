-- What a run is told by the branches that it joined, and what it took of them; and for authors of such runs, what it may
-- conclude.
use Rattle.std.proofs.Common.{◌≡◌, ◌∙◌, ◌⊎◌, ◌<◌, ◌+◌, ℕ, suc, List, [], ◌∷◌, ◌++◌, Result, Ok, Err, IsErrAnd, length, get_or, take, drop, refl, rules, sym, subst, inl, inr}
use Rattle.std.specs.Borrow.{Bor, MutBor}
use Rattle.std.specs.Fn.{Shared, Once}
use Rattle.std.specs.List.{AllZip}
use Rattle.std.proofs.Math.Seq.{split_at}
use Rattle.std.proofs.lemmas.List.{take_more}
use Rattle.std.proofs.lemmas.Slice.Zip.{all_zipped_more}
use Rattle.comemo.specs.Recording.{Recording}
use Rattle.comemo.specs.Function.{Recorded}
use Rattle.comemo.specs.Recursive.{TellsOwn}
use Rattle.comemo.specs.declared.pending.Fault.{Fault}
use Rattle.comemo.specs.declared.pending.Fault.TheVariants as fault
use Rattle.comemo.proofs.Recursions.{own_as, own_then}
use Rattle.comemo_branches.specs.Branches.{GoesOn, NotJoined, MayFail, MayEnd, IsEnded, GaveTo, Keeps, TookOne, BranchRan, BranchTold, TookEach, FirstFails, PartRan, PartTold}

-- no output yet
pub told_none : {V C R J X : Type 0} {fits : Recording C R → (C → R) → Type 0} {s : Recorded V C R} (D : (C → R) → J → X → Type 0) {O : Type 0} (list : O → List X) (items : List J) {a : O} → list a ≡ [] → TellsOwn fits s s (Ok a) (λ o m. AllZip (D m) (take 0 items) (list o))
told_none D list items e = record { same_value = refl; before = λ m f. f; told = λ m f. rw e tt; complete = refl; fault = tt }

module _ {V C R J X : Type 0} {fits : Recording C R → (C → R) → Type 0} {s t u : Recorded V C R} (D : (C → R) → J → X → Type 0) where
  -- one output more
  pub told_more : {O : Type 0} (list : O → List X) (items : List J) (i : ℕ) (x : J) {a b : O} {y : X} → i < length items → x ≡ get_or items i x → TellsOwn fits s t (Ok a) (λ o m. AllZip (D m) (take i items) (list o)) → TellsOwn fits t u (Ok y) (λ y m. D m x y) → list b ≡ list a ++ y ∷ [] → TellsOwn fits s u (Ok b) (λ o m. AllZip (D m) (take (i + 1) items) (list o))
  told_more list items i x {a = a} {y = y} within is before next e = own_then before next (λ m f p q. rw (take_more items i x within, ← is, e) (all_zipped_more (D m) (take i items) (list a) x y p q))

-- a fault after what was told, passed on
pub told_failed : {V C R A B Y : Type 0} {fits : Recording C R → (C → R) → Type 0} {s t u : Recorded V C R} {P : A → (C → R) → Type 0} {Q : B → (C → R) → Type 0} {S : Y → (C → R) → Type 0} {a : A} (r : Result Y Fault) (e : Fault) → IsErrAnd r (λ x. x ≡ e) → TellsOwn fits s t (Ok a) P → TellsOwn fits t u (Err e) Q → TellsOwn fits s u r S
told_failed (Ok y) e h before next = absurd h
told_failed (Err f) e h before next = record { same_value = next.same_value ∙ before.same_value; before = tt; told = tt; complete = tt; fault = λ k. next.fault (sym h ∙ k) }

module _ {V C R A : Type 0} {fits : Recording C R → (C → R) → Type 0} {P : A → (C → R) → Type 0} {a : A} where
  -- after what was told, the run may go on
  pub goes_on : {s t : Recorded V C R} (e : Fault) → TellsOwn fits s t (Ok a) P → GoesOn fits s t e
  goes_on e before = inl (before.complete, before.before)

  -- also if the next branch was joined too, and its output was lost
  pub goes_on_then : {B : Type 0} {Q : B → (C → R) → Type 0} {b : B} {s t u : Recorded V C R} (e : Fault) → TellsOwn fits s t (Ok a) P → TellsOwn fits t u (Ok b) Q → GoesOn fits s u e
  goes_on_then e before next = inl (next.complete ∙ before.complete, λ m f. before.before m (next.before m f))

  -- and if it wasn't joined
  pub goes_on_from : {X B : Type 0} {s t : Recorded V C R} (u : Recorded V C R) (end : Result (X × B) Fault) (e : Fault) → TellsOwn fits s t (Ok a) P → NotJoined t u end e → GoesOn fits s u e
  goes_on_from u (Ok x) e before failed = inr (failed.0, failed.1.recording.complete)
  goes_on_from {s = s} u (Err f) e before failed = subst (λ v. GoesOn fits s v e) (sym failed.1) (goes_on e before)

-- the fault of a branch that wasn't joined
pub memory_or : {V C R X B : Type 0} (t u : Recorded V C R) (ran : Result X Fault → B → Type 0) (end : Result (X × B) Fault) (e : Fault) → MayEnd ran end → NotJoined t u end e → (e ≡ fault.Memory) ⊎ MayFail ran e
memory_or t u ran (Ok x) e ended failed = inl failed.0
memory_or t u ran (Err fault.Incomplete) e ended failed = inl failed.0
memory_or t u ran (Err fault.Memory) e ended failed = inl failed.0
memory_or t u ran (Err fault.Write) e ended failed = inr (subst (λ f. MayFail ran f) (sym failed.0) ended)

-- a branch that failed, whose fault was passed on
pub may_fail : {P X : Type 0} (ran : Result X Fault → P → Type 0) (r : Result (X × P) Fault) (e : Fault) (left : P) (came : Result X Fault) → IsErrAnd r (λ x. x ≡ e) → came ≡ Err e → ran came left → MayEnd ran r
may_fail ran (Ok x) e left came h was failed = absurd h
may_fail ran (Err f) e left came h was failed = (left, subst (λ z. ran (Err z) left) (sym h) (subst (λ z. ran z left) was failed))

-- an item of a list that has one
pub some_item : {J : Type 0} (xs : List J) (i : ℕ) → i < length xs → J
some_item [] i h = absurd (search rules)
some_item (x ∷ xs) i h = x

module _ {P V C R X : Type 0} (seen : P → Recorded V C R) (ran : Result X Fault → P → Type 0) where
  -- a branch that ran so may be joined
  pub ended_by : (outer t : Recorded V C R) → Keeps seen outer ran → t.value ≡ outer.value → (r : Result (X × P) Fault) → MayEnd ran r → IsEnded seen t r
  ended_by outer t keeps same (Ok e) ended = let k = keeps (Ok e.0) e.1 ended in (k.0 ∙ sym same, k.1)
  ended_by outer t keeps same (Err e) ended = tt

  -- what was taken of it, was taken of a branch that gave this output
  pub took_one : (took : Recorded V C R → Recorded V C R → List (C × R) → Type 0) (t u : Recorded V C R) (y : X) (r : Result (X × P) Fault) → MayEnd ran r → GaveTo seen (λ recording. took t u recording.pairs) r y → TookOne seen took ran t u y
  took_one took t u y (Ok e) ended gave = (e.1, subst (λ o. ran (Ok o) e.1) gave.0 ended, gave.1)
  took_one took t u y (Err e) ended gave = absurd gave

module _ {F P J V C R X : Type 0} (g : Shared F (MutBor P × (Bor J × Unit {0})) (Result X Fault × (MutBor P × Unit {0}))) (f : F) (seen : P → Recorded V C R) (outer : Recorded V C R) where
  -- a branch of the recorder as it was later is one of the recorder as it was first
  pub ran_from : (t : Recorded V C R) → t.value ≡ outer.value → (x : J) (r : Result X Fault) (left : P) → BranchRan g f seen t x r left → BranchRan g f seen outer x r left
  ran_from t same x r left ran = record { given = ran.given; begins = record { same_value = ran.begins.same_value ∙ same; pairs = ran.begins.pairs; complete = ran.begins.complete; early = ran.begins.early }; item = ran.item; is_item = ran.is_item; after_call = ran.after_call; call = ran.call; is_left = ran.is_left }

  pub end_from : (t : Recorded V C R) → t.value ≡ outer.value → (x : J) (r : Result (X × P) Fault) → MayEnd (BranchRan g f seen t x) r → MayEnd (BranchRan g f seen outer x) r
  end_from t same x (Ok e) ended = ran_from t same x (Ok e.0) e.1 ended
  end_from t same x (Err e) ended = (ended.0, ran_from t same x (Err e) ended.0 ended.1)

  -- what a branch was told, is told
  pub gave_told : {fits : Recording C R → (C → R) → Type 0} {t u : Recorded V C R} {y : X} (x : J) (r : Result (X × P) Fault) → MayEnd (BranchRan g f seen outer x) r → TellsOwn fits t u (Ok y) (λ y m. GaveTo seen (λ recording. fits recording m) r y) → TellsOwn fits t u (Ok y) (λ y m. BranchTold g f seen outer fits m x y)
  gave_told x (Ok e) ended told = own_as told (λ m fit k. record { left = e.1; ran = subst (λ o. BranchRan g f seen outer x (Ok o) e.1) k.0 ended; fit = k.1 })
  gave_told x (Err e) ended told = own_as told (λ m fit k. absurd k)

  module _ (took : Recorded V C R → Recorded V C R → List (C × R) → Type 0) where
    took_push : (s t u : Recorded V C R) (xs : List J) (ys : List X) (x : J) (y : X) → TookEach g f seen outer took s t xs ys → TookOne seen took (BranchRan g f seen outer x) t u y → TookEach g f seen outer took s u (xs ++ x ∷ []) (ys ++ y ∷ [])
    took_push s t u [] [] x y before next = (u, subst (λ r. TookOne seen took (BranchRan g f seen outer x) r u y) before next, refl)
    took_push s t u [] (o ∷ ys) x y before next = absurd before
    took_push s t u (z ∷ xs) [] x y before next = absurd before
    took_push s t u (z ∷ xs) (o ∷ ys) x y before next = (before.0, before.1, took_push before.0 t u xs ys x y before.2 next)

    -- one branch more
    pub took_more : (s t u : Recorded V C R) (items : List J) (i : ℕ) (x : J) (ys zs : List X) (y : X) → i < length items → x ≡ get_or items i x → TookEach g f seen outer took s t (take i items) ys → TookOne seen took (BranchRan g f seen outer x) t u y → zs ≡ ys ++ y ∷ [] → TookEach g f seen outer took s u (take (i + 1) items) zs
    took_more s t u items i x ys zs y within is before next e = rw (take_more items i x within, ← is, e) (took_push s t u (take i items) ys x y before next)

    fails_after : (s t : Recorded V C R) (xs : List J) (ys : List X) (x : J) (rest : List J) (e : Fault) → TookEach g f seen outer took s t xs ys → MayFail (BranchRan g f seen outer x) e → FirstFails g f seen outer (xs ++ x ∷ rest) e
    fails_after s t [] [] x rest e before failed = inl failed
    fails_after s t [] (o ∷ ys) x rest e before failed = absurd before
    fails_after s t (z ∷ xs) [] x rest e before failed = absurd before
    fails_after s t (z ∷ xs) (o ∷ ys) x rest e before failed =
        inr ((o, before.1.0, before.1.1), fails_after before.0 t xs ys x rest e before.2 failed)

    -- a branch that wasn't joined, after those that were
    pub first_fails : (s t u : Recorded V C R) (items : List J) (i : ℕ) (x : J) (ys : List X) (end : Result (X × P) Fault) (e : Fault) → i < length items → x ≡ get_or items i x → TookEach g f seen outer took s t (take i items) ys → MayEnd (BranchRan g f seen outer x) end → NotJoined t u end e → (e ≡ fault.Memory) ⊎ FirstFails g f seen outer items e
    first_fails s t u items i x ys end e within is before ended failed =
        elim (memory_or t u (BranchRan g f seen outer x) end e ended failed) [
          | inl memory ↦ inl memory
          | inr of_branch ↦
              inr (subst (λ l. FirstFails g f seen outer l e) (sym (subst (λ z. items ≡ take i items ++ z ∷ drop (suc i) items) (sym is) (split_at items i x within))) (fails_after s t (take i items) ys x (drop (suc i) items) e before of_branch))
        ]

module _ {F P V C R X : Type 0} (g : Once F (MutBor P × Unit {0}) (Result X Fault × (MutBor P × Unit {0}))) (f : F) (seen : P → Recorded V C R) (outer : Recorded V C R) where
  -- what a part was told, is told
  pub part_told : {fits : Recording C R → (C → R) → Type 0} {t u : Recorded V C R} {y : X} (r : Result (X × P) Fault) → MayEnd (PartRan g f seen outer) r → TellsOwn fits t u (Ok y) (λ y m. GaveTo seen (λ recording. fits recording m) r y) → TellsOwn fits t u (Ok y) (λ y m. PartTold g f seen outer fits m y)
  part_told (Ok e) ended told = own_as told (λ m fit k. record { left = e.1; ran = subst (λ o. PartRan g f seen outer (Ok o) e.1) k.0 ended; fit = k.1 })
  part_told (Err e) ended told = own_as told (λ m fit k. absurd k)

-- For authors: what was told tells what follows from it.
pub told_so : {V C R X : Type 0} {fits : Recording C R → (C → R) → Type 0} {s t : Recorded V C R} {P Q : X → (C → R) → Type 0} (r : Result X Fault) → TellsOwn fits s t r P → ((x : X) (m : C → R) → P x m → Q x m) → TellsOwn fits s t r Q
told_so (Ok x) a so = record { same_value = a.same_value; before = a.before; told = λ m f. so x m (a.told m f); complete = a.complete; fault = tt }
told_so (Err e) a so = record { same_value = a.same_value; before = tt; told = tt; complete = tt; fault = a.fault }

-- For authors: what the closure tells at each branch.
module _ {F P J V C R X : Type 0} (g : Shared F (MutBor P × (Bor J × Unit {0})) (Result X Fault × (MutBor P × Unit {0}))) (f : F) (seen : P → Recorded V C R) (fits : Recording C R → (C → R) → Type 0) where
  -- each call of the closure tells this of its item and its output
  abbrev pub TellsEach : (J → X → (C → R) → Type 0) → Type 0
  TellsEach D = (given left : MutBor P) (item : Bor J) (r : Result X Fault) → g.post f (given, (item, tt)) (r, (left, tt)) → TellsOwn fits (seen given.now) (seen left.now) r (D item.now)

  module _ (D : J → X → (C → R) → Type 0) (tells : TellsEach D) (outer : Recorded V C R) where
    -- so this holds of the item and the output of a branch
    pub told_by : (m : C → R) (x : J) (y : X) → BranchTold g f seen outer fits m x y → D x y m
    told_by m x y b =
        let ran = b.ran in
        let told = tells ran.given ran.after_call ran.item (Ok y) ran.call in
        subst (λ z. D z y m) ran.is_item (told.told m (subst (λ p. fits (seen p).recording m) (sym ran.is_left) b.fit))

    -- of each item and output in turn
    pub told_each : (m : C → R) (xs : List J) (ys : List X) → AllZip (BranchTold g f seen outer fits m) xs ys → AllZip (λ x y. D x y m) xs ys
    told_each m [] [] k = tt
    told_each m [] (y ∷ ys) k = k
    told_each m (x ∷ xs) [] k = k
    told_each m (x ∷ xs) (y ∷ ys) k = (told_by m x y k.0, told_each m xs ys k.1)

-- For authors of two parts: what the closure of a part tells.
module _ {F P V C R X : Type 0} (g : Once F (MutBor P × Unit {0}) (Result X Fault × (MutBor P × Unit {0}))) (f : F) (seen : P → Recorded V C R) (fits : Recording C R → (C → R) → Type 0) where
  -- a call of the closure tells this of its output
  abbrev pub TellsPart : (X → (C → R) → Type 0) → Type 0
  TellsPart D = (given left : MutBor P) (r : Result X Fault) → g.post f (given, tt) (r, (left, tt)) → TellsOwn fits (seen given.now) (seen left.now) r D

  -- so this holds of the output of the part
  pub told_by_part : (D : X → (C → R) → Type 0) → TellsPart D → (outer : Recorded V C R) (m : C → R) (y : X) → PartTold g f seen outer fits m y → D y m
  told_by_part D tells outer m y b =
      let call = b.ran.call in
      let told = tells call.shown call.left (Ok y) call.met in
      told.told m (subst (λ p. fits (seen p).recording m) (sym call.leaves) b.fit)
