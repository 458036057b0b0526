-- Writes: equal ones, and how they are sent to a sink and done on an input one by one.
use Rattle.std.proofs.Common.{◌≡◌, ◌≤◌, ◌+◌, ℕ, suc, Bool, true, List, [], ◌∷◌, ◌++◌, length, IsTrue, sym, ap, subst, ◌∙◌, arith, append_assoc, append-nil}
use Rattle.std.specs.List.{All, AllZip}
use Rattle.std.specs.Cmp.{IsEquivalence}
use Rattle.comemo_base.proofs.Paths.{joined}
use Rattle.comemo_track.specs.Sending.{BreaksOff, SpoiledAfter}
use Rattle.comemo_cache.specs.Meaning.{SameWrites}
use Rattle.comemo_cache.proofs.Entries.{All-cons}

module _ {C : Type 0} {eq : C → C → Bool} (laws : IsEquivalence eq) where
  pub SameWrites-itself : (W : List C) → SameWrites eq W W
  SameWrites-itself [] = tt
  SameWrites-itself (w ∷ W) = (laws.refl w, SameWrites-itself W)

  pub SameWrites-joined : (U V W : List C) → SameWrites eq U V → SameWrites eq V W → SameWrites eq U W
  SameWrites-joined [] [] W a b = b
  SameWrites-joined [] (v ∷ V) W a b = absurd a
  SameWrites-joined (u ∷ U) [] W a b = absurd a
  SameWrites-joined (u ∷ U) (v ∷ V) [] a b = absurd b
  SameWrites-joined (u ∷ U) (v ∷ V) (w ∷ W) a b = (joined laws u v w a.0 b.0, SameWrites-joined U V W a.1 b.1)

-- clones are equal
pub SameWrites-cloned : {C : Type 0} (eq : C → C → Bool) (clone : C → C → Type 0) → ((x y : C) → clone x y → IsTrue (eq x y)) → (V W : List C) → AllZip clone V W → SameWrites eq V W
SameWrites-cloned eq clone clones [] [] a = tt
SameWrites-cloned eq clone clones [] (w ∷ W) a = absurd a
SameWrites-cloned eq clone clones (v ∷ V) [] a = absurd a
SameWrites-cloned eq clone clones (v ∷ V) (w ∷ W) a = (clones v w a.0, SameWrites-cloned eq clone clones V W a.1)

-- what equals writes are writes
pub written_same : {C : Type 0} (eq : C → C → Bool) (w : C → Bool) → ((x y : C) → IsTrue (eq x y) → w x ≡ w y) → (V W : List C) → SameWrites eq V W → All (λ c. w c ≡ true) V → All (λ c. w c ≡ true) W
written_same eq w kind [] [] s h = λ k d l. absurd (omega arith)
written_same eq w kind [] (y ∷ W) s h = absurd s
written_same eq w kind (x ∷ V) [] s h = absurd s
written_same eq w kind (x ∷ V) (y ∷ W) s h = All-cons (λ c. w c ≡ true) y W (sym (kind x y s.0) ∙ h 0 x (omega arith)) (written_same eq w kind V W s.1 (λ j e m. h (suc j) e (omega arith)))

pub writes_left : {C : Type 0} (w : C → Bool) (old new : List C) (c : C) → old ≡ c ∷ new → All (λ c. w c ≡ true) old → All (λ c. w c ≡ true) new
writes_left w old new c e h = let h' = subst (λ ps. All (λ c. w c ≡ true) ps) e h in λ k d l. h' (suc k) d (omega arith)

pub head_write : {C : Type 0} (w : C → Bool) (old new : List C) (c : C) → old ≡ c ∷ new → All (λ c. w c ≡ true) old → w c ≡ true
head_write w old new c e h = (subst (λ ps. All (λ c. w c ≡ true) ps) e h) 0 c (omega arith)

pub room_left : {C : Type 0} (old new : List C) (c : C) (room room' : ℕ) → old ≡ c ∷ new → length old ≤ room → room ≤ room' + 1 → length new ≤ room'
room_left old new c room room' e h k = let h' : suc (length new) ≤ room = subst (λ xs. length xs ≤ room) e h in omega arith

-- of all writes the sink at s took a prefix, after which it was t; these are left
pub record TookWrites {S C R : Type 0} (took : S → S → List (C × R) → List C → Type 0) (s t : S) (all left : List C) : Type 0 where
  pub prefix : List C
  pub parts : all ≡ prefix ++ left
  pub taken : took s t [] prefix

module _ {S C R : Type 0} {took : S → S → List (C × R) → List C → Type 0} where
  pub writes_more : ((s t u : S) (P : List (C × R)) (V W : List C) → took s t P V → took t u [] W → took s u P (V ++ W)) → (s t u : S) (all old new : List C) (c : C) → old ≡ c ∷ new → took t u [] (c ∷ []) → TookWrites took s t all old → TookWrites took s u all new
  writes_more adds s t u all old new c e sent so = record {
    prefix = so.prefix ++ c ∷ [];
    parts = so.parts ∙ ap (λ ws. so.prefix ++ ws) e ∙ sym (append_assoc so.prefix (c ∷ []) new);
    taken = adds s t u [] so.prefix (c ∷ []) so.taken sent;
  }

  module _ (joins : (s t u : S) (P Q : List (C × R)) (W : List C) → took s t P [] → took t u Q W → took s u (P ++ Q) W) where
    -- pairs and then writes
    pub took_run : (s t u : S) (P : List (C × R)) (W : List C) → took s t P [] → took t u [] W → took s u P W
    took_run s t u P W a b = subst (λ ps. took s u ps W) (append-nil P) (joins s t u P [] W a b)

    -- a sink that took all pairs and then was spoiled
    pub broke_after : {spoils : S → S → Type 0} (s t u : S) (P : List (C × R)) → took s t P [] → SpoiledAfter took spoils t u [] [] → BreaksOff took spoils s u P
    broke_after s t u P a b = record {
      prefix = P;
      rest = [];
      parts = sym (append-nil P);
      mid = b.mid;
      taken = took_run s t b.mid P [] a b.taken;
      spoiled = b.spoiled;
    }

    -- a sink that took pairs, and then writes, and then was spoiled
    pub spoiled_run : {spoils : S → S → Type 0} (s t u : S) (P : List (C × R)) (W : List C) → took s t P [] → SpoiledAfter took spoils t u [] W → SpoiledAfter took spoils s u P W
    spoiled_run s t u P W a b = record { mid = b.mid; taken = took_run s t b.mid P W a b.taken; spoiled = b.spoiled }

-- of all writes a prefix was done on the input at i, after which it was j, and went to the sink; these are left
pub record DidWrites {I S C R : Type 0} (did : I → I → List C → Type 0) (took : S → S → List (C × R) → List C → Type 0) (i j : I) (s t : S) (all left : List C) : Type 0 where
  pub prefix : List C
  pub parts : all ≡ prefix ++ left
  pub done : did i j prefix
  pub taken : took s t [] prefix

module _ {I S C R : Type 0} {did : I → I → List C → Type 0} {took : S → S → List (C × R) → List C → Type 0} where
  module _ (does : (i j k : I) (V W : List C) → did i j V → did j k W → did i k (V ++ W)) where
    pub done_more : ((s t u : S) (P : List (C × R)) (V W : List C) → took s t P V → took t u [] W → took s u P (V ++ W)) → (i j k : I) (s t u : S) (all old new : List C) (c : C) → old ≡ c ∷ new → did j k (c ∷ []) → took t u [] (c ∷ []) → DidWrites did took i j s t all old → DidWrites did took i k s u all new
    done_more adds i j k s t u all old new c e did_one sent so = record {
      prefix = so.prefix ++ c ∷ [];
      parts = so.parts ∙ ap (λ ws. so.prefix ++ ws) e ∙ sym (append_assoc so.prefix (c ∷ []) new);
      done = does i j k so.prefix (c ∷ []) so.done did_one;
      taken = adds s t u [] so.prefix (c ∷ []) so.taken sent;
    }

    -- it stopped at a write that was refused
    pub stopped : {spoils : S → S → Type 0} (i j k : I) (s t u : S) (w : C → Bool) (all old new : List C) (c : C) → old ≡ c ∷ new → All (λ e. w e ≡ true) old → did j k [] → spoils t u → DidWrites did took i j s t all old → (prefix : List C) × (next : C) × (rest : List C) × (all ≡ prefix ++ next ∷ rest) × did i k prefix × SpoiledAfter took spoils s u [] prefix × (w next ≡ true)
    stopped i j k s t u w all old new c e written refused spoiled so = (
      so.prefix,
      c,
      new,
      so.parts ∙ ap (λ ws. so.prefix ++ ws) e,
      subst (λ ws. did i k ws) (append-nil so.prefix) (does i j k so.prefix [] so.done refused),
      record { mid = t; taken = so.taken; spoiled = spoiled },
      head_write w old new c e written,
    )
