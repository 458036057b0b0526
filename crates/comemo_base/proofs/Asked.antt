-- When an oracle can be asked the calls of a look-up.
use Rattle.std.proofs.Common.{◌≡◌, List, [], ◌∷◌, subst, Result, Ok}
use Rattle.std.proofs.lemmas.List.Elements.{All-head, All-tail}
use Rattle.std.specs.List.{All, Any}
use Rattle.std.specs.Fn.{Mut, TakesAt, CalledAt}
use Rattle.std.specs.declared.alloc.AllocError.{AllocError}
use denote.Ref.{Bor}
use Rattle.comemo_base.specs.Tree.{Stored}
use Rattle.comemo_base.specs.Lookup.{Answered, IsStoredCall, CanBeAsked}

All-Any : {X : Type 0} (P Q : X → Type 0) (xs : List X) → All P xs → Any Q xs → (x : X) × P x × Q x
All-Any P Q xs all some = (some.1, subst P some.3 (all some.0 some.1 some.2), some.4)

-- what holds of each stored call holds of a stored call
pub holds-stored : {K C R T : Type 0} (P : C → Type 0) (us : List (Stored K C R T)) → All (λ e. All (λ p. P p.0) e.path) us → (call : C) → IsStoredCall us call → P call
holds-stored P us all call some =
    let at = All-Any (λ e. All (λ p. P p.0) e.path) (λ e. Any (λ p. p.0 ≡ call) e.path) us all some in
    let pair = All-Any (λ p. P p.0) (λ p. p.0 ≡ call) at.0.path at.1 at.2 in
    subst P pair.2 pair.1

module _ {O K C R T : Type 0} (g : Mut O (Bor C × Unit {0}) (Result R AllocError)) (us : List (Stored K C R T)) where
  -- what each answered stored call keeps, a list of them keeps
  kept : (I : O → Type 0) → ((f f' : O) (call : C) (r : R) → I f → IsStoredCall us call → CalledAt g f call (Ok r) f' → I f') → (asked : List (C × R)) (f at : O) → I f → All (λ p. IsStoredCall us p.0) asked → Answered g f asked at → I at
  kept I step [] f at i all h = subst I h i
  kept I step (p ∷ asked) f at i all h =
      kept I step asked h.0 at (step f h.0 p.0 p.1 i (All-head (λ q. IsStoredCall us q.0) p asked all) h.1) (All-tail (λ q. IsStoredCall us q.0) p asked all) h.2

  -- from what each answered stored call keeps, and what lets a stored call be asked
  pub CanBeAsked-by : (I : O → Type 0) → ((f : O) (call : C) → I f → IsStoredCall us call → TakesAt g f call) → ((f f' : O) (call : C) (r : R) → I f → IsStoredCall us call → CalledAt g f call (Ok r) f' → I f') → (f : O) → I f → CanBeAsked g us f
  CanBeAsked-by I takes step f i = record { at = λ asked at call all h stored. takes at call (kept I step asked f at i all h) stored }

  -- an oracle whose condition is a fact about the call alone, which holds of each stored call
  pub CanBeAsked-calls : (P : C → Type 0) → ((f : O) (call : C) → P call → TakesAt g f call) → All (λ e. All (λ p. P p.0) e.path) us → (f : O) → CanBeAsked g us f
  CanBeAsked-calls P takes all f =
      CanBeAsked-by (λ f. Unit {0}) (λ f call i stored. takes f call (holds-stored P us all call stored)) (λ f f' call r i stored h. tt) f tt
