-- Lemmas on a tree's entries after each value was shown to a test.
use Rattle.std.proofs.Common.{Bool, List, [], ◌∷◌, inl, inr, refl, sym, subst, IsTrue}
use Rattle.std.proofs.lemmas.Bool.{cases_Bool}
use Rattle.std.proofs.lemmas.List.Elements.{All-cons, All-head, All-tail}
use Rattle.std.proofs.lemmas.List.Sorted.{All-permutation}
use Rattle.std.specs.List.{All, Any}
use Rattle.comemo_base.specs.Tree.{Stored, stored}
use Rattle.comemo_base.proofs.Under.{Any-here, Any-later, Any-split, none-from_nothing}
use Rattle.comemo_base.specs.Runs.{IsRun, IsSettled}
use Rattle.comemo_tree.specs.Retain.{Leaves, Retains}

module _ {K C R T : Type 0} (keeps : T → Bool → T → Type 0) where
  -- what holds of an entry by its key and path, holds of what is left
  pub All-left : (P : K → List (C × R) → Type 0) (es left : List (Stored K C R T)) → Leaves keeps es left → All (λ e. P e.key e.path) es → All (λ e. P e.key e.path) left
  All-left P [] left h a = subst (λ (xs : List (Stored K C R T)). All (λ (e : Stored K C R T). P e.key e.path) xs) (sym h) a
  All-left P (e ∷ es) left h a =
      let Q : Stored K C R T → Type 0 = λ x. P x.key x.path in
      let rest = All-left P es h.3 h.4 (All-tail Q e es a) in
      subst (λ (xs : List (Stored K C R T)). All Q xs) (sym h.5) (
      elim (cases_Bool h.0) [
        | inl b ↦ rw b (All-cons Q (stored e.key e.path h.1) h.3 (All-head Q e es a) rest)
        | inr b ↦ rw b rest
      ])

-- what is left by one test is what is left by another that may do the same
pub Leaves-weaker : {K C R T : Type 0} (one two : T → Bool → T → Type 0) → ((v : T) (b : Bool) (w : T) → one v b w → two v b w) → (es left : List (Stored K C R T)) → Leaves one es left → Leaves two es left
Leaves-weaker one two more [] left h = h
Leaves-weaker one two more (e ∷ es) left h = (h.0, h.1, more e.value h.0 h.1 h.2, h.3, Leaves-weaker one two more es h.3 h.4, h.5)

module _ {K C R T : Type 0} (Q : K → List (C × R) → Type 0) (S : T → Type 0) (test : T → Bool → T → Type 0) where
  -- an entry that the test keeps is left, with a value of which S holds
  pub Any-left : (es left : List (Stored K C R T)) → Leaves test es left → Any (λ e. Q e.key e.path × ((stays : Bool) (value : T) → test e.value stays value → IsTrue stays × S value)) es → Any (λ e. Q e.key e.path × S e.value) left
  Any-left [] left h found = absurd (none-from_nothing (λ (x : Stored K C R T). Q x.key x.path × ((stays : Bool) (value : T) → test x.value stays value → IsTrue stays × S value)) refl found)
  Any-left (e ∷ es) left h found =
      let P : Stored K C R T → Type 0 = λ x. Q x.key x.path × S x.value in
      subst (λ xs. Any P xs) (sym h.5) (
      elim (Any-split (λ (x : Stored K C R T). Q x.key x.path × ((stays : Bool) (value : T) → test x.value stays value → IsTrue stays × S value)) e es found) [
        | inl here ↦ let stays = here.1 h.0 h.1 h.2 in rw stays.0 (Any-here P (stored e.key e.path h.1) h.3 (here.0, stays.1))
        | inr later ↦
            let rest = Any-left es h.3 h.4 later in
            elim (cases_Bool h.0) [ inl b ↦ rw b (Any-later P (stored e.key e.path h.1) h.3 rest) | inr b ↦ rw b rest ]
      ])

-- what is left of runs are runs
pub IsSettled-retain : {K C R T : Type 0} (eq : C → C → Bool) (same : R → R → Bool) (asks : K → (C → R) → C → Type 0) (keeps : T → Bool → T → Type 0) (es es' : List (Stored K C R T)) → Retains keeps es es' → IsSettled eq same asks es → IsSettled eq same asks es'
IsSettled-retain eq same asks keeps es es' h settled =
    All-permutation (λ e. IsRun eq same (asks e.key) e.path) h.0 es' h.2 (All-left keeps (λ k path. IsRun eq same (asks k) path) es h.0 h.1 settled)
