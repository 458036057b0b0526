-- No definition of sequences distinguishes equal calls or answers.
use Rattle.std.proofs.Common.{◌≡◌, ◌∙◌, refl, sym, ap, Bool, true, false, ◌||◌, List, [], ◌∷◌, ◌++◌, inl, inr, Option, Some, None, is_some}
use Rattle.std.proofs.lemmas.Bool.{cases_Bool}
use Rattle.std.specs.List.{list_any}
use Rattle.std.specs.Map.{lookup}
use Rattle.std.specs.HashMap.Eq.{lookup_congr}
use Rattle.std.specs.Cmp.{IsEquivalence}
use Rattle.comemo_base.specs.Sequence.{held}
use Rattle.comemo_base.specs.Tree.{IsSamePath}
use Rattle.comemo_tree_tests.specs.Laws.{HeldAlike, AbsorbedAlike, OutsideAlike, WasSeenAlike}
use Rattle.comemo_tree_tests.proofs.Alike.{IsSameOption, lookup-same}

is_some-same : {R : Type 0} (same : R → R → Bool) (o o' : Option R) → IsSameOption same o o' → is_some o ≡ is_some o'
is_some-same same None None h = refl
is_some-same same None (Some b) h = absurd h
is_some-same same (Some a) None h = absurd h
is_some-same same (Some a) (Some b) h = refl

list_any-same : {X : Type 0} (p q : X → Bool) → ((x : X) → p x ≡ q x) → (xs : List X) → list_any p xs ≡ list_any q xs
list_any-same p q e [] = refl
list_any-same p q e (x ∷ xs) = λ i. e x i || list_any-same p q e xs i

pub seen_alike : {C : Type 0} {eq : C → C → Bool} → IsEquivalence eq → (R : Type 0) → WasSeenAlike eq R
seen_alike {C} {eq} calls R s a b e = list_any-same (eq a) (eq b) (λ x. calls.congr a b x e) s.seen

module _ {C R : Type 0} {eq : C → C → Bool} {same : R → R → Bool} (calls : IsEquivalence eq) (answers : IsEquivalence same) where
  pub IsSamePath-append : (ps ps' qs qs' : List (C × R)) → IsSamePath eq same ps ps' → IsSamePath eq same qs qs' → IsSamePath eq same (ps ++ qs) (ps' ++ qs')
  IsSamePath-append [] [] qs qs' h k = k
  IsSamePath-append [] (p' ∷ ps') qs qs' h k = absurd h
  IsSamePath-append (p ∷ ps) [] qs qs' h k = absurd h
  IsSamePath-append (p ∷ ps) (p' ∷ ps') qs qs' h k = (h.0, h.1, IsSamePath-append ps ps' qs qs' h.2 k)

  pub held_alike : HeldAlike eq same
  held_alike ps qs a b h e = is_some-same same (lookup (eq a) ps) (lookup (eq a) qs) (lookup-same calls answers a ps qs h) ∙ ap is_some (lookup_congr eq calls.congr qs a b e)

  pub absorbed_alike : AbsorbedAlike eq same
  absorbed_alike ps ps' [] [] h k = h
  absorbed_alike ps ps' [] (q' ∷ qs') h k = absurd k
  absorbed_alike ps ps' (q ∷ qs) [] h k = absurd k
  absorbed_alike ps ps' (q ∷ qs) (q' ∷ qs') h k =
      let e : held eq ps q.0 ≡ held eq ps' q'.0 = held_alike ps ps' q.0 q'.0 h k.0 in
      elim (cases_Bool (held eq ps q.0)) [
        | inl a ↦ let b : held eq ps' q'.0 ≡ true = sym e ∙ a in rw (a, b) (absorbed_alike ps ps' qs qs' h k.2)
        | inr a ↦
            let b : held eq ps' q'.0 ≡ false = sym e ∙ a in
            rw (a, b) (absorbed_alike (ps ++ q ∷ []) (ps' ++ q' ∷ []) qs qs' (IsSamePath-append ps ps' (q ∷ []) (q' ∷ []) h (k.0, k.1, tt)) k.2)
      ]

  pub outside_alike : OutsideAlike eq same
  outside_alike ps ps' [] [] h k = tt
  outside_alike ps ps' [] (q' ∷ s') h k = absurd k
  outside_alike ps ps' (q ∷ s) [] h k = absurd k
  outside_alike ps ps' (q ∷ s) (q' ∷ s') h k =
      let e : held eq ps q.0 ≡ held eq ps' q'.0 = held_alike ps ps' q.0 q'.0 h k.0 in
      elim (cases_Bool (held eq ps q.0)) [
        | inl a ↦ let b : held eq ps' q'.0 ≡ true = sym e ∙ a in rw (a, b) (outside_alike ps ps' s s' h k.2)
        | inr a ↦ let b : held eq ps' q'.0 ≡ false = sym e ∙ a in rw (a, b) (k.0, k.1, outside_alike ps ps' s s' h k.2)
      ]
