-- Lemmas on counting distinct things.
use Rattle.std.proofs.Common.{◌≡◌, ◌≤◌, ℕ, suc, List, [], ◌∷◌, ◌++◌, length, get_or, map, ap, subst, refl, inl, inr, arith, length-append}
use Rattle.std.specs.List.{All, AllPairs, AllZip, Any}
use Rattle.std.proofs.lemmas.List.Elements.{All-cons, All-head, All-tail, All-map}
use Rattle.std.proofs.lemmas.List.Kept.{AllPairs-cons}
use Rattle.comemo_base.proofs.Under.{Any-here, Any-later, Any-split}
use Rattle.comemo_tree.specs.Shape.{Counts}

module _ {X : Type 0} (A : X → X → Type 0) where
  -- the first, and each later one
  pub AllPairs-head : (x : X) (xs : List X) → AllPairs A (x ∷ xs) → All (A x) xs
  AllPairs-head x xs h k d l = h 0 (suc k) d (omega arith) (omega (arith, l))

  pub AllPairs-tail : (x : X) (xs : List X) → AllPairs A (x ∷ xs) → AllPairs A xs
  AllPairs-tail x xs h i j d l m = h (suc i) (suc j) d (omega (arith, l)) (omega (arith, m))

  pub AllPairs-append : (xs ys : List X) → AllPairs A xs → AllPairs A ys → All (λ x. All (A x) ys) xs → AllPairs A (xs ++ ys)
  AllPairs-append [] ys h k both = k
  AllPairs-append (x ∷ xs) ys h k both =
      AllPairs-cons A x (xs ++ ys) (All-joined (A x) xs ys (AllPairs-head x xs h) (All-head (λ z. All (A z) ys) x xs both)) (AllPairs-append xs ys (AllPairs-tail x xs h) k (All-tail (λ z. All (A z) ys) x xs both))
    where
      All-joined : (P : X → Type 0) (xs ys : List X) → All P xs → All P ys → All P (xs ++ ys)
      All-joined P [] ys h k = k
      All-joined P (x ∷ xs) ys h k = All-cons P x (xs ++ ys) (All-head P x xs h) (All-joined P xs ys (All-tail P x xs h) k)

-- an element of the one or the other
module _ {X : Type 0} (P : X → Type 0) where
  pub Any-left : (xs ys : List X) → Any P xs → Any P (xs ++ ys)
  Any-left [] ys h = absurd (omega (arith, h.2))
  Any-left (x ∷ xs) ys h = elim (Any-split P x xs h) [ inl here ↦ Any-here P x (xs ++ ys) here | inr later ↦ Any-later P x (xs ++ ys) (Any-left xs ys later) ]

  pub Any-right : (xs ys : List X) → Any P ys → Any P (xs ++ ys)
  Any-right [] ys h = h
  Any-right (x ∷ xs) ys h = Any-later P x (xs ++ ys) (Any-right xs ys h)

  -- the elements around one
  around : (xs : List X) → Any P xs → (prefix : List X) × (x : X) × (back : List X) × (xs ≡ prefix ++ x ∷ back) × P x
  around [] h = absurd (omega (arith, h.2))
  around (x ∷ xs) h = elim (Any-split P x xs h) [
    | inl here ↦ ([], x, xs, refl, here)
    | inr later ↦ (let r = around xs later in (x ∷ r.0, r.1, r.2, ap (λ ys. x ∷ ys) r.3, r.4))
  ]

  -- an element that is not the one between
  others : (prefix : List X) (x : X) (back : List X) → ¬ P x → Any P (prefix ++ x ∷ back) → Any P (prefix ++ back)
  others [] x back other h = elim (Any-split P x back h) [ inl here ↦ absurd (other here) | inr later ↦ later ]
  others (y ∷ prefix) x back other h = elim (Any-split P y (prefix ++ x ∷ back) h) [
    | inl here ↦ Any-here P y (prefix ++ back) here
    | inr later ↦ Any-later P y (prefix ++ back) (others prefix x back other later)
  ]

module _ {X : Type 0} (same_as : X → X → Type 0) (turn : (x y : X) → same_as x y → same_as y x) (join : (x y z : X) → same_as x y → same_as y z → same_as x z) where
  -- things of which no two are the same, but each is the same as one of others, are no more than those
  pub no_more : (xs ys : List X) → AllPairs (λ x y. ¬ same_as x y) xs → All (λ x. Any (same_as x) ys) xs → length xs ≤ length ys
  no_more [] ys h a = omega arith
  no_more (x ∷ xs) ys h a =
      let r = around (same_as x) ys (All-head (λ z. Any (same_as z) ys) x xs a) in
      let apart = AllPairs-head (λ x y. ¬ same_as x y) x xs h in
      let left : All (λ z. Any (same_as z) (r.0 ++ r.2)) xs = λ k d l.
      (let z = get_or xs k d in
      others (same_as z) r.0 r.1 r.2 (λ s. apart k d l (join x r.1 z r.4 (turn z r.1 s))) (subst (Any (same_as z)) r.3 (All-tail (λ z. Any (same_as z) ys) x xs a k d l))) in
      let rest = no_more xs (r.0 ++ r.2) (AllPairs-tail (λ x y. ¬ same_as x y) x xs h) left in
      omega (arith, rest, ap length r.3, length-append r.0 r.2, length-append r.0 (r.1 ∷ r.2))

  -- so there is one number of the things with a property
  pub one_count : (P : X → Type 0) (m n : ℕ) → Counts P same_as m → Counts P same_as n → m ≡ n
  one_count P m n a b =
      let le = no_more a.things b.things a.apart (λ k d l. b.each (get_or a.things k d) (a.only k d l)) in
      let ge = no_more b.things a.things b.apart (λ k d l. a.each (get_or b.things k d) (b.only k d l)) in
      omega (arith, le, ge, a.many, b.many)

module _ {X Y : Type 0} (R : X → Y → Type 0) where
  -- where each has one that it is related to, a list of those
  pub chosen : (xs : List X) → All (λ x. (y : Y) × R x y) xs → (ys : List Y) × AllZip R xs ys
  chosen [] h = ([], tt)
  chosen (x ∷ xs) h =
      let one = All-head (λ x. (y : Y) × R x y) x xs h in
      let rest = chosen xs (All-tail (λ x. (y : Y) × R x y) x xs h) in
      (one.0 ∷ rest.0, (one.1, rest.1))

  pub length-chosen : (xs : List X) (ys : List Y) → AllZip R xs ys → length ys ≡ length xs
  length-chosen [] [] h = refl
  length-chosen [] (y ∷ ys) h = absurd h
  length-chosen (x ∷ xs) [] h = absurd h
  length-chosen (x ∷ xs) (y ∷ ys) h = omega (arith, length-chosen xs ys h.1)

  -- what holds of each by what it is related to
  pub All-chosen : (P : X → Type 0) (Q : Y → Type 0) → ((x : X) (y : Y) → P x → R x y → Q y) → (xs : List X) (ys : List Y) → All P xs → AllZip R xs ys → All Q ys
  All-chosen P Q f [] [] a h = λ k d l. absurd (omega (arith, l))
  All-chosen P Q f [] (y ∷ ys) a h = absurd h
  All-chosen P Q f (x ∷ xs) [] a h = absurd h
  All-chosen P Q f (x ∷ xs) (y ∷ ys) a h = All-cons Q y ys (f x y (All-head P x xs a) h.0) (All-chosen P Q f xs ys (All-tail P x xs a) h.1)

  pub Any-chosen : (P : X → Type 0) (Q : Y → Type 0) → ((x : X) (y : Y) → P x → R x y → Q y) → (xs : List X) (ys : List Y) → Any P xs → AllZip R xs ys → Any Q ys
  Any-chosen P Q f [] ys a h = absurd (omega (arith, a.2))
  Any-chosen P Q f (x ∷ xs) [] a h = absurd h
  Any-chosen P Q f (x ∷ xs) (y ∷ ys) a h = elim (Any-split P x xs a) [
    | inl here ↦ Any-here Q y ys (f x y here h.0)
    | inr later ↦ Any-later Q y ys (Any-chosen P Q f xs ys later h.1)
  ]

  pub AllPairs-chosen : (A : X → X → Type 0) (B : Y → Y → Type 0) → ((x x' : X) (y y' : Y) → A x x' → R x y → R x' y' → B y y') → (xs : List X) (ys : List Y) → AllPairs A xs → AllZip R xs ys → AllPairs B ys
  AllPairs-chosen A B f [] [] a h = λ i j d l m. absurd (omega (arith, m))
  AllPairs-chosen A B f [] (y ∷ ys) a h = absurd h
  AllPairs-chosen A B f (x ∷ xs) [] a h = absurd h
  AllPairs-chosen A B f (x ∷ xs) (y ∷ ys) a h =
      AllPairs-cons B y ys (All-chosen (A x) (B y) (λ x' y' p r. f x x' y y' p h.0 r) xs ys (AllPairs-head A x xs a) h.1) (AllPairs-chosen A B f xs ys (AllPairs-tail A x xs a) h.1)

module _ {X Y : Type 0} (f : X → Y) where
  pub AllPairs-map : (A : Y → Y → Type 0) (xs : List X) → AllPairs (λ x y. A (f x) (f y)) xs → AllPairs A (map f xs)
  AllPairs-map A [] h = λ i j d l m. absurd (omega (arith, m))
  AllPairs-map A (x ∷ xs) h =
      AllPairs-cons A (f x) (map f xs) (All-map (A (f x)) f xs (AllPairs-head (λ x y. A (f x) (f y)) x xs h)) (AllPairs-map A xs (AllPairs-tail (λ x y. A (f x) (f y)) x xs h))

  pub Any-map : (P : Y → Type 0) (xs : List X) → Any (λ x. P (f x)) xs → Any P (map f xs)
  Any-map P [] h = absurd (omega (arith, h.2))
  Any-map P (x ∷ xs) h = elim (Any-split (λ x. P (f x)) x xs h) [
    | inl here ↦ Any-here P (f x) (map f xs) here
    | inr later ↦ Any-later P (f x) (map f xs) (Any-map P xs later)
  ]
