-- For authors of functions whose keys, calls or answers are texts, or lists of texts or of other items.
use Rattle.std.specs.Prelude.{◌≡◌, List, [], ◌∷◌, Bool, String, map, string_bytes}
use Rattle.std.specs.Global.{Global}
use Rattle.std.specs.List.{AllZip, fold}
use Rattle.std.specs.String.{string_eq}
use Rattle.std.proofs.Common.{IsTrue, rules, refl, sym, subst, ◌∙◌}
use Rattle.std.specs.Cmp.{IsEquivalence}
use Rattle.std.specs.Cmp.Lexicographic.{pointwise, same_text}
use Rattle.std.proofs.lemmas.Cmp.{nat_list_eq_equiv}
use Rattle.comemo_base.specs.Answers.{Respects}
use Rattle.comemo_track.specs.AnswerLaws.{items_clone}
use Rattle.comemo_base.proofs.Paths.{turned, joined}

-- equal texts have the same bytes
pub bytes_of_equal : (a b : String Global) → IsTrue (string_eq a b) → string_bytes a ≡ string_bytes b
bytes_of_equal a b h = search (rules, same_text)

-- texts of the same bytes are equal, as a text and its clone
pub equal_of_bytes : (a b : String Global) → string_bytes b ≡ string_bytes a → IsTrue (string_eq a b)
equal_of_bytes a b h = search (rules, nat_list_eq_equiv)

module _ {X : Type 0} (same : X → X → Bool) where
  -- a list is equal to itself where each item is
  pub items_refl : ((x : X) → IsTrue (same x x)) → (xs : List X) → IsTrue (pointwise same xs xs)
  items_refl each [] = search rules
  items_refl each (x ∷ xs) = search (rules, each x, items_refl each xs)

  -- if equal items are the same, so are lists of equal items
  pub items_same : ((x y : X) → IsTrue (same x y) → y ≡ x) → (xs ys : List X) → IsTrue (pointwise same xs ys) → ys ≡ xs
  items_same exact [] [] h = refl
  items_same exact [] (y ∷ ys) h = search rules
  items_same exact (x ∷ xs) [] h = search rules
  items_same exact (x ∷ xs) (y ∷ ys) h =
      let both : IsTrue (same x y) × IsTrue (pointwise same xs ys) = search rules in
      rw (exact x y both.0, items_same exact xs ys both.1) refl

-- if equal calls are the same, any answers, each equal to itself, respect equality
pub respects_same : {C R : Type 0} (eq : C → C → Bool) (same : R → R → Bool) → ((x y : C) → IsTrue (eq x y) → y ≡ x) → ((a : R) → IsTrue (same a a)) → (m : C → R) → Respects eq same m
respects_same eq same exact each m x y h = subst (λ d. IsTrue (same (m x) (m d))) (sym (exact x y h)) (each (m x))

-- a list of texts is equal to itself, and to its clone
pub texts_refl : (xs : List (String Global)) → IsTrue (pointwise string_eq xs xs)
texts_refl = items_refl string_eq (λ x. equal_of_bytes x x refl)

pub texts_clone : (xs ys : List (String Global)) → AllZip (λ s t. string_bytes t ≡ string_bytes s) xs ys → IsTrue (pointwise string_eq xs ys)
texts_clone = items_clone string_eq (λ s t. string_bytes t ≡ string_bytes s) equal_of_bytes

-- texts that are equal in turn have the same bytes
pub bytes_in_turn : (xs ys : List (String Global)) → IsTrue (pointwise string_eq xs ys) → map string_bytes xs ≡ map string_bytes ys
bytes_in_turn [] [] h = refl
bytes_in_turn [] (y ∷ ys) h = search rules
bytes_in_turn (x ∷ xs) [] h = search rules
bytes_in_turn (x ∷ xs) (y ∷ ys) h =
    let both : IsTrue (string_eq x y) × IsTrue (pointwise string_eq xs ys) = search rules in
    rw (bytes_of_equal x y both.0, bytes_in_turn xs ys both.1) refl

-- a fold whose step treats equal items alike returns the same for items that are equal in turn
pub fold_alike : {O X : Type 0} (same : X → X → Bool) (f : O → X → O) → ((o : O) (x y : X) → IsTrue (same x y) → f o x ≡ f o y) → (o : O) (xs ys : List X) → IsTrue (pointwise same xs ys) → fold f o xs ≡ fold f o ys
fold_alike same f alike o [] [] h = search rules
fold_alike same f alike o [] (y ∷ ys) h = search rules
fold_alike same f alike o (x ∷ xs) [] h = search rules
fold_alike same f alike o (x ∷ xs) (y ∷ ys) h =
    let both : IsTrue (same x y) × IsTrue (pointwise same xs ys) = search rules in
    rw (alike o x y both.0) (fold_alike same f alike (f o y) xs ys both.1)

module _ {C R : Type 0} {eq : C → C → Bool} {same : R → R → Bool} (m : C → R) (respects : Respects eq same m) where
  -- what holds of a call holds of an equal call
  pub told_of_equal : IsEquivalence same → (c d : C) (answer : R) → IsTrue (eq c d) → IsTrue (same (m c) answer) → IsTrue (same (m d) answer)
  told_of_equal answers c d answer e h = joined answers (m d) (m c) answer (turned answers (m c) (m d) (respects c d e)) h

  -- if g treats equal answers alike, it returns the same for the answer of a call and for that of an equal call
  pub alike_of_told : {X : Type 0} (g : R → X) → ((a b : R) → IsTrue (same a b) → g a ≡ g b) → (c d : C) (answer : R) → IsTrue (eq c d) → IsTrue (same (m c) answer) → g answer ≡ g (m d)
  alike_of_told g alike c d answer e h = sym (alike (m c) answer h) ∙ alike (m c) (m d) (respects c d e)
