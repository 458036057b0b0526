-- Equal lists of places are the same. No reader needs to believe it.
use Rattle.std.specs.Prelude.{◌≡◌, ℕ, List, nat_eq}
use Rattle.std.specs.List.{AllZip}
use Rattle.std.specs.Cmp.Lexicographic.{pointwise}
use Rattle.std.proofs.Common.{IsTrue, rules, ap, sym}
use Rattle.comemo.specs.AnswerLaws.{items_clone}
use Rattle.comemo.proofs.Texts.{items_same}

pub places_clone : (xs ys : List ℕ) → AllZip (λ x y. y ≡ x) xs ys → IsTrue (pointwise nat_eq xs ys)
places_clone = items_clone nat_eq (λ x y. y ≡ x) (λ x y h. search rules)

pub places_alike : (f : List ℕ → ℕ) (xs ys : List ℕ) → IsTrue (pointwise nat_eq xs ys) → f xs ≡ f ys
places_alike f xs ys e = ap f (sym (items_same nat_eq (λ x y h. search rules) xs ys e))
