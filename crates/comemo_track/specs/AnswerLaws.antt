-- Laws of answers that are made of answers. A reader needn't trust them.
use Rattle.std.proofs.Common.{Bool, IsTrue, List, [], ◌∷◌, rules}
use Rattle.std.specs.List.{AllZip}
use Rattle.std.specs.Cmp.Lexicographic.{pointwise}

-- a list is equal to its clone where each item is equal to its own
pub items_clone : {X : Type 0} (same : X → X → Bool) (clone : X → X → Type 0) → ((x y : X) → clone x y → IsTrue (same x y)) → (xs ys : List X) → AllZip clone xs ys → IsTrue (pointwise same xs ys)
items_clone same clone each [] [] h = search rules
items_clone same clone each [] (y ∷ ys) h = search rules
items_clone same clone each (x ∷ xs) [] h = search rules
items_clone same clone each (x ∷ xs) (y ∷ ys) h = search (rules, each x y h.0, items_clone same clone each xs ys h.1)
