-- Lists of bytes are equal by their test exactly if they are the same.
use Rattle.std.proofs.Common.{◌≡◌, ℕ, List, IsTrue, rules}
use Rattle.std.specs.Prelude.{nat_eq}
use Rattle.std.specs.Cmp.Lexicographic.{pointwise, same_text}
use Rattle.std.proofs.lemmas.Cmp.{nat_list_eq_equiv}

pub same_bytes : (a b : List ℕ) → IsTrue (pointwise nat_eq a b) → a ≡ b
same_bytes a b h = search (rules, same_text)

pub equal_bytes : (a b : List ℕ) → b ≡ a → IsTrue (pointwise nat_eq a b)
equal_bytes a b h = search (rules, nat_list_eq_equiv)
