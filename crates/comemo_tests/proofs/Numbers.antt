-- Equal numbers are the same.
use Rattle.std.proofs.Common.{◌≡◌, ℕ, nat_eq, rules, IsTrue}

-- equal answers are the same, in the other direction
pub same_number : (a b : ℕ) → IsTrue (nat_eq a b) → b ≡ a
same_number a b h = search rules
