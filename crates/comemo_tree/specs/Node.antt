-- The names of nodes.
use Rattle.std.specs.Prelude.{◌≡◌, ℕ, Bool, false, nat_eq, ◌⊎◌, refl}
use Rattle.std.specs.Coded.{Coded, code_by, coded⊎, coded_ℕ}
use mathlib.Core.Logic.{inl, inr}
use Rattle.comemo_tree.specs.declared.children.Node.{Node}
use Rattle.comemo_tree.specs.declared.children.Node.TheVariants.{Inner, Leaf}

-- whether they are the same
abbrev pub node_eq : Node → Node → Bool
node_eq (Inner a) (Inner b) = nat_eq a b
node_eq (Inner a) (Leaf b) = false
node_eq (Leaf a) (Inner b) = false
node_eq (Leaf a) (Leaf b) = nat_eq a b

abbrev node_cases : Node → ℕ ⊎ ℕ
node_cases (Inner a) = inl a
node_cases (Leaf a) = inr a

abbrev node_from : ℕ ⊎ ℕ → Node
node_from (inl a) = Inner a
node_from (inr a) = Leaf a

pub node_back : (n : Node) → node_from (node_cases n) ≡ n
node_back (Inner a) = refl
node_back (Leaf a) = refl

-- a node is coded as one of two numbers
abbrev pub node_code : Coded Node
node_code = code_by (ℕ ⊎ ℕ) (coded⊎ coded_ℕ coded_ℕ) node_cases node_from node_back
