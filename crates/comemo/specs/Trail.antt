-- What look-ups asked so far.
use Rattle.std.specs.Prelude.{Bool, IsTrue, List}
use Rattle.std.specs.List.{All}

-- each pair is a call with the answer to it
abbrev pub IsTrail : {C R : Type 0} → (R → R → Bool) → (C → R) → List (C × R) → Type 0
IsTrail same m pairs = All (λ p. IsTrue (same (m p.0) p.1)) pairs
