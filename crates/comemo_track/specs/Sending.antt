-- What a call sends to a sink.
use Rattle.std.specs.Prelude.{◌≡◌, Bool, true, false, List, [], ◌∷◌, ◌++◌, Option, Some, None, IsTrue}

-- the pairs that a call sends: its own, if it has an answer
abbrev pub sent_pairs : {C R : Type 0} → C → Option R → List (C × R)
sent_pairs call None = []
sent_pairs call (Some answer) = (call, answer) ∷ []

-- the writes that it sends: itself, if it has no answer
abbrev pub sent_writes : {C R : Type 0} → C → Option R → List C
sent_writes call None = call ∷ []
sent_writes call (Some answer) = []

-- a read had this answer, which is the map's, and its pair was sent to a sink, up to equality of answers
pub record Asks {C R : Type 0} (same : R → R → Bool) (m : C → R) (call : C) (answer : R) (went : List (C × R) → List C → Type 0) : Type 0 where
  pub gives : IsTrue (same (m call) answer)
  pub noted : R
  pub alike : IsTrue (same (m call) noted)
  pub sent : went ((call, noted) ∷ []) []

-- the sink took a prefix of these pairs, and was then marked incomplete
pub record BreaksOff {S C R : Type 0} (took : S → S → List (C × R) → List C → Type 0) (spoils : S → S → Type 0) (s t : S) (pairs : List (C × R)) : Type 0 where
  pub prefix : List (C × R)
  pub rest : List (C × R)
  pub parts : pairs ≡ prefix ++ rest
  pub mid : S
  pub taken : took s mid prefix []
  pub spoiled : spoils mid t

-- the sink took these pairs and these writes, and was then marked incomplete
pub record SpoiledAfter {S C R : Type 0} (took : S → S → List (C × R) → List C → Type 0) (spoils : S → S → Type 0) (s t : S) (pairs : List (C × R)) (writes : List C) : Type 0 where
  pub mid : S
  pub taken : took s mid pairs writes
  pub spoiled : spoils mid t

-- the sink took these pairs and these writes, and was then marked late if this says so
abbrev pub TookAs : {S C R : Type 0} → (S → S → List (C × R) → List C → Type 0) → (S → S → Type 0) → Bool → S → S → List (C × R) → List C → Type 0
TookAs took lates false s t pairs writes = took s t pairs writes
TookAs {S} took lates true s t pairs writes = (mid : S) × took s mid pairs writes × lates mid t
