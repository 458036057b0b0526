-- What a recording holds, and how it takes more.
use Rattle.std.specs.Prelude.{◌≡◌, ℕ, ◌||◌, Bool, true, false, List, ◌∷◌, ◌++◌, refl}
use Rattle.std.specs.List.{All}
use Rattle.std.specs.Coded.{Coded, code_by, coded×, coded_list, coded_bool, coded_ℕ}
use Rattle.comemo_base.specs.Answers.{Agrees}
use Rattle.comemo_base.specs.Sequence.{Sequence, was_seen, held, absorbed}
use Rattle.comemo_track.specs.Writing.{touched, touched_by}

-- reads with their answers; writes; whether nothing was lost; whether a read came after a write that touches it; and the room
-- for more writes
pub record Recording (C R : Type 0) : Type 0 where
  pub pairs : List (C × R)
  pub writes : List C
  pub complete : Bool
  pub late : Bool
  pub room : ℕ

-- t is s after it took these pairs, and then these writes; it is late if s was, or one of its writes touches one of the pairs' reads
pub record Took {C R : Type 0} (eq touches : C → C → Bool) (s t : Recording C R) (P : List (C × R)) (W : List C) : Type 0 where
  pub pairs : t.pairs ≡ absorbed eq s.pairs P
  pub writes : t.writes ≡ s.writes ++ W
  pub complete : t.complete ≡ s.complete
  pub late : t.late ≡ (s.late || touched touches s.writes P)

-- t is s, marked incomplete
pub record Spoiled {C R : Type 0} (s t : Recording C R) : Type 0 where
  pub pairs : t.pairs ≡ s.pairs
  pub writes : t.writes ≡ s.writes
  pub complete : t.complete ≡ false
  pub late : t.late ≡ s.late

-- t is s, marked late
pub record MarkedLate {C R : Type 0} (s t : Recording C R) : Type 0 where
  pub pairs : t.pairs ≡ s.pairs
  pub writes : t.writes ≡ s.writes
  pub complete : t.complete ≡ s.complete
  pub late : t.late ≡ true

-- one of these writes touches a read that equals one of these pairs' reads
abbrev pub TouchesHeld : {C R : Type 0} → (eq touches : C → C → Bool) → List C → List (C × R) → Type 0
TouchesHeld {C} eq touches W P = (read : C) × (held eq P read ≡ true) × (touched_by touches W read ≡ true)

-- the recording is late only if one of its writes touches one of its reads
pub record IsLateByTouch {C R : Type 0} (eq touches : C → C → Bool) (s : Recording C R) : Type 0 where
  pub touching : s.late ≡ true → TouchesHeld eq touches s.writes s.pairs

-- the answers agree with a proper prefix of the pairs
abbrev pub AgreesBefore : {C R : Type 0} → (R → R → Bool) → (C → R) → List (C × R) → Type 0
AgreesBefore {C} {R} same m pairs = (prefix : List (C × R)) × (next : C × R) × (rest : List (C × R)) × (pairs ≡ prefix ++ next ∷ rest) × Agrees same m prefix

-- a recording is coded as the tuple of its fields, which a proof needs to tell two apart
abbrev pub recording_code : {C R : Type 0} → Coded C → Coded R → Coded (Recording C R)
recording_code {C} {R} c r =
    code_by (List (C × R) × (List C × (Bool × (Bool × ℕ)))) (coded× (coded_list (coded× c r)) (coded× (coded_list c) (coded× coded_bool (coded× coded_bool coded_ℕ)))) (λ s. (s.pairs, (s.writes, (s.complete, (s.late, s.room))))) (λ p. record { pairs = p.0; writes = p.1.0; complete = p.1.1.0; late = p.1.1.1.0; room = p.1.1.1.1 }) (λ _. refl)

-- the invariant of a `Constraint`: the calls seen are those of the pairs, all of them reads, and the writes are writes
pub record IsRecording {C R : Type 0} (eq : C → C → Bool) (w : C → Bool) (reads : Sequence C R) (writes : List C) : Type 0 where
  pub seen : (call : C) → was_seen eq reads call ≡ held eq reads.pairs call
  pub all_reads : All (λ p. w p.0 ≡ false) reads.pairs
  pub all_writes : All (λ c. w c ≡ true) writes
