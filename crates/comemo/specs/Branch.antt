-- Branches of a run.
use Rattle.std.specs.Prelude.{◌≡◌, true, false, []}
use Rattle.comemo_track.specs.Recording.{Spoiled}
use Rattle.comemo.specs.Function.{Recorded}

-- a new branch: of the same value, with an empty recording
pub record IsBranch {V C R : Type 0} (outer branch : Recorded V C R) : Type 0 where
  pub same_value : branch.value ≡ outer.value
  pub pairs : branch.recording.pairs ≡ []
  pub complete : branch.recording.complete ≡ true
  pub early : branch.recording.late ≡ false

-- t is s, of the same value, marked incomplete
pub record Spoils {V C R : Type 0} (s t : Recorded V C R) : Type 0 where
  pub same_value : t.value ≡ s.value
  pub recording : Spoiled s.recording t.recording
