-- What a recorder learns from a function that calls itself and writes, and how its calls begin and finish.
use Rattle.std.specs.Prelude.{◌≡◌, Bool, true, false, List, IsTrue, []}
use Rattle.comemo_track.specs.Recording.{Recording, IsLateByTouch}
use Rattle.comemo_cache.specs.Meaning.{Meaning, Invocation}
use Rattle.comemo_cache.specs.Cache.{Entries, HasNone}
use Rattle.comemo.specs.Begin.{Reaches}
use Rattle.comemo.specs.FunctionMut.{Lent, Began, HasBegun}

-- a run was begun by a recorder that was lent s, and is now at t: its recording is in the place of the recorder's own,
-- which is set aside. While its recording is complete, it began at the value at which the run was begun, and is late
-- only if one of its writes touches one of its reads
pub record Within {V C R : Type 0} (did : V → V → List C → Type 0) (eq touches : C → C → Bool) (same : R → R → Bool) (answers : V → C → R) (s t : Lent V C R) (around : Recording C R) : Type 0 where
  pub kept : around ≡ s.recording.now
  pub agreed : HasBegun did same answers s
  pub same_value : t.value.ghost_name ≡ s.value.ghost_name
  pub same_recording : t.recording.ghost_name ≡ s.recording.ghost_name
  pub began : t.recording.now.complete ≡ true → Began did same answers s.value.now t
  pub late : t.recording.now.complete ≡ true → IsLateByTouch eq touches t.recording.now
  pub reached : Reaches did s.value.now t.value.now

-- an empty recording, complete and not late
pub record IsEmpty {C R : Type 0} (recording : Recording C R) : Type 0 where
  pub pairs : recording.pairs ≡ []
  pub writes : recording.writes ≡ []
  pub complete : recording.complete ≡ true
  pub early : recording.late ≡ false

-- a run begins under a key that equals the call's; no entry has the key and agrees
pub record StartsMut {K C R O : Type 0} (M : Meaning K C R O) (es : Entries K C R O) (call : Invocation K C R) (own : K) : Type 0 where
  pub has_key : IsTrue (M.same_key call.key own)
  pub none : HasNone M es call
