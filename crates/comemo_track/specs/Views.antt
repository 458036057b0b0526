-- The state of a view that writes or has a sink, and how views print.
use Rattle.std.specs.Prelude.{ℕ, List, codes}
use Rattle.std.specs.Borrow.{MutBor}
use Rattle.comemo_track.specs.declared.track.TrackedWith.{TrackedWith}
use Rattle.comemo_track.specs.declared.writing.TrackedMut.{TrackedMut}
use Rattle.comemo_track.specs.declared.writing.TrackedMutWith.{TrackedMutWith}

module _ {T S : Type 0} where
  -- the value that a view with a sink reads
  abbrev pub value_of : TrackedWith T S → T
  value_of view = view.value.now

  -- the sink that it sends its reads to, as it was lent
  abbrev pub sink_of : TrackedWith T S → MutBor S
  sink_of view = view.sink

  -- the value that a writing view with a sink reads and writes, as it was lent
  abbrev pub place_in : TrackedMutWith T S → MutBor T
  place_in view = view.value

  -- the sink that it sends its calls to, as it was lent
  abbrev pub writing_sink_of : TrackedMutWith T S → MutBor S
  writing_sink_of view = view.sink

-- the value that a writing view reads and writes, as it was lent
abbrev pub place_of : {T : Type 0} → TrackedMut T → MutBor T
place_of view = view.value

-- what a view that asks each time prints, with no option at the hole
abbrev pub view_text : List ℕ
view_text = codes "View(..)"

-- what the other reading views print
abbrev pub tracked_text : List ℕ
tracked_text = codes "Tracked(..)"

-- what a writing view prints
abbrev pub tracked_mut_text : List ℕ
tracked_mut_text = codes "TrackedMut(..)"
