-- How a run of a memoized function ends.
use Rattle.std.specs.Prelude.{◌≡◌, ◌↔◌, Bool, true, false, List}
use Rattle.comemo_base.specs.Answers.{Respects, Agrees}
use Rattle.comemo_base.specs.Tree.{IsSamePath}
use Rattle.comemo_base.specs.Lookup.{under}
use Rattle.comemo_base.specs.Insertion.{Exists, Misses}
use Rattle.comemo_cache.specs.Meaning.{Meaning, Run, IsNamed, IsNamedRun}
use Rattle.comemo_cache.specs.Cache.{Entries}
use Rattle.comemo_cache.specs.Storing.{Stores}
use Rattle.comemo.specs.Begin.{PendingRun, came_to}
use Rattle.comemo.specs.declared.pending.How.{How}
use Rattle.comemo.specs.declared.pending.How.TheVariants as how
use Rattle.comemo.specs.declared.pending.Reply.{Reply}

module _ {K C R O : Type 0} (M : Meaning K C R O) (es : Entries K C R O) where
  module _ (ran : Run K C R O) where
    -- the entries after a run with this result, by what became of it; only a stored run adds one, and a call is missing
    -- only if the function doesn't name the calls that it asks
    abbrev pub Ends : How → Entries K C R O → Type 0
    Ends how.Hit es' = ⊥
    Ends how.Stored es' = Stores M es ran es'
    Ends how.AlreadyExists es' = Exists M.same_call M.same_answer (under M.same_key es ran.key) ran.pairs × (es' ≡ es)
    Ends how.MissingCall es' = (¬ IsNamed M) × Misses M.same_call M.same_answer (under M.same_key es ran.key) ran.pairs × (es' ≡ es)
    Ends how.NotStored es' = es' ≡ es
    Ends how.Disabled es' = es' ≡ es
    Ends how.Late es' = es' ≡ es

-- the pairs went to the sink, up to equality, so that the same answers agree with what went there, and then the writes
pub record Gives {K C R O : Type 0} (M : Meaning K C R O) (sent : List (C × R) → List C → Type 0) (pairs : List (C × R)) (writes : List C) : Type 0 where
  pub given : List (C × R)
  pub alike : IsSamePath M.same_call M.same_answer given pairs
  pub agreeing : (m : C → R) → Respects M.same_call M.same_answer m → Agrees M.same_answer m given ↔ Agrees M.same_answer m pairs
  pub are_sent : sent given writes

-- the run was finished with this output, which is the reply's: its recording, which is complete, went to the sink, and
-- the reply says what became of the entries; it is late exactly if the recording is, and disabled exactly if the
-- recording isn't late and the run began so; if the asked calls are named, a recording that isn't late is a run of them
pub record Finished {K C R O : Type 0} (M : Meaning K C R O) (es : Entries K C R O) (pending : PendingRun K C R) (sent : List (C × R) → List C → Type 0) (output : O) (reply : Reply O) (es' : Entries K C R O) : Type 0 where
  pub complete : pending.recording.complete ≡ true
  pub same : reply.output ≡ output
  pub ends : Ends M es (came_to pending output) reply.how es'
  pub late : (reply.how ≡ how.Late) ↔ (pending.recording.late ≡ true)
  pub disabled : (reply.how ≡ how.Disabled) ↔ ((pending.enabled ≡ false) × (pending.recording.late ≡ false))
  pub settled : pending.recording.late ≡ false → IsNamedRun M pending.key pending.recording.pairs
  pub gives : Gives M sent pending.recording.pairs pending.recording.writes

-- a sink, broken off, took a prefix of these pairs, up to equality
pub record BreaksOffRun {K C R O : Type 0} (M : Meaning K C R O) (broken : List (C × R) → Type 0) (pairs : List (C × R)) : Type 0 where
  pub given : List (C × R)
  pub alike : IsSamePath M.same_call M.same_answer given pairs
  pub is_broken : broken given

-- a sink, broken off, took a prefix of pairs that the answers agree with
pub record BrokeOff {C R : Type 0} (same : R → R → Bool) (m : C → R) (broken : List (C × R) → Type 0) : Type 0 where
  pub pairs : List (C × R)
  pub agrees : Agrees same m pairs
  pub is_broken : broken pairs
