-- The theorems, for the meaning of any memoized function.
use Rattle.std.specs.Prelude.{◌≡◌, ◌↔◌, ◌⊎◌, ◌++◌, ℕ, Bool, true, false, List, [], ◌∷◌, Option}
use Rattle.std.specs.List.{All}
use Rattle.comemo_base.specs.Answers.{Respects}
use Rattle.comemo_base.specs.Tree.{IsTree}
use Rattle.comemo_track.specs.Recording.{Recording, Took, Spoiled}
use Rattle.comemo_track.specs.Sending.{BreaksOff, SpoiledAfter}
use Rattle.comemo_cache.specs.Meaning.{Meaning, Invocation, Run, run, SameWrites, IsNamed}
use Rattle.comemo_cache.specs.Cache.{Entries, HasNone, Has}
use Rattle.comemo_cache.specs.Held.{Leads}
use Rattle.comemo.specs.Begin.{PendingRun, IsRun, came_to}
use Rattle.comemo.specs.Called.{IsDue, IsReply, IsReplyMut, HeldReplyMut}
use Rattle.comemo.specs.Finish.{Finished, Gives}
use Rattle.comemo.specs.FunctionMut.{FailsBy}
use Rattle.comemo.specs.declared.pending.Fault.{Fault}
use Rattle.comemo.specs.declared.pending.Fault.TheVariants as fault
use Rattle.comemo.specs.declared.pending.Reply.{Reply}
use Rattle.comemo.specs.declared.pending.How.TheVariants as how
use Rattle.comemo_theorems.specs.History.{Step, found, touched, missed, ended, Does, History, Answers, Honest, Right, Outlives}

module _ {K C R O : Type 0} (M : Meaning K C R O) where
  -- Never stale. In every history of honest runs from an empty cache, what each step returns is right.
  abbrev pub NeverStale : Type 0
  NeverStale = (h : List (Step K C R O)) (es : Entries K C R O) → History M h [] es → All (Honest M) h → All (Right M) h

  -- the second run has a clone of a clone of the first one's output, and equal writes
  abbrev pub IsCopy : Run K C R O → Run K C R O → Type 0
  IsCopy ran copy = (kept : O) × M.is_clone ran.output kept × M.is_clone kept copy.output × SameWrites M.same_call ran.writes copy.writes

  -- Hits again. After a run was stored, each call that it answers finds an entry, and in it a copy of that run, until an
  -- eviction whose bound the entry's age reaches.
  abbrev pub HitsAgain : Type 0
  HitsAgain =
      (call later : Invocation K C R) (ran : Run K C R O) (h : List (Step K C R O)) (before es after : Entries K C R O)
      → Does M (ended call ran how.Stored) before es
      → History M h es after → All (Honest M) h → Outlives M (λ _. ⊥) 0 h
      → Answers M later ran
      → (¬ HasNone M after later) × ((again : Run K C R O) → Has M after later again → IsCopy ran again)

  -- Hits until old. The age that counts is that since the run was stored or last hit, in a cache, whose paths part, and in
  -- a history from an empty one.
  abbrev pub HitsUntilOld : Type 0
  HitsUntilOld =
      (call later : Invocation K C R) (ran : Run K C R O) (h : List (Step K C R O)) (before es after : Entries K C R O)
      → IsTree M.same_call M.same_answer M.same_key before
      ⊎ ((past : List (Step K C R O)) × History M past [] before × All (Honest M) past)
      → Does M (ended call ran how.Stored) before es → Answers M call ran
      → History M h es after → All (Honest M) h → Outlives M (λ hit. Answers M hit ran) 0 h
      → Answers M later ran → ¬ HasNone M after later

  -- Hits what exists. A run that was not stored since an entry exists hits again too, by the age of that entry, which no
  -- reply tells.
  abbrev pub HitsExisting : Type 0
  HitsExisting =
      (call : Invocation K C R) (ran : Run K C R O) (before es : Entries K C R O)
      → Does M (ended call ran how.AlreadyExists) before es
      → (age : ℕ) × ((later : Invocation K C R) (h : List (Step K C R O)) (after : Entries K C R O)
      → History M h es after → Outlives M (λ _. ⊥) age h → Answers M later ran → ¬ HasNone M after later)

  -- Nothing lost. No run of a function that names its calls ends as `MissingCall`.
  abbrev pub NothingLost : Type 0
  NothingLost =
      IsNamed M → (h : List (Step K C R O)) (es es' : Entries K C R O) → History M h es es'
      → All (λ step. (call : Invocation K C R) (ran : Run K C R O) → step ≡ ended call ran how.MissingCall → ⊥) h

  -- the steps of a call with this reply, by a hit of this run or by the run, where inner are the steps of the calls in it
  abbrev pub IsCall : Invocation K C R → List (Step K C R O) → Reply O → Run K C R O → List (Step K C R O) → Type 0
  IsCall call inner reply ran steps =
      (ran.output ≡ reply.output)
      × (((reply.how ≡ how.Hit) × (steps ≡ found call ran ∷ touched call ∷ []))
      ⊎ ((reply.how ≡ how.Hit → ⊥) × (steps ≡ missed call ∷ inner ++ ended call ran reply.how ∷ [])))

  -- As a plain list. What a call did, by its contract, are such steps of honest runs, and it sent and did what their run
  -- has. It was a hit exactly if an entry had the key and agreed.
  abbrev pub AsPlainList : (C → C → Bool) → (Bool → List (C × R) → List C → Type 0) → Type 0
  AsPlainList touches sent =
      (call : Invocation K C R) (inner : List (Step K C R O)) (es mid es' : Entries K C R O) (reply : Reply O)
      → IsReplyMut M call touches es mid sent reply es' → Respects M.same_call M.same_answer call.answers
      → History M inner es mid → All (Honest M) inner
      → ((ran : Run K C R O) × (steps : List (Step K C R O)) × (late : Bool) × IsCall call inner reply ran steps
      × ((reply.how ≡ how.Late) ↔ (late ≡ true)) × Gives M (sent late) ran.pairs ran.writes
      × History M steps es es' × All (Honest M) steps)
      × (call.enabled ≡ true → (reply.how ≡ how.Hit) ↔ (¬ HasNone M es call))

  -- By hand. So are a begin and a finish, where inner are the steps of the calls in between.
  abbrev pub ByHand : (List (C × R) → List C → Type 0) → Type 0
  ByHand sent =
      (call : Invocation K C R) (inner : List (Step K C R O)) (es mid es' : Entries K C R O)
      (begun pending : PendingRun K C R) (output : O) (reply : Reply O)
      → IsRun M es call begun → History M inner es mid → Finished M mid pending sent output reply es'
      → History M (missed call ∷ inner ++ ended call (came_to pending output) reply.how ∷ []) es es'

  -- Replays. After a reply `Stored`, a call that its run answers is a hit, while the entry isn't too old. Its output is a
  -- clone of a clone, and it led its value by equal writes, in order and once, where did says what writes do.
  abbrev pub HitsReplay : {V : Type 0} → (V → V → List C → Type 0) → Type 0
  HitsReplay {V} did =
      (call later : Invocation K C R) (h : List (Step K C R O)) (es mid es1 es2 mid2 es3 : Entries K C R O)
      (first second : Reply O) (v w x y : V)
      → (is : IsReply M call es mid (λ _ W. did v w W) first es1) → first.how ≡ how.Stored
      → History M h es1 es2 → All (Honest M) h → Outlives M (λ _. ⊥) 0 h
      → Answers M later (run call.key is.pairs first.output is.writes) → later.enabled ≡ true
      → (next : IsReply M later es2 mid2 (λ _ W. did x y W) second es3)
      → (second.how ≡ how.Hit) × did v w is.writes × did x y next.writes
      × IsCopy (run call.key is.pairs first.output is.writes) (run later.key next.pairs second.output next.writes)

  -- Faults keep. A call that failed left the entries, and the value too unless a run was due. Or it is a hit that stopped
  -- at a refused write: the writes before that one were done and sent, and the entry was touched.
  abbrev pub FaultsKeep : (List C → Type 0) → Type 0 → (List (C × R) → List C → Type 0) → Type 0
  FaultsKeep done spoils spoiled =
      (call : Invocation K C R) (es es' : Entries K C R O) (f : Fault) → FailsBy M es call done spoils spoiled f es'
      → ((es' ≡ es) × (done [] ⊎ IsDue M call es))
      ⊎ ((f ≡ fault.Write) × (ran : Run K C R O) × (first rest : List C) × (ran.writes ≡ first ++ rest)
      × done first × spoiled ran.pairs first × History M (found call ran ∷ touched call ∷ []) es es')

  -- Faults spread. Where the recording around a call that failed broke off, or was marked incomplete after what it took, and
  -- whatever it takes then, no `finish` of that run replies.
  abbrev pub FaultsSpread : (C → C → Bool) → (List (C × R) → List C → Type 0) → Type 0
  FaultsSpread touches sent =
      (before failed : Recording C R) (around : PendingRun K C R) (pairs more : List (C × R)) (writes after : List C)
      → BreaksOff (Took M.same_call touches) Spoiled before failed pairs
      ⊎ SpoiledAfter (Took M.same_call touches) Spoiled before failed pairs writes
      → Took M.same_call touches failed around.recording more after
      → (es es' : Entries K C R O) (output : O) (reply : Reply O) → Finished M es around sent output reply es' → ⊥

  -- Through any holder. Whatever it tells of its entries, as a share, which tells none, a reply but a late one is that of a
  -- run that answers the call, and right; and the call sent and did what the run has.
  abbrev pub ThroughAnyHolder : (C → C → Bool) → (Bool → List (C × R) → List C → Type 0) → Type 0
  ThroughAnyHolder touches sent =
      (call : Invocation K C R) (before after : Option (Entries K C R O)) (reply : Reply O)
      → HeldReplyMut M touches call before sent reply after → Respects M.same_call M.same_answer call.answers
      → (reply.how ≡ how.Late → ⊥)
      → (ran : Run K C R O) × (ran.output ≡ reply.output) × Answers M call ran
      × M.right call.key call.answers ran.output ran.writes × Gives M (sent false) ran.pairs ran.writes

  -- Faults through any holder. A fault is want of memory, or the run's own, of which the sink took nothing; or a hit of a run that answers the call stopped at a refused write, after the writes before that one.
  abbrev pub FaultsThroughAnyHolder : (List C → Type 0) → Type 0 → (List (C × R) → List C → Type 0) → Type 0
  FaultsThroughAnyHolder done spoils spoiled =
      (call : Invocation K C R) (before after : Option (Entries K C R O)) (f : Fault)
      → Leads before after (λ es es'. FailsBy M es call done spoils spoiled f es') → Respects M.same_call M.same_answer call.answers
      → (f ≡ fault.Memory) ⊎ spoils
      ⊎ ((f ≡ fault.Write) × (ran : Run K C R O) × (first rest : List C) × (ran.writes ≡ first ++ rest)
      × Answers M call ran × done first × spoiled ran.pairs first)
