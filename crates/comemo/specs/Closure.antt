-- A call of a memoized function whose run is a closure.
use Rattle.std.specs.Prelude.{◌≡◌, ◌↔◌, ◌⊎◌, ⊤, Bool, true, false, List, [], IsTrue, Result, Ok, Err, IfOk}
use Rattle.std.specs.Borrow.{MutBor}
use Rattle.comemo_track.specs.Recording.{Recording}
use Rattle.comemo_cache.specs.Meaning.{Meaning, Invocation, run, IsNamedRun}
use Rattle.comemo_cache.specs.Cache.{Entries, Stands, HasNone, Touches}
use Rattle.comemo.specs.Begin.{IsBrokenOff, IsStopped}
use Rattle.comemo.specs.Finish.{Ends, Gives, BreaksOffRun}
use Rattle.comemo.specs.declared.pending.Fault.{Fault}
use Rattle.comemo.specs.declared.pending.Fault.TheVariants as fault
use Rattle.comemo.specs.declared.pending.How.{How}
use Rattle.comemo.specs.declared.pending.How.TheVariants as how

-- what a closure does to an input and a recording, from before to after, and what it returns
abbrev pub Deed : Type 0 → Type 0 → Type 0 → Type 1
Deed I P O = MutBor I → MutBor P → Result O Fault → MutBor I → MutBor P → Type 0

module _ {K C R O : Type 0} (M : Meaning K C R O) (es : Entries K C R O) (call : Invocation K C R) where
  module _ {I P : Type 0} (did : I → I → List C → Type 0) (recorded : P → Recording C R) where
    -- what a run gets if no entry has the key and agrees: the input, unchanged, and an empty recording that is complete
    -- and not late
    pub record Starts (input : I) (i : MutBor I) (p : MutBor P) : Type 0 where
      pub none : call.enabled ≡ true → HasNone M es call
      pub unchanged : did input i.now []
      pub pairs : (recorded p.now).pairs ≡ []
      pub writes : (recorded p.now).writes ≡ []
      pub complete : (recorded p.now).complete ≡ true
      pub early : (recorded p.now).late ≡ false

    module _ (post : MutBor I → MutBor P → Result O Fault → MutBor I → MutBor P → Type 0) (input : I) where
      -- the closure ran, returned this, and left this recording
      pub record Ran (r : Result O Fault) (t : Recording C R) : Type 0 where
        pub i : MutBor I
        pub p : MutBor P
        pub starts : Starts input i p
        pub j : MutBor I
        pub q : MutBor P
        pub gave : post i p r j q
        pub left : recorded q.now ≡ t

      module _ (left : I) where
        -- the closure ran, returned this, and left this recording and this input
        pub record RanTo (r : Result O Fault) (t : Recording C R) : Type 0 where
          pub ran : Ran r t
          pub ends : ran.j.now ≡ left

        -- why a call failed that left the input so: it did not begin, out of memory, and wrote nothing; or a hit
        -- stopped at a write; or the closure returned an output and its run could not be finished, as `Incomplete`
        -- exactly if its recording is incomplete; or the closure returned that fault
        abbrev pub IsFault : Fault → Type 0
        IsFault f =
            ((f ≡ fault.Memory) × did input left []) ⊎ ((f ≡ fault.Write) × IsStopped M es call (did input left) (λ _ _. ⊤)) ⊎ ((output : O) × (t : Recording C R) × RanTo (Ok output) t × ((f ≡ fault.Incomplete) ↔ (t.complete ≡ false)) × (f ≡ fault.Write → ⊥)) ⊎ ((t : Recording C R) × RanTo (Err f) t)

        -- what a failed call that left the input so did to sink and entries: the entries are unchanged, and the sink is
        -- as after a call that did not begin; or the closure failed or its recording is incomplete, and the sink took
        -- nothing and is broken off; or the closure returned an output, and its complete recording was broken off; or a
        -- hit touched its entry, and stopped
        abbrev pub IsBroken : (List (C × R) → Type 0) → (List (C × R) → List C → Type 0) → Entries K C R O → Type 0
        IsBroken broken after es' =
            ((es' ≡ es) × ((did input left [] × IsBrokenOff M es call broken) ⊎ ((r : Result O Fault) × (t : Recording C R) × RanTo r t × IfOk r (λ _. t.complete ≡ false) × broken []) ⊎ ((output : O) × (t : Recording C R) × RanTo (Ok output) t × (t.complete ≡ true) × BreaksOffRun M broken t.pairs)))
            ⊎ (Touches M es call es' × IsStopped M es call (did input left) after)

  -- the closure, with these runs, ran and returned the output; its recording, which is complete, went to the sink, and
  -- the reply says what became of the entries
  pub record Ended (ran : Result O Fault → Recording C R → Type 0) (sent : Bool → List (C × R) → List C → Type 0) (output : O) (reply : How) (es' : Entries K C R O) : Type 0 where
    pub recording : Recording C R
    pub has_run : ran (Ok output) recording
    pub complete : recording.complete ≡ true
    pub own : K
    pub has_key : IsTrue (M.same_key call.key own)
    pub stands : recording.late ≡ false → Stands M (run call.key recording.pairs output recording.writes)
    pub settled : recording.late ≡ false → IsNamedRun M call.key recording.pairs
    pub ends : Ends M es (run own recording.pairs output recording.writes) reply es'
    pub late : (reply ≡ how.Late) ↔ (recording.late ≡ true)
    pub disabled : (reply ≡ how.Disabled) ↔ ((call.enabled ≡ false) × (recording.late ≡ false))
    pub gives : Gives M (sent recording.late) recording.pairs recording.writes
