-- What a memoized function replies to a call.
use Rattle.std.specs.Prelude.{◌≡◌, ◌↔◌, ◌⊎◌, ◌++◌, [], Bool, true, false, List, Option, map, IsTrue, Result, IfOk}
use Rattle.std.specs.List.{All}
use Rattle.std.specs.List.Sorted.{IsPermutation}
use Rattle.comemo_base.specs.Answers.{Agrees}
use Rattle.comemo_cache.specs.Meaning.{Meaning, Invocation, Run, run, IsNamedRun}
use Rattle.comemo_cache.specs.Cache.{Entries, Stands, HasNone, Has, Touches, young}
use Rattle.comemo_cache.specs.Held.{Held, LeadsBy}
use Rattle.comemo_track.specs.Recording.{Recording, TouchesHeld}
use Rattle.comemo.specs.Finish.{Ends, Finished, Gives}
use Rattle.comemo.specs.declared.pending.Fault.{Fault}
use Rattle.comemo.specs.declared.pending.Fault.TheVariants as fault
use Rattle.comemo.specs.declared.pending.Reply.{Reply}
use Rattle.comemo.specs.declared.pending.How.{How}
use Rattle.comemo.specs.declared.pending.How.TheVariants as how

module _ {K C R O : Type 0} (M : Meaning K C R O) (call : Invocation K C R) where
  -- this run is that of an entry of es that has the key and agrees with the answers; it has reads and then writes, and
  -- its entry was touched
  pub record CameByHit (es : Entries K C R O) (found : Run K C R O) (es' : Entries K C R O) : Type 0 where
    pub is_enabled : call.enabled ≡ true
    pub kept : Has M es call found
    pub reads : All (λ p. M.is_write p.0 ≡ false) found.pairs
    pub written : All (λ c. M.is_write c ≡ true) found.writes
    pub touched : Touches M es call es'

  -- no entry of es has the key and agrees with the answers; a run had this result, and its end took the entries from
  -- mid to es'
  pub record CameByRun (es mid : Entries K C R O) (ran : Run K C R O) (reply : How) (es' : Entries K C R O) : Type 0 where
    pub none : call.enabled ≡ true → HasNone M es call
    pub own : K
    pub has_key : IsTrue (M.same_key call.key own)
    pub ends : Ends M mid (record ran { key = own }) reply es'
    pub disabled : (reply ≡ how.Disabled) ↔ (call.enabled ≡ false)
    pub early : reply ≡ how.Late → ⊥

  -- a run is due: no entry of es has the key and agrees, or the call is not enabled
  abbrev pub IsDue : Entries K C R O → Type 0
  IsDue es = call.enabled ≡ true → HasNone M es call

  -- a fault is that of a run, which was due; and this holds of the sink, which says that it took nothing of the run and
  -- is incomplete
  abbrev pub IsOfRun : Entries K C R O → Type 0 → Type 0
  IsOfRun es spoils = IsDue es × spoils

  -- a run under the call's own key had this reply: it recorded reads, none of them late, that the call's answers agree
  -- with and by which alone its output is right; and it was finished
  pub record RanAs (es : Entries K C R O) (sent : List (C × R) → List C → Type 0) (reply : Reply O) (es' : Entries K C R O) : Type 0 where
    pub recording : Recording C R
    pub no_writes : recording.writes ≡ []
    pub early : recording.late ≡ false
    pub agrees : Agrees M.same_answer call.answers recording.pairs
    pub stands : Stands M (run call.key recording.pairs reply.output [])
    pub finished : Finished M es (record { key = call.key; enabled = call.enabled; recording = recording }) sent reply.output reply es'

  -- the reply to a call: it rests on reads that the call's answers agree with, which are a run if the asked calls are
  -- named, and on writes; by these alone its output is right at the key, and they went to the sink. It is that of a
  -- hit, or of a run that began at the entries es and ended at mid
  pub record IsReply (es mid : Entries K C R O) (sent : List (C × R) → List C → Type 0) (reply : Reply O) (es' : Entries K C R O) : Type 0 where
    pub pairs : List (C × R)
    pub writes : List C
    pub agrees : Agrees M.same_answer call.answers pairs
    pub stands : Stands M (run call.key pairs reply.output writes)
    pub settled : IsNamedRun M call.key pairs
    pub gives : Gives M sent pairs writes
    pub came : ((reply.how ≡ how.Hit) × CameByHit es (run call.key pairs reply.output writes) es') ⊎ CameByRun es mid (run call.key pairs reply.output writes) reply.how es'

  module _ (touches : C → C → Bool) where
    -- the reply to a call whose run was late: its reads and writes went to the sink, a write touches a read, no entry of
    -- es has the key and agrees with the answers, and the entries are those at mid. Nothing else is known
    pub record IsLate (es mid : Entries K C R O) (sent : List (C × R) → List C → Type 0) (reply : Reply O) (es' : Entries K C R O) : Type 0 where
      pub pairs : List (C × R)
      pub writes : List C
      pub is_late : reply.how ≡ how.Late
      pub touching : TouchesHeld M.same_call touches writes pairs
      pub none : call.enabled ≡ true → HasNone M es call
      pub gives : Gives M sent pairs writes
      pub same : es' ≡ mid

    -- the reply to a call of a function that writes: any reply, or that of a late run; each has its own statement of
    -- what went to the sink
    abbrev pub IsReplyMut : (es mid : Entries K C R O) → (Bool → List (C × R) → List C → Type 0) → Reply O → Entries K C R O → Type 0
    IsReplyMut es mid sent reply es' = IsReply es mid (sent false) reply es' ⊎ IsLate es mid (sent true) reply es'

-- up to ages no entry was lost, and some may have been added
abbrev pub Grows : {K C R O : Type 0} → Entries K C R O → Entries K C R O → Type 0
Grows {K} {C} {R} {O} es es' = (more : Entries K C R O) × IsPermutation (map young (more ++ es)) (map young es')

-- the reply to a call, from these entries before it to those after it
abbrev pub HeldReply : {K C R O : Type 0} → Meaning K C R O → Invocation K C R → Option (Entries K C R O) → (List (C × R) → List C → Type 0) → Reply O → Option (Entries K C R O) → Type 0
HeldReply M call before sent reply after = LeadsBy before before after (λ es mid es'. IsReply M call es mid sent reply es')

-- the same for a function that writes
abbrev pub HeldReplyMut : {K C R O : Type 0} → Meaning K C R O → (C → C → Bool) → Invocation K C R → Option (Entries K C R O) → (Bool → List (C × R) → List C → Type 0) → Reply O → Option (Entries K C R O) → Type 0
HeldReplyMut M touches call before sent reply after = LeadsBy before before after (λ es mid es'. IsReplyMut M call touches es mid sent reply es')

-- what a run needs is unchanged, unless a run was due at the entries before the call
abbrev pub HeldNeeds : {K C R O N : Type 0} → Meaning K C R O → Invocation K C R → Option (Entries K C R O) → N → N → Type 0
HeldNeeds M call before needs needs' = (needs' ≡ needs) ⊎ Held before (IsDue M call)

-- the same, and a hit left it unchanged
abbrev pub SparesNeeds : {K C R O N : Type 0} → Meaning K C R O → Invocation K C R → Option (Entries K C R O) → N → N → Result (Reply O) Fault → Type 0
SparesNeeds M call before needs needs' result =
    HeldNeeds M call before needs needs' × IfOk result (λ reply. reply.how ≡ how.Hit → needs' ≡ needs)

-- the fault of a call that only reads: out of memory, or a run was due at the entries before the call
abbrev pub HeldFault : {K C R O : Type 0} → Meaning K C R O → Invocation K C R → Option (Entries K C R O) → Fault → Type 0
HeldFault M call before f = (f ≡ fault.Memory) ⊎ Held before (IsDue M call)
