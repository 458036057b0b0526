-- Requests to a cache in turn, and the steps that they take.
use Rattle.std.specs.Prelude.{◌≡◌, ◌⊎◌, ◌++◌, true, List, [], ◌∷◌, Result, IfOk}
use Rattle.std.specs.List.{All}
use Rattle.comemo_cache.specs.Meaning.{Meaning, Invocation, Run, invocation}
use Rattle.comemo_cache.specs.Cache.{Entries}
use Rattle.comemo.specs.Begin.{Reaches}
use Rattle.comemo.specs.declared.pending.Fault.{Fault}
use Rattle.comemo.specs.declared.pending.Reply.{Reply}
use Rattle.comemo.specs.declared.pending.How.TheVariants as how
use Rattle.comemo_theorems.specs.History.{Step, found, touched, evicted, History, Honest}
use Rattle.comemo_theorems.specs.Statements.{IsCall}
use Rattle.comemo_theorems.specs.declared.requests.Request.{Request}
use Rattle.comemo_theorems.specs.declared.requests.Request.TheVariants.{Call, Evict}
use Rattle.comemo_theorems.specs.declared.requests.Event.{Event}
use Rattle.comemo_theorems.specs.declared.requests.Event.TheVariants.{Replied, Failed, Evicted}

-- each request led to its event by such steps, from the state where the one before it led
abbrev pub InTurn : {Q E S V : Type 0} → (Q → E → V → V → List S → Type 0) → List Q → List E → V → V → List S → Type 0
InTurn goes [] [] v w h = (w ≡ v) × (h ≡ [])
InTurn {S = S} {V = V} goes (q ∷ qs) (e ∷ es) v w h =
    (u : V) × (own later : List S) × (h ≡ own ++ later) × goes q e v u own × InTurn goes qs es u w later
InTurn goes qs es v w h = ⊥

module _ {K C R O T : Type 0} (M : Meaning K C R O) (answers : T → C → R) where
  -- the steps of a request that led to this event; no call is late, and one that failed did nothing to the cache
  abbrev pub IsAnswer : Request K T → Event O → List (Step K C R O) → Type 0
  IsAnswer (Call key of) (Replied reply) h =
      (ran : Run K C R O) × IsCall M (invocation key (answers of) true) [] reply ran h × (reply.how ≡ how.Late → ⊥)
  IsAnswer (Call key of) (Failed fault) h = h ≡ []
  IsAnswer (Evict bound) Evicted h = h ≡ evicted bound ∷ []
  IsAnswer request event h = ⊥

  -- the steps of requests in turn that led to these events
  abbrev pub AreAnswers : List (Request K T) → List (Event O) → List (Step K C R O) → Type 0
  AreAnswers requests events h = InTurn {V = Unit {0}} (λ r e _ _ own. IsAnswer r e own) requests events tt tt h

  -- what a call returned is right at its key and its value's answers
  abbrev pub IsRightAnswer : Request K T → Event O → Type 0
  IsRightAnswer (Call key of) (Replied reply) = (writes : List C) × M.right key (answers of) reply.output writes
  IsRightAnswer request event = Unit {0}

module _ {K C R O T V : Type 0} (M : Meaning K C R O) (answers : V → C → R) (did : V → V → List C → Type 0) where
  -- the same of a function that writes, whose calls lead one value from v to w; a call that failed did nothing to the
  -- cache, or is a hit that stopped at a refused write
  abbrev pub IsAnswerMut : Request K T → Event O → V → V → List (Step K C R O) → Type 0
  IsAnswerMut (Call key of) (Replied reply) v w h =
      (ran : Run K C R O) × IsCall M (invocation key (answers v) true) [] reply ran h × did v w ran.writes
  IsAnswerMut (Call key of) (Failed fault) v w h =
      Reaches did v w
      × ((h ≡ [])
      ⊎ ((ran : Run K C R O) × (h ≡ found (invocation key (answers v) true) ran ∷ touched (invocation key (answers v) true) ∷ [])))
  IsAnswerMut (Evict bound) Evicted v w h = (w ≡ v) × (h ≡ evicted bound ∷ [])
  IsAnswerMut request event v w h = ⊥

module _ {K C R O : Type 0} (M : Meaning K C R O) where
  -- what happened is a history of honest runs
  abbrev pub Happened : Entries K C R O → Entries K C R O → Type 0
  Happened es es' = (h : List (Step K C R O)) × History M h es es' × All (Honest M) h

  -- so is what a call did, however it ended; and if it replied, the history is that of a call with other calls in its run
  abbrev pub CallHappened : Invocation K C R → Entries K C R O → Entries K C R O → Result (Reply O) Fault → Type 0
  CallHappened call es es' result =
      (h : List (Step K C R O)) × History M h es es' × All (Honest M) h
      × IfOk result (λ reply. (inner : List (Step K C R O)) × (ran : Run K C R O) × IsCall M call inner reply ran h)
