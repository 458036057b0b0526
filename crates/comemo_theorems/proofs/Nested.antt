-- A call by hand as a history, with the steps of the calls in its run.
use Rattle.std.proofs.Common.{◌≡◌, Bool, IsTrue, List, [], ◌∷◌, ◌++◌, Some, Result, Ok, Err, IfOk, OnErr, refl, sym, subst, inl, inr}
use Rattle.std.proofs.lemmas.List.Elements.{All-nil, All-cons, All-append}
use Rattle.std.specs.List.{All}
use Rattle.comemo_base.specs.Answers.{Agrees}
use Rattle.comemo_cache.specs.Meaning.{Meaning, Invocation, Run, run}
use Rattle.comemo_cache.specs.Cache.{Entries, Touches}
use Rattle.comemo.specs.Begin.{PendingRun, IsHit, IsRun, came_to}
use Rattle.comemo.specs.Begun.{FailedToBegin}
use Rattle.comemo.specs.Finish.{Ends, Finished}
use Rattle.comemo.specs.declared.pending.Fault.{Fault}
use Rattle.comemo.specs.declared.pending.Fault.TheVariants as fault
use Rattle.comemo.specs.declared.pending.Reply.{Reply}
use Rattle.comemo.specs.declared.pending.How.TheVariants as how
use Rattle.comemo_theorems.specs.History.{found, touched, missed, ended, History, Answers, Honest}
use Rattle.comemo_theorems.specs.Requests.{Happened, CallHappened}
use Rattle.comemo_theorems.proofs.Steps.{history_append}
use Rattle.comemo_theorems.proofs.Calls.{runs}

-- any answers agree with pairs, where all answers are equal
pub all_agree : {C R : Type 0} (same : R → R → Bool) → ((x y : R) → IsTrue (same x y)) → (m : C → R) (pairs : List (C × R)) → Agrees same m pairs
all_agree same equal m [] = tt
all_agree same equal m (p ∷ pairs) = (equal (m p.0) p.1, all_agree same equal m pairs)

module _ {K C R O : Type 0} (M : Meaning K C R O) where
  pub both_happened : (es mid es' : Entries K C R O) → Happened M es mid → Happened M mid es' → Happened M es es'
  both_happened es mid es' a b = (a.0 ++ b.0, history_append M a.0 b.0 es mid es' a.1 b.1, All-append (Honest M) a.0 b.0 a.2 b.2)

  module _ (call : Invocation K C R) (es : Entries K C R O) where
    -- a hit is found and touched
    touch_steps : (ran : Run K C R O) (es' : Entries K C R O) → Touches M es call es' → All (Honest M) (found call ran ∷ touched call ∷ [])
    touch_steps ran es' touches = All-cons (Honest M) (found call ran) (touched call ∷ []) tt (All-cons (Honest M) (touched call) [] tt (All-nil (Honest M)))

    pub hit_happened : {done : List C → Type 0} {sent : List (C × R) → List C → Type 0} (es' : Entries K C R O) (reply : Reply O) → reply.how ≡ how.Hit → IsHit M es call done sent reply.output → Touches M es call es' → CallHappened M call es es' (Ok reply)
    hit_happened es' reply hit is touches =
        let ran : Run K C R O = run call.key is.pairs reply.output is.writes in
        (found call ran ∷ touched call ∷ [], (es, (is.kept, refl), (es', inl touches, refl)), touch_steps ran es' touches, ([], ran, (refl, inl (hit, refl))))

    pub failed_happened : (done : List C → Type 0) (broken : List (C × R) → Type 0) (spoiled : List (C × R) → List C → Type 0) (es' : Entries K C R O) (f : Fault) → FailedToBegin M call (Some es) done broken spoiled f (Some es') → CallHappened M call es es' (Err f)
    failed_happened done broken spoiled es' fault.Memory is = ([], is.0, All-nil (Honest M), tt)
    failed_happened done broken spoiled es' fault.Write is =
        let ran : Run K C R O = run call.key is.1.pairs is.1.output (is.1.prefix ++ is.1.next ∷ is.1.rest) in
        (found call ran ∷ touched call ∷ [], (es, (is.1.kept, refl), (es', inl is.0, refl)), touch_steps ran es' is.0, tt)
    failed_happened done broken spoiled es' fault.Incomplete is = absurd is

    -- a run that failed lacks its end
    pub broken_happened : (begun : PendingRun K C R) (mid es' : Entries K C R O) (f : Fault) → IsRun M es call begun → Happened M es mid → es' ≡ mid → CallHappened M call es es' (Err f)
    broken_happened begun mid es' f is inner same =
        (missed call ∷ inner.0, (es, (is.none, refl), subst (λ xs. History M inner.0 es xs) (sym same) inner.1), All-cons (Honest M) (missed call) inner.0 tt inner.2, tt)

    pub finished_happened : {sent : List (C × R) → List C → Type 0} (begun pending : PendingRun K C R) (mid es' : Entries K C R O) (output : O) (reply : Reply O) → IsRun M es call begun → Happened M es mid → Finished M mid pending sent output reply es' → Answers M call (came_to pending output) → CallHappened M call es es' (Ok reply)
    finished_happened begun pending mid es' output reply is inner finished answers =
        let ran : Run K C R O = came_to pending output in
        let steps = runs M call inner.0 es mid es' ran reply is.none inner.1 inner.2 finished.ends (λ _. answers) in
        let not_hit : reply.how ≡ how.Hit → ⊥ = λ hit. subst (λ h. Ends M mid ran h es') hit finished.ends in
        (missed call ∷ inner.0 ++ ended call ran reply.how ∷ [], steps.0, steps.1, (inner.0, ran, (sym finished.same, inr (not_hit, refl))))

    -- a run that ended by its result was finished, or failed
    pub ended_happened : (sent : List (C × R) → List C → Type 0) (X : Type 0) (begun pending : PendingRun K C R) (here mid es' : Entries K C R O) (ran : Result O Fault) (result : Result (Reply O) Fault) → IsRun M es call begun → here ≡ es → Happened M here mid → IfOk result (λ reply. (output : O) × (ran ≡ Ok output) × Finished M mid pending sent output reply es') → OnErr result ((es' ≡ mid) × X) → ((output : O) → ran ≡ Ok output → Answers M call (came_to pending output)) → CallHappened M call es es' result
    ended_happened sent X begun pending here mid es' ran (Ok reply) is same inner finished broken answers =
        finished_happened begun pending mid es' finished.0 reply is (subst (λ xs. Happened M xs mid) same inner) finished.2 (answers finished.0 finished.1)
    ended_happened sent X begun pending here mid es' ran (Err f) is same inner finished broken answers =
        broken_happened begun mid es' f is (subst (λ xs. Happened M xs mid) same inner) broken.0
