-- What `begin`, a closure's run and `finish` imply together.
use Rattle.std.proofs.Common.{◌≡◌, ◌∙◌, ◌↔◌, ◌⊎◌, inl, inr, Bool, true, false, List, [], Result, Ok, Err, IfOk, IfErr, OnErr, refl, sym, ap, subst}
use Rattle.std.specs.Borrow.{MutBor}
use Rattle.comemo_track.specs.Recording.{Recording}
use Rattle.comemo_cache.specs.Meaning.{Meaning, Invocation, run}
use Rattle.comemo_cache.specs.Cache.{Entries, Stands}
use Rattle.comemo.specs.Begin.{PendingRun, came_to, IsRun}
use Rattle.comemo.specs.Finish.{Ends, Finished, BreaksOffRun}
use Rattle.comemo_cache.proofs.Sendings.{mapped}
use Rattle.comemo.proofs.Calls.{recorded, stands_at_call}
use Rattle.comemo.specs.Closure.{Ran, RanTo, Ended, IsFault, IsBroken}
use Rattle.comemo.specs.declared.pending.Fault.{Fault}
use Rattle.comemo.specs.declared.pending.Fault.TheVariants as fault
use Rattle.comemo.specs.declared.pending.Reply.{Reply}
use Rattle.comemo.specs.declared.pending.How.TheVariants as how

-- which fault a run that went so, or its end, returned: a failure to allocate, or one after which the sink took nothing
pub fault_of_end : {A B : Type 0} (S : Type 0) (w : Bool) (ran : Result A Fault) (r : Result B Fault) → IfOk ran (λ _. (r ≡ Err fault.Incomplete) ↔ (w ≡ false)) → IfOk ran (λ _. IfErr r (λ f. f ≡ fault.Write → ⊥)) → IfErr ran (λ f. (r ≡ Err f) × S) → (w ≡ false → S) → IfErr r (λ f. (f ≡ fault.Memory) ⊎ S)
fault_of_end S w ran (Ok x) h never given spoiled = tt
fault_of_end S w (Err g) (Err e) h never given spoiled = inr given.1
fault_of_end S w (Ok y) (Err fault.Memory) h never given spoiled = inl refl
fault_of_end S w (Ok y) (Err fault.Write) h never given spoiled = absurd (never refl)
fault_of_end S w (Ok y) (Err fault.Incomplete) h never given spoiled = inr (spoiled (h.0 refl))

-- as `mapped`, with a fact that does not depend on the result
pub mapped_by : {A E X : Type 0} {P Q : A → Type 0} → (X → (a : A) → P a → Q a) → (r : Result A E) → IfOk r P → X → IfOk r Q
mapped_by f r p x = mapped (f x) r p

abbrev fault_or : {A : Type 0} → Fault → Result A Fault → Fault
fault_or d (Ok x) = d
fault_or d (Err f) = f

-- the same of a fault
pub mapped_err : {A E P Q : Type 0} → (P → Q) → (r : Result A E) → OnErr r P → OnErr r Q
mapped_err f (Ok a) p = tt
mapped_err f (Err e) p = f p

-- the same of a fault, where it is known which
pub err_with : {A P : Type 0} {Q X : Fault → Type 0} → ((f : Fault) → P → Q f → X f) → (r : Result A Fault) → OnErr r P → IfErr r Q → IfErr r X
err_with f (Ok a) p q = tt
err_with f (Err e) p q = f e p q

module _ {K C R O : Type 0} {M : Meaning K C R O} {es : Entries K C R O} {call : Invocation K C R} {begun : PendingRun K C R} (is : IsRun M es call begun) where
  module _ {I P : Type 0} (did : I → I → List C → Type 0) (recording : P → Recording C R) (post : MutBor I → MutBor P → Result O Fault → MutBor I → MutBor P → Type 0) (input : I) (t : Recording C R) where
    -- a run of a closure, by what it got and what it left
    pub ran_from : {i j : MutBor I} {p q : MutBor P} (r : Result O Fault) → did input i.now [] → (recording p.now).pairs ≡ [] → (recording p.now).writes ≡ [] → (recording p.now).complete ≡ true → (recording p.now).late ≡ false → post i p r j q → t ≡ recording q.now → Ran M es call did recording post input r t
    ran_from {i = i} {j = j} {p = p} {q = q} r unchanged pairs writes complete early gave left = record { i = i; p = p; starts = record { none = is.none; unchanged = unchanged; pairs = pairs; writes = writes; complete = complete; early = early }; j = j; q = q; gave = gave; left = sym left }

    -- so it ran, and left the input so
    pub ran_to : (left : I) {i j : MutBor I} {p q : MutBor P} (r : Result O Fault) → did input i.now [] → (recording p.now).pairs ≡ [] → (recording p.now).writes ≡ [] → (recording p.now).complete ≡ true → (recording p.now).late ≡ false → post i p r j q → t ≡ recording q.now → j.now ≡ left → RanTo M es call did recording post input left r t
    unfolding ran_from
    ran_to left {i = i} {j = j} {p = p} {q = q} r unchanged pairs writes complete early gave rest ends = record { ran = ran_from {i = i} {j = j} {p = p} {q = q} r unchanged pairs writes complete early gave rest; ends = ends }

    -- why a call failed whose run ended so
    pub failed : (left : I) (S : Type 0) (ran : Result O Fault) → RanTo M es call did recording post input left ran t → (r : Result (Reply O) Fault) → IfOk ran (λ _. (r ≡ Err fault.Incomplete) ↔ (t.complete ≡ false)) → IfOk ran (λ _. IfErr r (λ f. f ≡ fault.Write → ⊥)) → IfErr ran (λ f. (r ≡ Err f) × S) → IfErr r (λ f. IsFault M es call did recording post input left f)
    failed left S ran has (Ok reply) h never f = tt
    failed left S (Ok output) has (Err e) h never f = inr (inr (inl (output, t, has, (λ is. h.0 (ap Err is), λ spoiled. ap (fault_or e) (h.1 spoiled)), never)))
    failed left S (Err g) has (Err e) h never f = inr (inr (inr (t, subst (λ x. RanTo M es call did recording post input left (Err x) t) (sym (ap (fault_or e) f.0)) has)))

    -- how a call that failed is left whose run ended so
    pub left_broken : (left : I) (broken : List (C × R) → Type 0) (after : List (C × R) → List C → Type 0) {S : Type 0} → (S → broken []) → (es' : Entries K C R O) (ran : Result O Fault) → RanTo M es call did recording post input left ran t → (w : Bool) → t.complete ≡ w → (r : Result (Reply O) Fault) → IfErr ran (λ f. (r ≡ Err f) × S) → (t.complete ≡ false → S) → OnErr r ((es' ≡ es) × BreaksOffRun M broken t.pairs) → OnErr r (IsBroken M es call did recording post input left broken after es')
    left_broken left broken after spoils es' ran has w e (Ok reply) given_up spoiled b = tt
    left_broken left broken after spoils es' (Err f) has w e (Err g) given_up spoiled b = inl (b.0, inr (inl (Err f, t, has, tt, spoils given_up.1)))
    left_broken left broken after spoils es' (Ok output) has false e (Err g) given_up spoiled b = inl (b.0, inr (inl (Ok output, t, has, e, spoils (spoiled e))))
    left_broken left broken after spoils es' (Ok output) has true e (Err g) given_up spoiled b = inl (b.0, inr (inr (output, t, has, e, b.1)))

    -- what a call returned whose run was finished
    pub ended : (left : I) (sent : Bool → List (C × R) → List C → Type 0) {output : O} {reply : Reply O} {mid es' : Entries K C R O} → RanTo M es call did recording post input left (Ok output) t → (t.late ≡ false → Stands M (came_to (recorded begun t) output)) → Finished M mid (recorded begun t) (sent t.late) output reply es' → Ended M mid call (RanTo M es call did recording post input left) sent reply.output reply.how es'
    ended left sent {output = output} {reply = reply} {mid = mid} {es' = es'} ran stands done = record {
      recording = t;
      has_run = subst (λ x. RanTo M es call did recording post input left (Ok x) t) (sym done.same) ran;
      complete = done.complete;
      own = begun.key;
      has_key = is.has_key;
      stands = λ early. subst (λ o. Stands M (run call.key t.pairs o t.writes)) (sym done.same) (stands_at_call is t.pairs output t.writes (stands early));
      settled = λ early. is.named t.pairs (done.settled early);
      ends = subst (λ x. Ends M mid (run begun.key t.pairs x t.writes) reply.how es') (sym done.same) done.ends;
      late = done.late;
      disabled = (λ d. (sym is.is_enabled ∙ (done.disabled.0 d).0, (done.disabled.0 d).1), λ d. done.disabled.1 (is.is_enabled ∙ d.0, d.1));
      gives = done.gives;
    }

-- the reply of a run is no hit
pub no_hit : {K C R O : Type 0} {M : Meaning K C R O} {es es' : Entries K C R O} {pending : PendingRun K C R} {sent : List (C × R) → List C → Type 0} {output : O} {reply : Reply O} → Finished M es pending sent output reply es' → reply.how ≡ how.Hit → ⊥
no_hit {K} {C} {R} {O} {M} {es} {es'} {pending} {sent} {output} f h = subst (λ x. Ends M es (came_to pending output) x es') h f.ends
