-- For authors of memoized functions: from the contracts of `begin` and `finish`, what a caller wants to know.
use Rattle.std.specs.Prelude.{⊤}
use Rattle.std.proofs.Common.{◌≡◌, Bool, true, false, List, [], ◌∷◌, ◌++◌, inl, inr, Result, Ok, Err, IfOk, IfErr, OnErr, IsErrAnd, refl, sym, subst, ◌∙◌}
use Rattle.std.specs.Cmp.{IsEquivalence}
use Rattle.comemo_base.specs.Answers.{Respects, Agrees}
use Rattle.comemo_track.specs.Recording.{Recording, IsLateByTouch}
use Rattle.comemo.specs.Begin.{PendingRun, came_to, HasToRun, IsHit, IsRun, IsBrokenOff, IsStopped}
use Rattle.comemo.specs.Begun.{OnBegun, OnFault}
use Rattle.comemo.specs.declared.pending.Begun.{Begun}
use Rattle.comemo.specs.declared.pending.Begun.TheVariants.{Hit, Run as Begins}
use Rattle.comemo_track.specs.Sending.{TookAs}
use Rattle.std.proofs.lemmas.Bool.{cases_Bool}
use Rattle.comemo_cache.specs.Meaning.{Meaning, Invocation, invocation, Run, run}
use Rattle.comemo_cache.specs.Cache.{Entries, Stands, Touches}
use Rattle.comemo.specs.Called.{IsReply, IsReplyMut, RanAs}
use Rattle.comemo.specs.Finish.{Ends, Finished, BreaksOffRun, BrokeOff}
use Rattle.comemo.specs.declared.pending.How.{How}
use Rattle.comemo.specs.declared.pending.How.TheVariants as how
use Rattle.comemo.specs.declared.pending.Fault.{Fault}
use Rattle.comemo.specs.declared.pending.Fault.TheVariants as fault
use Rattle.comemo.specs.declared.pending.Reply.{Reply}
use Rattle.comemo_base.proofs.Paths.{Agrees-same, IsSamePath-turned}
use Rattle.comemo.proofs.Endings.{gives_itself, gives_early, gives_late}

-- the pending run after it recorded this
abbrev pub recorded : {K C R : Type 0} → PendingRun K C R → Recording C R → PendingRun K C R
recorded begun t = record { key = begun.key; enabled = begun.enabled; recording = t }

some_write : {C : Type 0} (prefix : List C) (next : C) (rest : List C) → prefix ++ next ∷ rest ≡ [] → ⊥
some_write [] next rest e = cc
some_write (c ∷ prefix) next rest e = cc

-- what a clause says of a call that began as a hit, or as a run
pub of_hit : {O I : Type 0} (r : Result (Begun O I) Fault) (b : Begun O I) (output : O) (P : O → Type 0) (Q : I → Type 0) → r ≡ Ok b → b ≡ Hit output → IfOk r (λ x. OnBegun x P Q) → P output
of_hit r b output P Q ok hit is = let k : IfOk {E = Fault} (Ok b) (λ x. OnBegun x P Q) = subst (λ x. IfOk x (λ y. OnBegun y P Q)) ok is in subst (λ x. OnBegun x P Q) hit k

pub of_run : {O I : Type 0} (r : Result (Begun O I) Fault) (b : Begun O I) (run : I) (P : O → Type 0) (Q : I → Type 0) → r ≡ Ok b → b ≡ Begins run → IfOk r (λ x. OnBegun x P Q) → Q run
of_run r b run P Q ok begins is = let k : IfOk {E = Fault} (Ok b) (λ x. OnBegun x P Q) = subst (λ x. IfOk x (λ y. OnBegun y P Q)) ok is in subst (λ x. OnBegun x P Q) begins k

-- why a call did not begin
pub on_fault : (f : Fault) {P Q X : Type 0} → OnFault f P Q → (P → X) → (Q → X) → X
on_fault fault.Memory is p q = p is
on_fault fault.Write is p q = q is
on_fault fault.Incomplete is p q = absurd is

-- what holds of a call that did not begin, where it didn't stop at a write
pub of_memory : (f : Fault) (P : Type 0) {Q : Type 0} → OnFault f P Q → (Q → ⊥) → P
of_memory fault.Memory P is never = is
of_memory fault.Write P is never = absurd (never is)
of_memory fault.Incomplete P is never = absurd is

-- so it is for any fault
pub on_fault_is : (f : Fault) {P Q X : Type 0} → OnFault f P Q → (f ≡ fault.Memory → P → X) → (f ≡ fault.Write → Q → X) → X
on_fault_is fault.Memory is p q = p refl is
on_fault_is fault.Write is p q = q refl is
on_fault_is fault.Incomplete is p q = absurd is

-- it failed to allocate, if it didn't stop at a write
pub for_memory : (f : Fault) (P : Type 0) {Q : Type 0} → OnFault f P Q → (Q → ⊥) → f ≡ fault.Memory
for_memory fault.Memory P is never = refl
for_memory fault.Write P is never = absurd (never is)
for_memory fault.Incomplete P is never = absurd is

pub fault_as : (f : Fault) (P Q X Y : Type 0) → OnFault f P Q → (P → X) → (Q → Y) → OnFault f X Y
fault_as fault.Memory P Q X Y is p q = p is
fault_as fault.Write P Q X Y is p q = q is
fault_as fault.Incomplete P Q X Y is p q = is

-- a fault that is passed on, with more known of it
pub fault_handed : {A : Type 0} (r : Result A Fault) (f : Fault) → IsErrAnd r (λ x. x ≡ f) → (P Q X Y : Type 0) → OnFault f P Q → (P → X) → (Q → Y) → IfErr r (λ x. OnFault x X Y)
fault_handed (Ok x) f e P Q X Y is p q = tt
fault_handed (Err g) f e P Q X Y is p q = subst (λ x. OnFault x X Y) (sym e) (fault_as f P Q X Y is p q)

-- what holds of a fault that is passed on
pub fault_is : {A : Type 0} (r : Result A Fault) (f : Fault) → IsErrAnd r (λ x. x ≡ f) → (P : Type 0) {Q : Type 0} → OnFault f P Q → (X : Fault → Type 0) → (P → X fault.Memory) → (Q → X fault.Write) → IfErr r X
fault_is (Ok x) f e P is X p q = tt
fault_is (Err g) fault.Memory e P is X p q = subst X (sym e) (p is)
fault_is (Err g) fault.Write e P is X p q = subst X (sym e) (q is)
fault_is (Err g) fault.Incomplete e P is X p q = absurd is

-- a failure to allocate, passed on
pub memory_handed : {A : Type 0} (r : Result A Fault) (f : Fault) → IsErrAnd r (λ x. x ≡ f) → f ≡ fault.Memory → (P Q : Type 0) → P → IfErr r (λ x. OnFault x P Q)
memory_handed (Ok x) f e w P Q p = tt
memory_handed (Err g) f e w P Q p = subst (λ x. OnFault x P Q) (sym (e ∙ w)) p

-- a refused write, passed on
pub write_handed : {A : Type 0} (r : Result A Fault) (f : Fault) → IsErrAnd r (λ x. x ≡ f) → f ≡ fault.Write → (P Q : Type 0) → Q → IfErr r (λ x. OnFault x P Q)
write_handed (Ok x) f e w P Q q = tt
write_handed (Err g) f e w P Q q = subst (λ x. OnFault x P Q) (sym (e ∙ w)) q

-- a run that was finished with an output, was finished with the reply's
pub finished_itself : {K C R O : Type 0} {M : Meaning K C R O} {es es' : Entries K C R O} {pending : PendingRun K C R} {sent : List (C × R) → List C → Type 0} {output : O} {reply : Reply O} → Finished M es pending sent output reply es' → Finished M es pending sent reply.output reply es'
finished_itself {M = M} {es} {es'} {pending} {sent} {output} {reply} done = subst (λ o. Finished M es pending sent o reply es') (sym done.same) done

-- a run that isn't late sent what it recorded to the sink
pub finished_early : {K C R O : Type 0} {M : Meaning K C R O} {es es' : Entries K C R O} {pending : PendingRun K C R} {S : Type 0} (took : S → S → List (C × R) → List C → Type 0) (lates : S → S → Type 0) {i j : S} {output : O} {reply : Reply O} → pending.recording.late ≡ false → Finished M es pending (TookAs took lates pending.recording.late i j) output reply es' → Finished M es pending (took i j) output reply es'
finished_early {pending = pending} took lates early done = record { complete = done.complete; same = done.same; ends = done.ends; late = done.late; disabled = done.disabled; settled = done.settled; gives = gives_early took lates pending.recording.late early done.gives }

-- a run that is late left the entries unchanged
ended_late : {K C R O : Type 0} (M : Meaning K C R O) (es es' : Entries K C R O) (ran : Run K C R O) {h : How} → h ≡ how.Late → Ends M es ran h es' → es' ≡ es
ended_late M es es' ran e ends = subst (λ x. Ends M es ran x es') e ends

-- a run that was finished is no hit
pub never_hit : {K C R O : Type 0} {M : Meaning K C R O} {es es' : Entries K C R O} {pending : PendingRun K C R} {sent : List (C × R) → List C → Type 0} {output : O} {reply : Reply O} → Finished M es pending sent output reply es' → reply.how ≡ how.Hit → ⊥
never_hit {M = M} {es} {es'} {pending} {output = output} done e = subst (λ x. Ends M es (came_to pending output) x es') e done.ends

module _ {K C R O : Type 0} {M : Meaning K C R O} {es : Entries K C R O} {call : Invocation K C R} where
  -- a run that began, however it is seen
  pub run_seen : {seen begun : PendingRun K C R} → seen ≡ begun → IsRun M es call begun → IsRun M es call seen
  run_seen e is = subst (λ run. IsRun M es call run) (sym e) is

  -- a hit is replied so
  pub reply_by_hit : IsEquivalence M.same_call → IsEquivalence M.same_answer → {done : List C → Type 0} {sent : List (C × R) → List C → Type 0} {output : O} (mid es' : Entries K C R O) → IsHit M es call done sent output → Touches M es call es' → IsReply M call es mid sent (record { output = output; how = how.Hit }) es'
  reply_by_hit calls answers mid es' hit touched = record {
    pairs = hit.pairs;
    writes = hit.writes;
    agrees = hit.agrees;
    stands = hit.stands;
    settled = hit.settled;
    gives = gives_itself calls answers hit.pairs hit.writes hit.are_sent;
    came = inl (refl, record { is_enabled = hit.is_enabled; kept = hit.kept; reads = hit.reads; written = hit.written; touched = touched });
  }

  -- what is legal at the key of a run is legal at the call's
  pub stands_at_call : {begun : PendingRun K C R} → IsRun M es call begun → (pairs : List (C × R)) (output : O) (writes : List C) → Stands M (run begun.key pairs output writes) → Stands M (run call.key pairs output writes)
  stands_at_call is pairs output writes stands = λ n r a. is.right n output writes r (stands n r a)

  module _ {S : Type 0} (took : S → S → List (C × R) → List C → Type 0) (lates : S → S → Type 0) {i j : S} where
    -- a run that was finished, which isn't late and of which the answers agree with what it recorded, is replied so
    pub reply_by_run : {begun : PendingRun K C R} {t : Recording C R} → IsRun M es call begun → t.late ≡ false → Agrees M.same_answer call.answers t.pairs → {mid es' : Entries K C R O} {output : O} {reply : Reply O} → Stands M (came_to (recorded begun t) output) → Finished M mid (recorded begun t) (TookAs took lates t.late i j) output reply es' → IsReply M call es mid (took i j) reply es'
    reply_by_run {begun = begun} {t = t} is early agrees {mid = mid} {es' = es'} {output = output} {reply = reply} stands done = record {
      pairs = t.pairs;
      writes = t.writes;
      agrees = agrees;
      stands = subst (λ o. Stands M (run call.key t.pairs o t.writes)) (sym done.same) (stands_at_call is t.pairs output t.writes stands);
      settled = is.named t.pairs (done.settled early);
      gives = gives_early took lates t.late early done.gives;
      came = inr (record {
        none = is.none;
        own = begun.key;
        has_key = is.has_key;
        ends = subst (λ o. Ends M mid (run begun.key t.pairs o t.writes) reply.how es') (sym done.same) done.ends;
        disabled = (λ d. sym is.is_enabled ∙ (done.disabled.0 d).0, λ d. done.disabled.1 (is.is_enabled ∙ d, early));
        early = λ l. let no : false ≡ true = sym early ∙ done.late.0 l in cc;
      });
    }

  -- a run under a key of its own that is equal to the call's, replied so
  pub reply_by_own_run : {own : K} → HasToRun M es call own → {mid es' : Entries K C R O} {sent : List (C × R) → List C → Type 0} {reply : Reply O} → RanAs M (invocation own call.answers call.enabled) mid sent reply es' → IsReply M call es mid sent reply es'
  reply_by_own_run {own} has {mid = mid} {es' = es'} {reply = reply} ran =
      let t = ran.recording in
      let stands : Stands M (run own t.pairs reply.output t.writes) = subst (λ ws. Stands M (run own t.pairs reply.output ws)) (sym ran.no_writes) ran.stands in
      record {
        pairs = t.pairs;
        writes = t.writes;
        agrees = ran.agrees;
        stands = λ n r a. has.right n reply.output t.writes r (stands n r a);
        settled = has.named t.pairs (ran.finished.settled ran.early);
        gives = ran.finished.gives;
        came = inr (record {
          none = has.none;
          own = own;
          has_key = has.has_key;
          ends = ran.finished.ends;
          disabled = (λ d. (ran.finished.disabled.0 d).0, λ d. ran.finished.disabled.1 (d, ran.early));
          early = λ l. let no : false ≡ true = sym ran.early ∙ ran.finished.late.0 l in cc;
        });
      }

  -- the writes that a reply rests on were done too, and led to whatever is the same
  also_done : {mid es' : Entries K C R O} {sent : List (C × R) → List C → Type 0} {reply : Reply O} {V : Type 0} (did : V → V → List C → Type 0) (i j k : V) → k ≡ j → (is : IsReply M call es mid sent reply es') → did i j is.writes → IsReply M call es mid (λ P W. sent P W × did i k W) reply es'
  also_done did i j k e is done = record {
    pairs = is.pairs;
    writes = is.writes;
    agrees = is.agrees;
    stands = is.stands;
    settled = is.settled;
    gives = record { given = is.gives.given; alike = is.gives.alike; agreeing = is.gives.agreeing; are_sent = (is.gives.are_sent, subst (λ v. did i v is.writes) (sym e) done) };
    came = is.came;
  }

  -- a hit of which the writes were done too
  pub reply_by_done_hit : IsEquivalence M.same_call → IsEquivalence M.same_answer → {done : List C → Type 0} {sent : List (C × R) → List C → Type 0} {output : O} (mid es' : Entries K C R O) (hit : IsHit M es call done sent output) → Touches M es call es' → {V : Type 0} (did : V → V → List C → Type 0) (i j k : V) → k ≡ j → did i j hit.writes → IsReply M call es mid (λ P W. sent P W × did i k W) (record { output = output; how = how.Hit }) es'
  unfolding reply_by_hit
  reply_by_done_hit calls answers mid es' hit touched did i j k e d = also_done did i j k e (reply_by_hit calls answers mid es' hit touched) d

  -- a run of which the writes were done too, and which is late or not
  pub reply_by_done_run : {begun : PendingRun K C R} (t : Recording C R) (touches : C → C → Bool) → IsLateByTouch M.same_call touches t → IsRun M es call begun → (t.late ≡ false → Agrees M.same_answer call.answers t.pairs) → {mid es' : Entries K C R O} {S : Type 0} (took : S → S → List (C × R) → List C → Type 0) (lates : S → S → Type 0) {a b : S} {output : O} {reply : Reply O} → (t.late ≡ false → Stands M (came_to (recorded begun t) output)) → Finished M mid (recorded begun t) (TookAs took lates t.late a b) output reply es' → {V : Type 0} (did : V → V → List C → Type 0) (i j k : V) → k ≡ j → did i j t.writes → IsReplyMut M call touches es mid (λ late P W. TookAs took lates late a b P W × did i k W) reply es'
  unfolding reply_by_run
  reply_by_done_run {begun} t touches touching is agrees {mid = mid} {es' = es'} took lates {a = a} {b = b} {output = output} {reply = reply} stands done did i j k e d =
      elim (cases_Bool t.late) [
        | inl late ↦
            let gives = gives_late took lates t.late late done.gives in
            inr (record {
              pairs = t.pairs;
              writes = t.writes;
              is_late = done.late.1 late;
              touching = touching.touching late;
              none = is.none;
              gives = record { given = gives.given; alike = gives.alike; agreeing = gives.agreeing; are_sent = (gives.are_sent, subst (λ v. did i v t.writes) (sym e) d) };
              same = ended_late M mid es' (run begun.key t.pairs output t.writes) (done.late.1 late) done.ends;
            })
        | inr early ↦ inl (also_done did i j k e (reply_by_run took lates {t = t} is early (agrees early) (stands early) done) d)
      ]

  -- what went to a sink so went there otherwise
  pub resent : {mid es' : Entries K C R O} {sent sends : List (C × R) → List C → Type 0} {reply : Reply O} → ((P : List (C × R)) (W : List C) → sent P W → sends P W) → IsReply M call es mid sent reply es' → IsReply M call es mid sends reply es'
  resent f is = record {
    pairs = is.pairs;
    writes = is.writes;
    agrees = is.agrees;
    stands = is.stands;
    settled = is.settled;
    gives = record { given = is.gives.given; alike = is.gives.alike; agreeing = is.gives.agreeing; are_sent = f is.gives.given is.writes is.gives.are_sent };
    came = is.came;
  }

  -- a hit that stopped, of which the writes before were done so
  pub stopped_as : {done so : List C → Type 0} {spoiled : List (C × R) → List C → Type 0} → (is : IsStopped M es call done spoiled) → so is.prefix → IsStopped M es call so spoiled
  stopped_as is did = record { pairs = is.pairs; output = is.output; prefix = is.prefix; next = is.next; rest = is.rest; is_refused = is.is_refused; is_enabled = is.is_enabled; kept = is.kept; agrees = is.agrees; stands = is.stands; reads = is.reads; written = is.written; are_done = did; is_spoiled = is.is_spoiled }

  -- a hit that stopped, whatever became of its sink
  pub stopped_so : {done : List C → Type 0} {spoiled : List (C × R) → List C → Type 0} → IsStopped M es call done spoiled → IsStopped M es call done (λ _ _. ⊤)
  stopped_so is = record { pairs = is.pairs; output = is.output; prefix = is.prefix; next = is.next; rest = is.rest; is_refused = is.is_refused; is_enabled = is.is_enabled; kept = is.kept; agrees = is.agrees; stands = is.stands; reads = is.reads; written = is.written; are_done = is.are_done; is_spoiled = tt }

  -- a hit of a function whose calls are reads stops at no write
  pub never_refused : {done : List C → Type 0} {spoiled : List (C × R) → List C → Type 0} → IsStopped M es call done spoiled → ((c : C) → M.is_write c ≡ false) → ⊥
  never_refused is reads = let e : true ≡ false = sym is.is_refused ∙ reads is.next in cc

  -- a hit of a function that only reads stops at no write
  pub never_stops : Respects M.same_call M.same_answer call.answers → ((output : O) (writes : List C) → M.right call.key call.answers output writes → writes ≡ []) → {done : List C → Type 0} {spoiled : List (C × R) → List C → Type 0} → IsStopped M es call done spoiled → ⊥
  never_stops respects reads is = some_write is.prefix is.next is.rest (reads is.output (is.prefix ++ is.next ∷ is.rest) (is.stands call.answers respects is.agrees))

  -- a call that did not begin broke off what was sent to its sink
  pub broke_at_begin : {broken : List (C × R) → Type 0} → IsBrokenOff M es call broken → BrokeOff M.same_answer call.answers broken
  broke_at_begin is = record { pairs = is.pairs; agrees = is.agrees; is_broken = is.is_broken }

-- so did a run that could not be finished
pub broke_at_end : {K C R O : Type 0} (M : Meaning K C R O) (m : C → R) → IsEquivalence M.same_call → IsEquivalence M.same_answer → Respects M.same_call M.same_answer m → {broken : List (C × R) → Type 0} {pairs : List (C × R)} → Agrees M.same_answer m pairs → BreaksOffRun M broken pairs → BrokeOff M.same_answer m broken
broke_at_end M m calls answers respects {pairs = pairs} agrees is = record { pairs = is.given; agrees = Agrees-same calls answers m respects pairs is.given (IsSamePath-turned calls answers is.given pairs is.alike) agrees; is_broken = is.is_broken }

-- after a run whose recording agrees with the answers if it is complete, and whose sink is incomplete and otherwise
-- unchanged if it isn't
pub broke_by_run : {K C R O : Type 0} (M : Meaning K C R O) (m : C → R) → IsEquivalence M.same_call → IsEquivalence M.same_answer → Respects M.same_call M.same_answer m → (broken : List (C × R) → Type 0) (pairs : List (C × R)) (complete : Bool) → (complete ≡ true → Agrees M.same_answer m pairs) → (complete ≡ false → broken []) → (X : Type 0) {T E : Type 0} (r : Result T E) → OnErr r (X × BreaksOffRun M broken pairs) → OnErr r (X × BrokeOff M.same_answer m broken)
broke_by_run M m calls answers respects broken pairs complete agrees spoiled X (Ok x) e = tt
broke_by_run M m calls answers respects broken pairs true agrees spoiled X (Err x) e = (e.0, broke_at_end M m calls answers respects (agrees refl) e.1)
broke_by_run M m calls answers respects broken pairs false agrees spoiled X (Err x) e = (e.0, record { pairs = []; agrees = tt; is_broken = spoiled refl })
