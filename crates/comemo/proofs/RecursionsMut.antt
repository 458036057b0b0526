-- For authors of functions that call themselves and write: what their calls establish, and how a nested run is
-- finished.
use Rattle.std.proofs.Common.{◌≡◌, ◌∙◌, ◌↔◌, Bool, true, false, List, [], ◌++◌, IsTrue, Result, Ok, Err, IfOk, IfErr, IsErrAnd, refl, sym, ap, subst, append_assoc, append-nil, inl, inr}
use Rattle.std.proofs.lemmas.Bool.{cases_Bool}
use Rattle.std.specs.List.{All}
use Rattle.std.specs.Cmp.{IsEquivalence}
use Rattle.comemo_base.specs.Answers.{Respects, Agrees}
use Rattle.comemo_track.specs.Recording.{Recording, Took, MarkedLate}
use Rattle.comemo_track.specs.Sending.{Asks, TookAs}
use Rattle.comemo_track.specs.Writing.{Done}
use Rattle.comemo_cache.specs.Meaning.{Meaning, run}
use Rattle.comemo_cache.specs.Cache.{Entries}
use Rattle.comemo.specs.Begin.{PendingRun}
use Rattle.comemo.specs.Finish.{Ends, Finished, Gives}
use Rattle.comemo.specs.Function.{Fits}
use Rattle.comemo.specs.FunctionMut.{Lent, Began, HasBegun, Goes, TellsMut, TellsWrites, Since}
use Rattle.comemo.specs.Recursive.{FinishedAs}
use Rattle.comemo.specs.RecursiveMut.{Within}
use Rattle.comemo.specs.declared.pending.Fault.{Fault}
use Rattle.comemo.specs.declared.pending.Fault.TheVariants as fault
use Rattle.comemo.specs.declared.pending.Reply.{Reply}
use Rattle.comemo.proofs.Endings.{gives_early, gives_late}
use Rattle.comemo.proofs.Lateness.{touches_alike}
use Rattle.comemo.proofs.RecordersMut.{AreReads, took_reads, has_begun_on, has_begun_late, tells_late, fitted_mut, taken_mut, goes_on, goes_both}

-- what a run within a run did on, from t to u, it did since it was started
pub within_goes : {V C R : Type 0} {did : V → V → List C → Type 0} {eq touches : C → C → Bool} {same : R → R → Bool} {answers : V → C → R} {s t u : Lent V C R} {around : Recording C R} → Within did eq touches same answers s t around → Goes did eq touches same answers t u → Within did eq touches same answers s u around
within_goes {s = s} {t} {u} a b = record {
  kept = a.kept;
  agreed = a.agreed;
  same_value = b.same_value ∙ a.same_value;
  same_recording = b.same_recording ∙ a.same_recording;
  began = λ complete. b.began complete s.value.now (a.began (b.was_complete complete));
  late = λ complete. b.late complete (a.late (b.was_complete complete));
  reached = b.reached s.value.now a.reached;
}

-- if nothing was written before, what was written is what was written since
pub since_nothing : {V C R : Type 0} (s t : Lent V C R) (P : List C → Type 0) → s.recording.now.writes ≡ [] → Since s t P → P t.recording.now.writes
since_nothing s t P none k = subst P (sym (k.1 ∙ ap (λ W. W ++ k.0) none)) k.2

module _ {V C R : Type 0} {did : V → V → List C → Type 0} {eq touches : C → C → Bool} {same : R → R → Bool} {answers : V → C → R} {fits : Recording C R → (C → R) → Type 0} where
  -- if nothing is done
  pub writes_nothing : {X : Type 0} (s : Lent V C R) (x : X) {P : X → (C → R) → List C → Type 0} → ((m : C → R) → fits s.recording.now m → P x m []) → TellsWrites (Goes did eq touches same answers) fits s s (Ok x) P
  writes_nothing s x is = record {
    goes = record { same_value = refl; same_recording = refl; was_complete = λ w. w; began = λ w start b. b; late = λ w before. before; reached = λ start r. r };
    before = λ m f. f;
    told = λ m f. ([], sym (append-nil s.recording.now.writes), is m f);
    complete = refl;
    fault = tt;
  }

  module _ {X : Type 0} {x : X} {s t : Lent V C R} where
    -- a write writes itself
    pub wrote : {P : X → (C → R) → Type 0} → TellsMut (Goes did eq touches same answers) fits s t (Ok x) P → (equal reach : C → C → Bool) (W : List C) → Took equal reach s.recording.now t.recording.now [] W → TellsWrites (Goes did eq touches same answers) fits s t (Ok x) (λ y m V. V ≡ W)
    wrote a equal reach W one = record { goes = a.goes; before = a.before; told = λ m f. (W, one.writes, refl); complete = one.complete; fault = tt }

    module _ {u : Lent V C R} {P : X → (C → R) → List C → Type 0} (a : TellsWrites (Goes did eq touches same answers) fits s t (Ok x) P) where
      -- two steps in turn write what the first writes, and then what the second does
      pub writes_both : {Y : Type 0} (r : Result Y Fault) {Q : Y → (C → R) → List C → Type 0} → TellsWrites (Goes did eq touches same answers) fits t u r Q → TellsWrites (Goes did eq touches same answers) fits s u r (λ y m W. (U : List C) × (V : List C) × (W ≡ U ++ V) × P x m U × Q y m V)
      writes_both (Ok y) b = record {
        goes = goes_both a.goes b.goes;
        before = λ m f. a.before m (b.before m f);
        told = λ m f.
            let one = a.told m (b.before m f) in
            let two = b.told m f in
            (one.0 ++ two.0, two.1 ∙ (ap (λ W. W ++ two.0) one.1 ∙ append_assoc s.recording.now.writes one.0 two.0), (one.0, two.0, refl, one.2, two.2));
        complete = b.complete ∙ a.complete;
        fault = tt;
      }
      writes_both (Err f) b = record { goes = goes_both a.goes b.goes; before = tt; told = tt; complete = tt; fault = b.fault }

      -- a step that failed, after another
      pub failed_after : {Y Z : Type 0} (f : Fault) (r : Result Z Fault) {Q : Y → (C → R) → Type 0} {S : Z → (C → R) → List C → Type 0} → (let failed : Result Y Fault = Err f in TellsMut (Goes did eq touches same answers) fits t u failed Q) → IsErrAnd r (λ g. g ≡ f) → TellsWrites (Goes did eq touches same answers) fits s u r S
      failed_after f (Ok y) b h = absurd h
      failed_after f (Err g) b e = record { goes = goes_both a.goes b.goes; before = tt; told = tt; complete = tt; fault = λ is. b.fault (sym e ∙ is) }

      -- so did a call of a function that writes
      pub stopped_after : {Y Z : Type 0} (f : Fault) (r : Result Z Fault) {Q : Y → (C → R) → List C → Type 0} {S : Z → (C → R) → List C → Type 0} → (let failed : Result Y Fault = Err f in TellsWrites (Goes did eq touches same answers) fits t u failed Q) → IsErrAnd r (λ g. g ≡ f) → TellsWrites (Goes did eq touches same answers) fits s u r S
      stopped_after f (Ok y) b h = absurd h
      stopped_after f (Err g) b e = record { goes = goes_both a.goes b.goes; before = tt; told = tt; complete = tt; fault = λ is. b.fault (sym e ∙ is) }

    -- a step, after which memory is out
    pub memory_after : {P : X → (C → R) → List C → Type 0} → TellsWrites (Goes did eq touches same answers) fits s t (Ok x) P → {Z : Type 0} (r : Result Z Fault) {S : Z → (C → R) → List C → Type 0} → IsErrAnd r (λ g. g ≡ fault.Memory) → TellsWrites (Goes did eq touches same answers) fits s t r S
    memory_after a (Ok z) h = absurd h
    memory_after a (Err g) e = record { goes = a.goes; before = tt; told = tt; complete = tt; fault = λ is. let no : fault.Memory ≡ fault.Incomplete = sym e ∙ is in cc }

    -- another output, right by the same writes
    pub writes_to : {Y : Type 0} {y : Y} {P : X → (C → R) → List C → Type 0} {Q : Y → (C → R) → List C → Type 0} → TellsWrites (Goes did eq touches same answers) fits s t (Ok x) P → ((m : C → R) (W : List C) → fits t.recording.now m → P x m W → Q y m W) → TellsWrites (Goes did eq touches same answers) fits s t (Ok y) Q
    writes_to a so = record { goes = a.goes; before = a.before; told = λ m f. let k = a.told m f in (k.0, k.1, so m k.0 f k.2); complete = a.complete; fault = tt }

  -- a question writes nothing
  pub asked : {s t : Lent V C R} {x : R} {P : R → (C → R) → Type 0} → TellsMut (Goes did eq touches same answers) fits s t (Ok x) P → (equal reach : C → C → Bool) (like : R → R → Bool) (m : C → R) (call : C) → Asks like m call x (Took equal reach s.recording.now t.recording.now) → TellsWrites (Goes did eq touches same answers) fits s t (Ok x) (λ y n W. (W ≡ []) × P y n)
  asked a equal reach like m call k = record { goes = a.goes; before = a.before; told = λ n f. ([], k.sent.writes, (refl, a.told n f)); complete = k.sent.complete; fault = tt }

  -- nor does a call of a function that reads
  pub called : {X : Type 0} {s t : Lent V C R} {x : X} {P : X → (C → R) → Type 0} → TellsMut (Goes did eq touches same answers) fits s t (Ok x) P → t.recording.now.writes ≡ s.recording.now.writes → TellsWrites (Goes did eq touches same answers) fits s t (Ok x) (λ y n W. (W ≡ []) × P y n)
  called {s = s} a none = record { goes = a.goes; before = a.before; told = λ n f. ([], none ∙ sym (append-nil s.recording.now.writes), (refl, a.told n f)); complete = a.complete; fault = tt }

  -- what is established of a reply is established of its output
  pub of_output : {O : Type 0} (reply : Reply O) {s t : Lent V C R} (P : O → (C → R) → List C → Type 0) → TellsWrites (Goes did eq touches same answers) fits s t (Ok reply) (λ r m W. P r.output m W) → TellsWrites (Goes did eq touches same answers) fits s t (Ok reply.output) P
  of_output reply P a = record { goes = a.goes; before = a.before; told = a.told; complete = a.complete; fault = tt }

  pub of_reply : {O : Type 0} (reply : Reply O) {s t : Lent V C R} (P : O → (C → R) → List C → Type 0) → TellsWrites (Goes did eq touches same answers) fits s t (Ok reply.output) P → TellsWrites (Goes did eq touches same answers) fits s t (Ok reply) (λ r m W. P r.output m W)
  of_reply reply P a = record { goes = a.goes; before = a.before; told = a.told; complete = a.complete; fault = tt }

  -- a fault that was passed on establishes what it did
  pub handed_on : {X Y : Type 0} (f : Fault) (r : Result Y Fault) {s t : Lent V C R} {P : X → (C → R) → List C → Type 0} {Q : Y → (C → R) → List C → Type 0} → (let failed : Result X Fault = Err f in TellsWrites (Goes did eq touches same answers) fits s t failed P) → IsErrAnd r (λ g. g ≡ f) → TellsWrites (Goes did eq touches same answers) fits s t r Q
  handed_on f (Ok y) a h = absurd h
  handed_on f (Err g) a e = record { goes = a.goes; before = tt; told = tt; complete = tt; fault = λ is. a.fault (sym e ∙ is) }

  -- what was established establishes what follows from it
  pub writes_as : {X : Type 0} (r : Result X Fault) {s t : Lent V C R} {P Q : X → (C → R) → List C → Type 0} → TellsWrites (Goes did eq touches same answers) fits s t r P → ((x : X) (m : C → R) (W : List C) → fits t.recording.now m → P x m W → Q x m W) → TellsWrites (Goes did eq touches same answers) fits s t r Q
  writes_as (Ok x) a so = record { goes = a.goes; before = a.before; told = λ m f. let one = a.told m f in (one.0, one.1, so x m one.0 f one.2); complete = a.complete; fault = tt }
  writes_as (Err f) a so = record { goes = a.goes; before = tt; told = tt; complete = tt; fault = a.fault }

  -- if nothing was written before, an output is right by all that was written
  pub right_alone : {X : Type 0} (r : Result X Fault) {s t : Lent V C R} {P : X → (C → R) → List C → Type 0} → TellsWrites (Goes did eq touches same answers) fits s t r P → s.recording.now.writes ≡ [] → IfOk r (λ x. (m : C → R) → fits t.recording.now m → P x m t.recording.now.writes)
  right_alone (Ok x) {s} {t} {P} a none = λ m f. since_nothing s t (P x m) none (a.told m f)
  right_alone (Err f) a none = tt

abbrev fault_in : {A : Type 0} → Fault → Result A Fault → Fault
fault_in d (Ok x) = d
fault_in d (Err f) = f

same_fault : (A B : Type 0) (f g : Fault) → (let r : Result A Fault = Err f in r ≡ Err g) → (let r : Result B Fault = Err f in r ≡ Err g)
same_fault A B f g e = ap (λ x. Err x) (ap (fault_in f) e)

-- if a fault is `Incomplete`, whatever the type of the output
pub incomplete_as : {O : Type 0} (A B X : Type 0) (ran : Result O Fault) (f : Fault) → IfOk ran (λ _. (let r : Result A Fault = Err f in r ≡ Err fault.Incomplete) ↔ X) → IfOk ran (λ _. (let r : Result B Fault = Err f in r ≡ Err fault.Incomplete) ↔ X)
incomplete_as A B X (Ok x) f h = (λ e. h.0 (same_fault B A f fault.Incomplete e), λ x. same_fault A B f fault.Incomplete (h.1 x))
incomplete_as A B X (Err g) f h = tt

-- a fault that was passed on, whatever the type of the output
pub fault_on : {O : Type 0} (A B : Type 0) (Y : Fault → Type 0) (ran : Result O Fault) (f : Fault) → IfErr ran (λ g. (let r : Result A Fault = Err f in r ≡ Err g) × Y g) → IfErr ran (λ g. let r : Result B Fault = Err f in r ≡ Err g)
fault_on A B Y (Ok x) f h = tt
fault_on A B Y (Err g) f h = same_fault A B f g h.0

pub fault_with : {O : Type 0} (A B : Type 0) (ran : Result O Fault) (f : Fault) → IfErr ran (λ g. let r : Result A Fault = Err f in r ≡ Err g) → IfErr ran (λ g. let r : Result B Fault = Err f in r ≡ Err g)
fault_with A B (Ok x) f h = tt
fault_with A B (Err g) f h = same_fault A B f g h

-- what failed with a fault is that fault
pub is_failure : {A : Type 0} (r : Result A Fault) (f : Fault) → IsErrAnd r (λ g. g ≡ f) → (let failed : Result A Fault = Err f in r ≡ failed)
is_failure (Ok x) f h = absurd h
is_failure (Err g) f h = ap (λ x. Err x) h

-- a run that is to be stored was finished so
pub finished_with : {K C R O : Type 0} (M : Meaning K C R O) (es es' : Entries K C R O) (pending : PendingRun K C R) {sent : List (C × R) → List C → Type 0} (output : O) (reply : Reply O) → pending.enabled ≡ true → Finished M es pending sent output reply es' → FinishedAs M es pending.recording.late sent (run pending.key pending.recording.pairs reply.output pending.recording.writes) reply.how es'
finished_with M es es' pending {sent} output reply enabled done = record {
  enabled = λ d. let no : true ≡ false = sym enabled ∙ (done.disabled.0 d).0 in cc;
  is_late = done.late;
  ends = subst (λ o. Ends M es (run pending.key pending.recording.pairs o pending.recording.writes) reply.how es') (sym done.same) done.ends;
  gives = done.gives;
}

module _ {V K C R O : Type 0} (M : Meaning K C R O) (calls : IsEquivalence M.same_call) (laws : IsEquivalence M.same_answer) (wrote : V → C → V → Type 0) (w : C → Bool) (touches : C → C → Bool) (answers : V → C → R) (kind : (x y : C) → IsTrue (M.same_call x y) → w x ≡ w y) (alike : (v : V) → Respects M.same_call M.same_answer (answers v)) (s t u : Lent V C R) {around : Recording C R} (within : Within (Done wrote w touches M.same_answer answers) M.same_call touches M.same_answer answers s t around) (value : u.value ≡ t.value) (place : u.recording.ghost_name ≡ s.recording.ghost_name) (complete : t.recording.now.complete ≡ true) (all : All (λ p. w p.0 ≡ false) u.recording.now.pairs) (gives : Gives M (TookAs (Took M.same_call touches) MarkedLate t.recording.now.late around u.recording.now) t.recording.now.pairs t.recording.now.writes) where
  did : Done wrote w touches M.same_answer answers s.value.now u.value.now t.recording.now.writes
  did = subst (λ v. Done wrote w touches M.same_answer answers s.value.now v.now t.recording.now.writes) (sym value) (within.began complete).done

  same_value : u.value.ghost_name ≡ s.value.ghost_name
  same_value = ap (λ v. v.ghost_name) value ∙ within.same_value

  module _ (early : t.recording.now.late ≡ false) where
    given : Gives M (Took M.same_call touches s.recording.now u.recording.now) t.recording.now.pairs t.recording.now.writes
    given = subst (λ r. Gives M (Took M.same_call touches r u.recording.now) t.recording.now.pairs t.recording.now.writes) within.kept (gives_early (Took M.same_call touches) MarkedLate t.recording.now.late early gives)

    -- as the value answered when the run was started
    given_agreed : Agrees M.same_answer (answers s.value.now) given.given
    given_agreed = (given.agreeing (answers s.value.now) (alike s.value.now)).1 ((within.began complete).agrees early)

    given_reads : AreReads w given.given
    given_reads = took_reads calls w kind given.given t.recording.now.writes given.are_sent all

    early_begun : HasBegun (Done wrote w touches M.same_answer answers) M.same_answer answers u
    early_begun = has_begun_on wrote w touches M.same_answer answers calls laws alike s u given.given t.recording.now.writes given.are_sent given_reads given_agreed did within.agreed

    early_tells : (key : K) (output : O) → ((n : C → R) → Fits M.same_call M.same_answer t.recording.now n → M.right key n output t.recording.now.writes) → TellsWrites (Goes (Done wrote w touches M.same_answer answers) M.same_call touches M.same_answer answers) (Fits M.same_call M.same_answer) s u (Ok output) (λ o n writes. M.right key n o writes)
    early_tells key output right = record {
      goes = goes_on wrote w touches M.same_answer answers calls laws alike s u given.given t.recording.now.writes given.are_sent given_reads given_agreed same_value place did;
      before = fitted_mut wrote w touches M.same_answer answers calls laws alike s u given.given t.recording.now.writes given.are_sent given_reads given_agreed within.agreed;
      told = λ n f. (t.recording.now.writes, given.are_sent.writes, right n (record { complete = complete; early = early; respects = f.respects; agrees = (given.agreeing n f.respects).0 (taken_mut wrote w touches M.same_answer answers calls laws alike s u given.given t.recording.now.writes given.are_sent given_reads given_agreed within.agreed n f) }));
      complete = given.are_sent.complete;
      fault = tt;
    }

  module _ (late : t.recording.now.late ≡ true) where
    marked : Gives M (TookAs (Took M.same_call touches) MarkedLate true s.recording.now u.recording.now) t.recording.now.pairs t.recording.now.writes
    marked = subst (λ r. Gives M (TookAs (Took M.same_call touches) MarkedLate true r u.recording.now) t.recording.now.pairs t.recording.now.writes) within.kept (gives_late (Took M.same_call touches) MarkedLate t.recording.now.late late gives)

    late_begun : HasBegun (Done wrote w touches M.same_answer answers) M.same_answer answers u
    late_begun = has_begun_late wrote w touches M.same_answer answers calls laws alike s u marked.given t.recording.now.writes marked.are_sent did within.agreed

    late_tells : (output : O) {Q : O → (C → R) → List C → Type 0} → TellsWrites (Goes (Done wrote w touches M.same_answer answers) M.same_call touches M.same_answer answers) (Fits M.same_call M.same_answer) s u (Ok output) Q
    late_tells output = tells_late wrote w touches M.same_answer answers calls laws alike s u marked.given t.recording.now.writes marked.are_sent did (touches_alike calls touches M.same_answer marked.given t.recording.now.pairs t.recording.now.writes marked.alike ((within.late complete).touching late)) same_value place output

  -- a nested run that was finished establishes for the run around it what is right by what it recorded
  pub within_tells : (key : K) (output : O) → ((n : C → R) → Fits M.same_call M.same_answer t.recording.now n → M.right key n output t.recording.now.writes) → TellsWrites (Goes (Done wrote w touches M.same_answer answers) M.same_call touches M.same_answer answers) (Fits M.same_call M.same_answer) s u (Ok output) (λ o n writes. M.right key n o writes)
  within_tells key output right = elim (cases_Bool t.recording.now.late) [ inl late ↦ late_tells late output | inr early ↦ early_tells early key output right ]

  -- and the recording of that run began where it had begun
  pub within_agrees : HasBegun (Done wrote w touches M.same_answer answers) M.same_answer answers u
  within_agrees = elim (cases_Bool t.recording.now.late) [ inl late ↦ late_begun late | inr early ↦ early_begun early ]

-- what follows from a call within a recording of its own, which was empty and complete, if it isn't late afterwards:
-- what was established holds of the previous value, and the recorded writes were done on it
pub writes_now : {V C R X : Type 0} {eq : C → C → Bool} {same : R → R → Bool} {wrote : V → C → V → Type 0} {w : C → Bool} {touches : C → C → Bool} {answers : V → C → R} → ((v : V) → Respects eq same (answers v)) → {s t : Lent V C R} {P : X → (C → R) → List C → Type 0} (r : Result X Fault) → s.recording.now.complete ≡ true → s.recording.now.writes ≡ [] → s.recording.now.pairs ≡ [] → TellsWrites (Goes (Done wrote w touches same answers) eq touches same answers) (Fits eq same) s t r P → {Q : X → Type 0} → ((x : X) (W : List C) → P x (answers s.value.now) W → Done wrote w touches same answers s.value.now t.value.now W → Q x) → (t.recording.now.complete ≡ true → t.recording.now.late ≡ false) → IfOk r Q
writes_now {same = same} {wrote} {w} {touches} {answers} alike {s} {t} (Ok x) complete none nothing a so early =
    let is = a.complete ∙ complete in
    let first : Began (Done wrote w touches same answers) same answers s.value.now s = record { done = subst (λ W. Done wrote w touches same answers s.value.now s.value.now W) (sym none) refl; agrees = λ l. subst (λ ps. Agrees same (answers s.value.now) ps) (sym nothing) tt } in
    let began = a.goes.began is s.value.now first in
    let told = a.told (answers s.value.now) (record { complete = is; early = early is; respects = alike s.value.now; agrees = began.agrees (early is) }) in
    so x told.0 told.2 (subst (λ W. Done wrote w touches same answers s.value.now t.value.now W) (told.1 ∙ ap (λ U. U ++ told.0) none) began.done)
writes_now alike (Err f) complete none nothing a so early = tt
