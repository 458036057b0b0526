-- The invariant of a recorder that writes.
use Rattle.std.specs.Prelude.{⊤}
use Rattle.std.proofs.Common.{◌≡◌, ◌∙◌, cond, Bool, true, false, List, [], ◌∷◌, ◌++◌, IsTrue, Result, Ok, Err, OnErr, IsErr, IsErrAnd, refl, sym, ap, subst, append-nil, inl, inr}
use Rattle.std.proofs.lemmas.Bool.{cases_Bool}
use Rattle.std.proofs.lemmas.List.Elements.{All-head, All-tail}
use Rattle.std.specs.List.{All}
use Rattle.std.specs.Cmp.{IsEquivalence}
use Rattle.comemo_base.specs.Answers.{Respects, Agrees}
use Rattle.comemo_base.specs.Sequence.{held, absorbed}
use Rattle.comemo_base.proofs.Paths.{turned, joined, Agrees-same, IsSamePath-turned}
use Rattle.comemo_track.specs.Multi.{OnParts}
use Rattle.comemo_track.specs.declared.multi.MultiAnswer.{MultiAnswer}
use Rattle.comemo_track.specs.declared.multi.MultiCall.{MultiCall}
use Rattle.comemo_track.specs.Recording.{Recording, Took, Spoiled, MarkedLate, TouchesHeld}
use Rattle.comemo_track.specs.RecordingLaws.{held-absorbed}
use Rattle.comemo_track.specs.Sending.{Asks, BreaksOff, SpoiledAfter, TookAs}
use Rattle.comemo_track.specs.Writing.{Done, touched, touched_by}
use Rattle.comemo_track.specs.WritingLaws.{done_both, done_keeps, neither}
use Rattle.comemo.specs.Function.{Fits}
use Rattle.comemo_cache.specs.Meaning.{Meaning, Invocation, invocation}
use Rattle.comemo_cache.specs.Cache.{Entries}
use Rattle.comemo.specs.Called.{IsReply, IsReplyMut}
use Rattle.comemo.specs.declared.pending.Reply.{Reply}
use Rattle.comemo.specs.Begin.{Reaches, IsBrokenOff}
use Rattle.comemo.specs.Finish.{BreaksOffRun}
use Rattle.comemo.specs.FunctionMut.{Lent, Began, HasBegun, NoneTouches, Goes, TellsMut, TellsWrites, BrokeOffMut, IsFailed}
use Rattle.comemo.specs.declared.pending.Fault.{Fault}
use Rattle.comemo.specs.declared.pending.Fault.TheVariants as fault
use Rattle.comemo.proofs.Lateness.{held_now, took_late, marked_late, touches_alike}
use Rattle.comemo.proofs.Recorders.{was_complete, in_time, agrees_from, fitted_from, taken_from}

-- for authors of functions of two values that write: output and writes, both right by the parts' answers
pub right_on_parts : {X Y P Q : Type 0} {right written : (X → P) → (Y → Q) → Type 0} (m : MultiCall X Y → MultiAnswer P Q) → OnParts m (λ a b. right a b × written a b) → OnParts m written × OnParts m right
right_on_parts m both = (λ a b p q. (both a b p q).1, λ a b p q. (both a b p q).0)

-- the calls of pairs are reads
abbrev pub AreReads : {C R : Type 0} → (C → Bool) → List (C × R) → Type 0
AreReads w [] = ⊤
AreReads w (p ∷ ps) = (w p.0 ≡ false) × AreReads w ps

module _ {C R : Type 0} {eq : C → C → Bool} (calls : IsEquivalence eq) (w : C → Bool) (kind : (x y : C) → IsTrue (eq x y) → w x ≡ w y) where
  -- a call that is held among reads is a read
  held_is_read : (ps : List (C × R)) → All (λ p. w p.0 ≡ false) ps → (call : C) → held eq ps call ≡ true → w call ≡ false
  held_is_read [] all call h = let no : false ≡ true = h in cc
  held_is_read (p ∷ ps) all call h =
      elim (cases_Bool (eq call p.0)) [
        | inl e ↦ kind call p.0 e ∙ All-head (λ (q : C × R). w q.0 ≡ false) p ps all
        | inr e ↦ held_is_read ps (All-tail (λ (q : C × R). w q.0 ≡ false) p ps all) call (rw e at h)
      ]

  -- what reads took are reads
  absorbed_reads : (ps qs : List (C × R)) → All (λ p. w p.0 ≡ false) (absorbed eq ps qs) → AreReads w qs
  absorbed_reads ps [] all = tt
  absorbed_reads ps (q ∷ qs) all = (held_is_read (absorbed eq (cond (held eq ps q.0) ps (ps ++ q ∷ [])) qs) all q.0 (held-absorbed eq (cond (held eq ps q.0) ps (ps ++ q ∷ [])) qs q.0 (held_now calls ps q)), absorbed_reads (cond (held eq ps q.0) ps (ps ++ q ∷ [])) qs all)

  pub took_reads : {touches : C → C → Bool} {s t : Recording C R} (P : List (C × R)) (W : List C) → Took eq touches s t P W → All (λ p. w p.0 ≡ false) t.pairs → AreReads w P
  took_reads {s = s} P W took all = absorbed_reads s.pairs P (subst (λ ps. All (λ p. w p.0 ≡ false) ps) took.pairs all)

-- what was done led to whatever is the same
pub done_at : {S C : Type 0} (did : S → S → List C → Type 0) (i j k : S) (W : List C) → k ≡ j → did i j W → did i k W
done_at did i j k W e d = subst (λ v. did i v W) (sym e) d

-- what was made incomplete is not complete
pub spoiled_any : (b : Bool) {X : Type 0} → b ≡ false → b ≡ true → X
spoiled_any b broken complete = let e : true ≡ false = sym complete ∙ broken in cc

module _ {V C R : Type 0} (wrote : V → C → V → Type 0) (w : C → Bool) (touches : C → C → Bool) (same : R → R → Bool) (answers : V → C → R) {eq : C → C → Bool} (calls : IsEquivalence eq) (laws : IsEquivalence same) (alike : (v : V) → Respects eq same (answers v)) where
  -- answers that agree with reads which no write touched agreed with them before the writes
  pub untouched_agrees : (i j : V) (W : List C) → Done wrote w touches same answers i j W → (P : List (C × R)) → AreReads w P → touched touches W P ≡ false → Agrees same (answers j) P → Agrees same (answers i) P
  untouched_agrees i j W d [] reads un a = tt
  untouched_agrees i j W d (p ∷ P) reads un a =
      let both = neither (touched_by touches W p.0) (touched touches W P) un in
      (joined laws (answers i p.0) (answers j p.0) p.1 (done_keeps wrote w touches same answers laws i j W d p.0 reads.0 both.0) a.0, untouched_agrees i j W d P reads.1 both.1 a.1)

  module _ (s t : Lent V C R) (P : List (C × R)) (W : List C) (took : Took eq touches s.recording.now t.recording.now P W) (reads : AreReads w P) (a : Agrees same (answers s.value.now) P) where
    -- what was taken agrees with the answers of whatever value the recording began at
    pub taken_agrees : (start : V) → Began (Done wrote w touches same answers) same answers start s → t.recording.now.late ≡ false → Agrees same (answers start) P
    taken_agrees start b l = untouched_agrees start s.value.now s.recording.now.writes b.done P reads (in_time took l).1 a

    -- a recording that began at a value began there after it took more, if the writes among that were done
    pub began_on : Done wrote w touches same answers s.value.now t.value.now W → (start : V) → Began (Done wrote w touches same answers) same answers start s → Began (Done wrote w touches same answers) same answers start t
    began_on did start b = record {
      done = subst (λ ws. Done wrote w touches same answers start t.value.now ws) (sym took.writes) (done_both wrote w touches same answers start s.value.now t.value.now s.recording.now.writes W b.done did);
      agrees = λ l. agrees_from calls laws (answers start) (alike start) P W took (b.agrees (in_time took l).0) (taken_agrees start b l);
    }

    pub has_begun_on : Done wrote w touches same answers s.value.now t.value.now W → HasBegun (Done wrote w touches same answers) same answers s → HasBegun (Done wrote w touches same answers) same answers t
    has_begun_on did has = λ complete. let b = has (was_complete took complete) in (b.0, began_on did b.0 b.1)

    module _ (has : HasBegun (Done wrote w touches same answers) same answers s) where
      -- answers that fit the recording fitted it before, and agree with what was taken
      pub fitted_mut : (n : C → R) → Fits eq same t.recording.now n → Fits eq same s.recording.now n
      fitted_mut n f =
          let b = has (was_complete took f.complete) in
          fitted_from calls laws (answers b.0) (alike b.0) P W took (b.1.agrees (in_time took f.early).0) (taken_agrees b.0 b.1 f.early) n f

      pub taken_mut : (n : C → R) → Fits eq same t.recording.now n → Agrees same n P
      taken_mut n f =
          let b = has (was_complete took f.complete) in
          taken_from calls laws (answers b.0) (alike b.0) P W took (b.1.agrees (in_time took f.early).0) (taken_agrees b.0 b.1 f.early) n f

    -- so it goes
    pub goes_on : t.value.ghost_name ≡ s.value.ghost_name → t.recording.ghost_name ≡ s.recording.ghost_name → Done wrote w touches same answers s.value.now t.value.now W → Goes (Done wrote w touches same answers) eq touches same answers s t
    goes_on place same_recording did = record {
      same_value = place;
      same_recording = same_recording;
      was_complete = was_complete took;
      began = λ complete start b. began_on did start b;
      late = λ complete before. took_late calls touches P W took before;
      reached = λ start r. (r.0 ++ W, done_both wrote w touches same answers start s.value.now t.value.now r.0 W r.1 did);
    }

  -- a sink that was marked late, after it took reads and writes
  module _ (s t : Lent V C R) (P : List (C × R)) (W : List C) (took : TookAs (Took eq touches) MarkedLate true s.recording.now t.recording.now P W) (did : Done wrote w touches same answers s.value.now t.value.now W) where
    late_writes : t.recording.now.writes ≡ s.recording.now.writes ++ W
    late_writes = took.2.writes ∙ took.1.writes

    pub late_any : {X : Type 0} → t.recording.now.late ≡ false → X
    late_any l = let no : true ≡ false = sym took.2.late ∙ l in cc

    late_complete : t.recording.now.complete ≡ s.recording.now.complete
    late_complete = took.2.complete ∙ took.1.complete

    began_late : (start : V) → Began (Done wrote w touches same answers) same answers start s → Began (Done wrote w touches same answers) same answers start t
    began_late start b = record {
      done = subst (λ ws. Done wrote w touches same answers start t.value.now ws) (sym late_writes) (done_both wrote w touches same answers start s.value.now t.value.now s.recording.now.writes W b.done did);
      agrees = λ l. late_any l;
    }

    pub has_begun_late : HasBegun (Done wrote w touches same answers) same answers s → HasBegun (Done wrote w touches same answers) same answers t
    has_begun_late has = λ complete. let b = has (sym late_complete ∙ complete) in (b.0, began_late b.0 b.1)

    pub tells_late : TouchesHeld eq touches W P → t.value.ghost_name ≡ s.value.ghost_name → t.recording.ghost_name ≡ s.recording.ghost_name → {X : Type 0} (x : X) {Q : X → (C → R) → List C → Type 0} → TellsWrites (Goes (Done wrote w touches same answers) eq touches same answers) (Fits eq same) s t (Ok x) Q
    tells_late touching place same_recording x = record {
      goes = record {
        same_value = place;
        same_recording = same_recording;
        was_complete = λ complete. sym late_complete ∙ complete;
        began = λ complete start b. began_late start b;
        late = λ complete before. marked_late calls touches P W took touching;
        reached = λ start r. (r.0 ++ W, done_both wrote w touches same answers start s.value.now t.value.now r.0 W r.1 did);
      };
      before = λ m f. late_any f.early;
      told = λ m f. late_any f.early;
      complete = late_complete;
      fault = tt;
    }

  module _ {s t : Lent V C R} (place : t.value.ghost_name ≡ s.value.ghost_name) (same_recording : t.recording.ghost_name ≡ s.recording.ghost_name) (has : HasBegun (Done wrote w touches same answers) same answers s) where
    -- a read that was answered
    module _ (value : t.value.now ≡ s.value.now) (call : C) (read : w call ≡ false) (answer : R) (k : Asks same (answers s.value.now) call answer (Took eq touches s.recording.now t.recording.now)) where
      pub asked_begun : HasBegun (Done wrote w touches same answers) same answers t
      asked_begun = has_begun_on s t ((call, k.noted) ∷ []) [] k.sent (read, tt) (k.alike, tt) value has

      pub tells_answer_mut : TellsMut (Goes (Done wrote w touches same answers) eq touches same answers) (Fits eq same) s t (Ok answer) (λ answer n. IsTrue (same (n call) answer))
      tells_answer_mut = record {
        goes = goes_on s t ((call, k.noted) ∷ []) [] k.sent (read, tt) (k.alike, tt) place same_recording value;
        before = fitted_mut s t ((call, k.noted) ∷ []) [] k.sent (read, tt) (k.alike, tt) has;
        told = λ n f. joined laws (n call) k.noted answer (taken_mut s t ((call, k.noted) ∷ []) [] k.sent (read, tt) (k.alike, tt) has n f).0 (joined laws k.noted (answers s.value.now call) answer (turned laws (answers s.value.now call) k.noted k.alike) k.gives);
        complete = k.sent.complete;
        fault = tt;
      }

    -- a read that was refused
    pub refused_begun : t.value.now ≡ s.value.now → Took eq touches s.recording.now t.recording.now [] [] → HasBegun (Done wrote w touches same answers) same answers t
    refused_begun value took = has_begun_on s t [] [] took tt tt value has

    -- a write that was done
    module _ (W : List C) (took : Took eq touches s.recording.now t.recording.now [] W) (did : Done wrote w touches same answers s.value.now t.value.now W) where
      pub written_begun : HasBegun (Done wrote w touches same answers) same answers t
      written_begun = has_begun_on s t [] W took tt tt did has

      pub tells_write : {X : Type 0} (x : X) → TellsMut (Goes (Done wrote w touches same answers) eq touches same answers) (Fits eq same) s t (Ok x) (λ _ _. ⊤)
      tells_write x = record {
        goes = goes_on s t [] W took tt tt place same_recording did;
        before = fitted_mut s t [] W took tt tt has;
        told = λ n f. tt;
        complete = took.complete;
        fault = tt;
      }

    -- nothing was done, since it was refused
    pub tells_refused : t.value.now ≡ s.value.now → Took eq touches s.recording.now t.recording.now [] [] → {X : Type 0} {P : X → (C → R) → Type 0} (r : Result X Fault) → IsErrAnd r (λ f. f ≡ fault.Memory) → TellsMut (Goes (Done wrote w touches same answers) eq touches same answers) (Fits eq same) s t r P
    tells_refused value took (Ok x) h = absurd h
    tells_refused value took (Err f) h = record {
      goes = goes_on s t [] [] took tt tt place same_recording value;
      before = tt;
      told = tt;
      complete = tt;
      fault = λ e. let no : fault.Memory ≡ fault.Incomplete = sym h ∙ e in cc;
    }

-- an empty recording began at the present value
pub fresh_began : {V C R : Type 0} (wrote : V → C → V → Type 0) (w : C → Bool) (touches : C → C → Bool) (same : R → R → Bool) (answers : V → C → R) (s : Lent V C R) → s.recording.now.pairs ≡ [] → s.recording.now.writes ≡ [] → Began (Done wrote w touches same answers) same answers s.value.now s
fresh_began wrote w touches same answers s pairs writes = record {
  done = subst (λ W. Done wrote w touches same answers s.value.now s.value.now W) (sym writes) refl;
  agrees = λ l. subst (λ ps. Agrees same (answers s.value.now) ps) (sym pairs) tt;
}

-- what a run did that began with an empty recording: the recording that it left began at the value that it got
module _ {V C R : Type 0} (wrote : V → C → V → Type 0) (w : C → Bool) {eq : C → C → Bool} (touches : C → C → Bool) (same : R → R → Bool) (answers : V → C → R) {s t : Lent V C R} (goes : Goes (Done wrote w touches same answers) eq touches same answers s t) (pairs : s.recording.now.pairs ≡ []) (writes : s.recording.now.writes ≡ []) where
  ran_began : t.recording.now.complete ≡ true → Began (Done wrote w touches same answers) same answers s.value.now t
  ran_began complete = goes.began complete s.value.now (fresh_began wrote w touches same answers s pairs writes)

  pub ran_agrees : (ps : List (C × R)) (complete late : Bool) → ps ≡ t.recording.now.pairs → complete ≡ t.recording.now.complete → late ≡ t.recording.now.late → complete ≡ true → late ≡ false → Agrees same (answers s.value.now) ps
  ran_agrees ps complete late e a b is early = subst (λ x. Agrees same (answers s.value.now) x) (sym e) ((ran_began (sym a ∙ is)).agrees (sym b ∙ early))

  pub ran_did : (ws : List C) (complete : Bool) (j : V) → ws ≡ t.recording.now.writes → complete ≡ t.recording.now.complete → j ≡ t.value.now → complete ≡ true → Done wrote w touches same answers s.value.now j ws
  ran_did ws complete j e a v is = subst (λ x. Done wrote w touches same answers s.value.now j x) (sym e) (subst (λ k. Done wrote w touches same answers s.value.now k t.recording.now.writes) (sym v) (ran_began (sym a ∙ is)).done)

  pub ran_late : s.recording.now.late ≡ false → (ps : List (C × R)) (ws : List C) (complete late : Bool) → ps ≡ t.recording.now.pairs → ws ≡ t.recording.now.writes → complete ≡ t.recording.now.complete → late ≡ t.recording.now.late → complete ≡ true → late ≡ true → TouchesHeld eq touches ws ps
  ran_late l ps ws complete late e f a b w is =
      let k = (goes.late (sym a ∙ w) (record { touching = λ was. let no : false ≡ true = sym l ∙ was in cc })).touching (sym b ∙ is) in
      subst (λ x. TouchesHeld eq touches x ps) (sym f) (subst (λ x. TouchesHeld eq touches t.recording.now.writes x) (sym e) k)

module _ {V C R : Type 0} {did : V → V → List C → Type 0} {eq touches : C → C → Bool} {same : R → R → Bool} {answers : V → C → R} where
  -- first to a recorder, and then on to another
  pub goes_both : {s t u : Lent V C R} → Goes did eq touches same answers s t → Goes did eq touches same answers t u → Goes did eq touches same answers s u
  goes_both a b = record {
    same_value = b.same_value ∙ a.same_value;
    same_recording = b.same_recording ∙ a.same_recording;
    was_complete = λ w. a.was_complete (b.was_complete w);
    began = λ w start d. b.began w start (a.began (b.was_complete w) start d);
    late = λ w before. b.late w (a.late (b.was_complete w) before);
    reached = λ start r. b.reached start (a.reached start r);
  }

module _ {V K C R O : Type 0} (M : Meaning K C R O) (wrote : V → C → V → Type 0) (w : C → Bool) (touches : C → C → Bool) (answers : V → C → R) (calls : IsEquivalence M.same_call) (laws : IsEquivalence M.same_answer) (kind : (x y : C) → IsTrue (M.same_call x y) → w x ≡ w y) (alike : (v : V) → Respects M.same_call M.same_answer (answers v)) (s t : Lent V C R) (place : t.value.ghost_name ≡ s.value.ghost_name) (same_recording : t.recording.ghost_name ≡ s.recording.ghost_name) (has : HasBegun (Done wrote w touches M.same_answer answers) M.same_answer answers s) (all : All (λ p. w p.0 ≡ false) t.recording.now.pairs) where
  module _ {es mid es' : Entries K C R O} {key : K} (reply : Reply O) where
    -- after a call of a function that writes, which isn't late
    module _ (k : IsReply M (invocation key (answers s.value.now) true) es mid (λ P W. Took M.same_call touches s.recording.now t.recording.now P W × Done wrote w touches M.same_answer answers s.value.now t.value.now W) reply es') where
      called_agrees : Agrees M.same_answer (answers s.value.now) k.gives.given
      called_agrees = (k.gives.agreeing (answers s.value.now) (alike s.value.now)).1 k.agrees

      called_reads : AreReads w k.gives.given
      called_reads = took_reads calls w kind k.gives.given k.writes k.gives.are_sent.0 all

      pub called_begun : HasBegun (Done wrote w touches M.same_answer answers) M.same_answer answers t
      called_begun = has_begun_on wrote w touches M.same_answer answers calls laws alike s t k.gives.given k.writes k.gives.are_sent.0 called_reads called_agrees k.gives.are_sent.1 has

      pub tells_called : TellsWrites (Goes (Done wrote w touches M.same_answer answers) M.same_call touches M.same_answer answers) (Fits M.same_call M.same_answer) s t (Ok reply.output) (λ output n writes. M.right key n output writes)
      tells_called = record {
        goes = goes_on wrote w touches M.same_answer answers calls laws alike s t k.gives.given k.writes k.gives.are_sent.0 called_reads called_agrees place same_recording k.gives.are_sent.1;
        before = fitted_mut wrote w touches M.same_answer answers calls laws alike s t k.gives.given k.writes k.gives.are_sent.0 called_reads called_agrees has;
        told = λ n f. (k.writes, k.gives.are_sent.0.writes, k.stands n f.respects ((k.gives.agreeing n f.respects).0 (taken_mut wrote w touches M.same_answer answers calls laws alike s t k.gives.given k.writes k.gives.are_sent.0 called_reads called_agrees has n f)));
        complete = k.gives.are_sent.0.complete;
        fault = tt;
      }

    -- after any
    module _ (k : IsReplyMut M (invocation key (answers s.value.now) true) touches es mid (λ late P W. TookAs (Took M.same_call touches) MarkedLate late s.recording.now t.recording.now P W × Done wrote w touches M.same_answer answers s.value.now t.value.now W) reply es') where
      pub any_begun : HasBegun (Done wrote w touches M.same_answer answers) M.same_answer answers t
      any_begun = elim k [
        | inl a ↦ called_begun a
        | inr b ↦ has_begun_late wrote w touches M.same_answer answers calls laws alike s t b.gives.given b.writes b.gives.are_sent.0 b.gives.are_sent.1 has
      ]

      pub tells_any : TellsWrites (Goes (Done wrote w touches M.same_answer answers) M.same_call touches M.same_answer answers) (Fits M.same_call M.same_answer) s t (Ok reply.output) (λ output n writes. M.right key n output writes)
      tells_any = elim k [
        | inl a ↦ tells_called a
        | inr b ↦ tells_late wrote w touches M.same_answer answers calls laws alike s t b.gives.given b.writes b.gives.are_sent.0 b.gives.are_sent.1 (touches_alike calls touches M.same_answer b.gives.given b.pairs b.writes b.gives.alike b.touching) place same_recording reply.output
      ]

    -- after a call of a function that reads
    module _ (value : t.value.now ≡ s.value.now) (k : IsReply M (invocation key (answers s.value.now) true) es mid (Took M.same_call touches s.recording.now t.recording.now) reply es') (none : k.writes ≡ []) where
      read_agreed : Agrees M.same_answer (answers s.value.now) k.gives.given
      read_agreed = (k.gives.agreeing (answers s.value.now) (alike s.value.now)).1 k.agrees

      read_reads : AreReads w k.gives.given
      read_reads = took_reads calls w kind k.gives.given k.writes k.gives.are_sent all

      nothing : Done wrote w touches M.same_answer answers s.value.now t.value.now k.writes
      nothing = subst (λ W. Done wrote w touches M.same_answer answers s.value.now t.value.now W) (sym none) value

      pub read_begun : HasBegun (Done wrote w touches M.same_answer answers) M.same_answer answers t
      read_begun = has_begun_on wrote w touches M.same_answer answers calls laws alike s t k.gives.given k.writes k.gives.are_sent read_reads read_agreed nothing has

      pub tells_read : {P : O → (C → R) → Type 0} → ((n : C → R) → M.right key n reply.output k.writes → P reply.output n) → TellsMut (Goes (Done wrote w touches M.same_answer answers) M.same_call touches M.same_answer answers) (Fits M.same_call M.same_answer) s t (Ok reply.output) (λ output n. P output n)
      tells_read so = record {
        goes = goes_on wrote w touches M.same_answer answers calls laws alike s t k.gives.given k.writes k.gives.are_sent read_reads read_agreed place same_recording nothing;
        before = fitted_mut wrote w touches M.same_answer answers calls laws alike s t k.gives.given k.writes k.gives.are_sent read_reads read_agreed has;
        told = λ n f. so n (k.stands n f.respects ((k.gives.agreeing n f.respects).0 (taken_mut wrote w touches M.same_answer answers calls laws alike s t k.gives.given k.writes k.gives.are_sent read_reads read_agreed has n f)));
        complete = k.gives.are_sent.complete;
        fault = tt;
      }

-- after a fault of a call the recording is incomplete
pub failed_spoils : {K C R O : Type 0} {touches : C → C → Bool} {M : Meaning K C R O} {es es' : Entries K C R O} {call : Invocation K C R} {done : List C → Type 0} {s t : Recording C R} → IsFailed M touches es call done (BreaksOff (Took M.same_call touches) Spoiled s t) (SpoiledAfter (Took M.same_call touches) Spoiled s t) es' → t.complete ≡ false
failed_spoils (inl a) = a.1.is_broken.spoiled.complete
failed_spoils (inr b) = b.1.is_spoiled.spoiled.complete

-- after a call of a function that reads the writes are unchanged
pub read_writes : {K C R O : Type 0} {touches : C → C → Bool} {M : Meaning K C R O} {es mid es' : Entries K C R O} {call : Invocation K C R} (s t : Recording C R) (reply : Reply O) (k : IsReply M call es mid (Took M.same_call touches s t) reply es') → k.writes ≡ [] → t.writes ≡ s.writes
read_writes s t reply k none = k.gives.are_sent.writes ∙ (ap (λ W. s.writes ++ W) none ∙ append-nil s.writes)

module _ {V C R : Type 0} (wrote : V → C → V → Type 0) (w : C → Bool) {eq : C → C → Bool} (touches : C → C → Bool) (same : R → R → Bool) (answers : V → C → R) {s t : Lent V C R} (same_value : t.value.ghost_name ≡ s.value.ghost_name) (same_recording : t.recording.ghost_name ≡ s.recording.ghost_name) (reached : Reaches (Done wrote w touches same answers) s.value.now t.value.now) (broken : t.recording.now.complete ≡ false) where
  goes_failed : Goes (Done wrote w touches same answers) eq touches same answers s t
  goes_failed = record {
    same_value = same_value;
    same_recording = same_recording;
    was_complete = λ w. spoiled_any _ broken w;
    began = λ w. spoiled_any _ broken w;
    late = λ w. spoiled_any _ broken w;
    reached = λ start r. (r.0 ++ reached.0, done_both wrote w touches same answers start s.value.now t.value.now r.0 reached.0 r.1 reached.1);
  }

  -- after a fault that made the recording incomplete
  pub tells_failed : {fits : Recording C R → (C → R) → Type 0} {X : Type 0} {P : X → (C → R) → Type 0} (r : Result X Fault) → IsErr r → TellsMut (Goes (Done wrote w touches same answers) eq touches same answers) fits s t r P
  tells_failed (Ok x) h = let no : false ≡ true = h in cc
  tells_failed (Err f) h = record { goes = goes_failed; before = tt; told = tt; complete = tt; fault = λ e. broken }

  -- the same, for a call of a function that writes
  pub writes_failed : {fits : Recording C R → (C → R) → Type 0} {X : Type 0} {P : X → (C → R) → List C → Type 0} (r : Result X Fault) → IsErr r → TellsWrites (Goes (Done wrote w touches same answers) eq touches same answers) fits s t r P
  writes_failed (Ok x) h = let no : false ≡ true = h in cc
  writes_failed (Err f) h = record { goes = goes_failed; before = tt; told = tt; complete = tt; fault = λ e. broken }

-- a call of a function that writes and that did not begin broke off what was sent to its sink
pub broke_at_begin_mut : {K C R O : Type 0} {M : Meaning K C R O} {es : Entries K C R O} {call : Invocation K C R} {broken : List (C × R) → Type 0} (touches : C → C → Bool) → IsBrokenOff M es call broken → BrokeOffMut touches M.same_answer call.answers broken
broke_at_begin_mut touches is = record { pairs = is.pairs; agrees = λ _. is.agrees; is_broken = is.is_broken }

-- so did its run: if it is complete it agrees with the answers where no write touches a read, and if not, its sink is
-- incomplete and otherwise unchanged
pub broke_by_run_mut : {K C R O : Type 0} (M : Meaning K C R O) (touches : C → C → Bool) (m : C → R) → IsEquivalence M.same_call → IsEquivalence M.same_answer → Respects M.same_call M.same_answer m → (broken : List (C × R) → Type 0) (pairs : List (C × R)) (complete : Bool) → (complete ≡ true → NoneTouches touches → Agrees M.same_answer m pairs) → (complete ≡ false → broken []) → (X : Type 0) {T E : Type 0} (r : Result T E) → OnErr r (X × BreaksOffRun M broken pairs) → OnErr r (X × BrokeOffMut touches M.same_answer m broken)
broke_by_run_mut M touches m calls answers respects broken pairs complete agrees spoiled X (Ok x) e = tt
broke_by_run_mut M touches m calls answers respects broken pairs true agrees spoiled X (Err x) e = (e.0, record { pairs = e.1.given; agrees = λ none. Agrees-same calls answers m respects pairs e.1.given (IsSamePath-turned calls answers e.1.given pairs e.1.alike) (agrees refl none); is_broken = e.1.is_broken })
broke_by_run_mut M touches m calls answers respects broken pairs false agrees spoiled X (Err x) e = (e.0, record { pairs = []; agrees = λ _. tt; is_broken = spoiled refl })
