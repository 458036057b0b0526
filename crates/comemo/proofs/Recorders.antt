-- A recorder's invariant.
use Rattle.std.proofs.Common.{Option, ◌≡◌, ◌∙◌, ◌||◌, Bool, true, false, List, [], ◌∷◌, ◌++◌, IsTrue, Result, Ok, Err, IfOk, OnErr, IsErr, IsErrAnd, refl, sym, ap}
use Rattle.std.specs.Cmp.{IsEquivalence}
use Rattle.comemo_base.specs.Answers.{Respects, Agrees}
use Rattle.comemo_base.proofs.Paths.{turned, joined}
use Rattle.comemo_track.specs.Recording.{Recording, Took, Spoiled}
use Rattle.comemo_track.specs.Sending.{Asks, BreaksOff}
use Rattle.comemo_cache.specs.Meaning.{Meaning, Invocation}
use Rattle.comemo_cache.specs.Cache.{Entries}
use Rattle.comemo.specs.Called.{IsReply}
use Rattle.comemo_cache.specs.Held.{LeadsBy}
use Rattle.comemo_cache.proofs.Holding.{some_by}
use Rattle.comemo.specs.Finish.{BrokeOff}
use Rattle.comemo.specs.Function.{Recorded, IsRecorded, Fits, Tells}
use Rattle.comemo.specs.declared.pending.Fault.{Fault}
use Rattle.comemo.specs.declared.pending.Fault.TheVariants as fault
use Rattle.comemo.specs.declared.pending.Reply.{Reply}
use Rattle.comemo_track.specs.Writing.{touched}
use Rattle.comemo_track.specs.WritingLaws.{neither}
use Rattle.comemo_track.proofs.Telling.{told_pairs}
use Rattle.comemo_track.proofs.Touching.{untouched_by_none}

module _ {C R : Type 0} {eq touches : C → C → Bool} {s t : Recording C R} {P : List (C × R)} {W : List C} (took : Took eq touches s t P W) where
  pub was_complete : t.complete ≡ true → s.complete ≡ true
  was_complete w = sym took.complete ∙ w

  -- what isn't late then wasn't before, and took no read that a write touches
  pub in_time : t.late ≡ false → (s.late ≡ false) × (touched touches s.writes P ≡ false)
  in_time l = neither s.late (touched touches s.writes P) (sym took.late ∙ l)

  -- if there were no writes, no read is late
  pub stays_early : s.writes ≡ [] → s.late ≡ false → t.late ≡ false
  stays_early none early = took.late ∙ ap (λ b. b || touched touches s.writes P) early ∙ ap (λ V. touched touches V P) none ∙ untouched_by_none touches P

module _ {C R : Type 0} {eq touches : C → C → Bool} {same : R → R → Bool} (calls : IsEquivalence eq) (answers : IsEquivalence same) (m : C → R) (respects : Respects eq same m) {s t : Recording C R} (P : List (C × R)) (W : List C) (took : Took eq touches s t P W) (before : Agrees same m s.pairs) (a : Agrees same m P) where
  -- if answers agreed before and agree with what was taken, they agree
  pub agrees_from : Agrees same m t.pairs
  agrees_from = (told_pairs calls answers m respects s t P W before a took).agrees

  -- answers that fit a recording fitted it before
  pub fitted_from : (n : C → R) → Fits eq same t n → Fits eq same s n
  fitted_from n f = record {
    complete = was_complete took f.complete;
    early = (in_time took f.early).0;
    respects = f.respects;
    agrees = (told_pairs calls answers m respects s t P W before a took).before n f.respects f.agrees;
  }

  -- and agree with what was taken
  pub taken_from : (n : C → R) → Fits eq same t n → Agrees same n P
  taken_from n f = (told_pairs calls answers m respects s t P W before a took).told n f.respects f.agrees

module _ {C R : Type 0} {eq touches : C → C → Bool} {same : R → R → Bool} (calls : IsEquivalence eq) (answers : IsEquivalence same) (m : C → R) (respects : Respects eq same m) {s t : Recording C R} (P : List (C × R)) (W : List C) (took : Took eq touches s t P W) (a : Agrees same m P) (before : s.complete ≡ true → Agrees same m s.pairs) where
  -- if the present answers agreed before and agree with what was taken, they agree
  pub still_agrees : t.complete ≡ true → Agrees same m t.pairs
  still_agrees w = agrees_from calls answers m respects P W took (before (was_complete took w)) a

  -- answers that fit a recording fitted it before
  pub fitted : (n : C → R) → Fits eq same t n → Fits eq same s n
  fitted n f = fitted_from calls answers m respects P W took (before (was_complete took f.complete)) a n f

  -- and agree with what was taken
  pub fits_taken : (n : C → R) → Fits eq same t n → Agrees same n P
  fits_taken n f = taken_from calls answers m respects P W took (before (was_complete took f.complete)) a n f

module _ {V C R : Type 0} {eq : C → C → Bool} {same : R → R → Bool} {s t : Recorded V C R} (value : t.value ≡ s.value) where
  -- a failure to allocate, which isn't `Incomplete`
  pub tells_memory : {X : Type 0} {P : X → (C → R) → Type 0} (r : Result X Fault) → IsErrAnd r (λ f. f ≡ fault.Memory) → Tells (Fits eq same) s t r P
  tells_memory (Ok x) h = absurd h
  tells_memory (Err f) h = record { same_value = value; before = tt; told = tt; complete = tt; fault = λ e. let no : fault.Memory ≡ fault.Incomplete = sym h ∙ e in cc }

  -- a fault after which the recording is incomplete
  pub tells_broken : {X : Type 0} {P : X → (C → R) → Type 0} (r : Result X Fault) → IsErr r → t.recording.complete ≡ false → Tells (Fits eq same) s t r P
  tells_broken (Ok x) h w = let no : false ≡ true = h in cc
  tells_broken (Err f) h w = record { same_value = value; before = tt; told = tt; complete = tt; fault = λ e. w }

  module _ (calls : IsEquivalence eq) (answers : IsEquivalence same) (m : C → R) (respects : Respects eq same m) (before : s.recording.complete ≡ true → Agrees same m s.recording.pairs) where
    -- answers that fit a recording fitted it before a read, and answer the read as it was answered
    pub tells_answer : {touches : C → C → Bool} (call : C) (answer : R) → Asks same m call answer (Took eq touches s.recording t.recording) → Tells (Fits eq same) s t (Ok answer) (λ answer n. IsTrue (same (n call) answer))
    tells_answer call answer k = record {
      same_value = value;
      before = fitted calls answers m respects ((call, k.noted) ∷ []) [] k.sent (k.alike, tt) before;
      told = λ n f. joined answers (n call) k.noted answer (fits_taken calls answers m respects ((call, k.noted) ∷ []) [] k.sent (k.alike, tt) before n f).0 (joined answers k.noted (m call) answer (turned answers (m call) k.noted k.alike) k.gives);
      complete = k.sent.complete;
      fault = tt;
    }

no_more_writes : {C R : Type 0} {eq touches : C → C → Bool} {s t : Recording C R} (P : List (C × R)) (W : List C) → Took eq touches s t P W → W ≡ [] → s.writes ≡ [] → t.writes ≡ []
no_more_writes P W took none before = took.writes ∙ ap (λ V. V ++ W) before ∙ none

-- after a read, and after a refused one, a recorder keeps its invariant
pub asked_keeps : {C R : Type 0} {eq : C → C → Bool} (touches : C → C → Bool) {same : R → R → Bool} → IsEquivalence eq → IsEquivalence same → (m : C → R) → Respects eq same m → (s t : Recording C R) → IsRecorded same m s → {E : Type 0} (call : C) (r : Result R E) → IfOk r (λ answer. Asks same m call answer (Took eq touches s t)) → OnErr r (Took eq touches s t [] []) → IsRecorded same m t
asked_keeps touches calls answers m respects s t before call (Ok answer) k e = record { agrees = still_agrees calls answers m respects ((call, k.noted) ∷ []) [] k.sent (k.alike, tt) before.agrees; no_writes = no_more_writes ((call, k.noted) ∷ []) [] k.sent refl before.no_writes; early = stays_early k.sent before.no_writes before.early }
asked_keeps touches calls answers m respects s t before call (Err x) k e = record { agrees = still_agrees calls answers m respects [] [] e tt before.agrees; no_writes = no_more_writes [] [] e refl before.no_writes; early = stays_early e before.no_writes before.early }

-- what broke off is incomplete, and has the same writes as before
pub not_complete : {C R : Type 0} {eq touches : C → C → Bool} {same : R → R → Bool} {m : C → R} {s t : Recording C R} → BrokeOff same m (BreaksOff (Took eq touches) Spoiled s t) → t.complete ≡ false
not_complete is = is.is_broken.spoiled.complete

pub broken_keeps : {C R : Type 0} {eq touches : C → C → Bool} {same like : R → R → Bool} {m n : C → R} (s t : Recording C R) → IsRecorded like n s → BrokeOff same m (BreaksOff (Took eq touches) Spoiled s t) → IsRecorded like n t
broken_keeps s t before is =
    let b = is.is_broken in
    record { agrees = λ w. let f = sym w ∙ b.spoiled.complete in absurd cc; no_writes = b.spoiled.writes ∙ no_more_writes b.prefix [] b.taken refl before.no_writes; early = b.spoiled.late ∙ stays_early b.taken before.no_writes before.early }

-- so it is, whatever broke off
pub broke_keeps : {C R : Type 0} {eq touches : C → C → Bool} {like : R → R → Bool} {n : C → R} (s t : Recording C R) {pairs : List (C × R)} → IsRecorded like n s → BreaksOff (Took eq touches) Spoiled s t pairs → IsRecorded like n t
broke_keeps s t before b = record { agrees = λ w. let f = sym w ∙ b.spoiled.complete in absurd cc; no_writes = b.spoiled.writes ∙ no_more_writes b.prefix [] b.taken refl before.no_writes; early = b.spoiled.late ∙ stays_early b.taken before.no_writes before.early }

module _ {K C R O : Type 0} (M : Meaning K C R O) (calls : IsEquivalence M.same_call) (answers : IsEquivalence M.same_answer) (es mid es' : Entries K C R O) (call : Invocation K C R) (respects : Respects M.same_call M.same_answer call.answers) where
  -- the same of a call of another function
  pub tells_output : {V : Type 0} {touches : C → C → Bool} {s t : Recorded V C R} → t.value ≡ s.value → (s.recording.complete ≡ true → Agrees M.same_answer call.answers s.recording.pairs) → {P : O → (C → R) → Type 0} (reply : Reply O) (k : IsReply M call es mid (Took M.same_call touches s.recording t.recording) reply es') → ((n : C → R) → M.right call.key n reply.output k.writes → P reply.output n) → Tells (Fits M.same_call M.same_answer) s t (Ok reply.output) P
  tells_output value before reply k p =
      let agrees = (k.gives.agreeing call.answers respects).1 k.agrees in
      record {
        same_value = value;
        before = fitted calls answers call.answers respects k.gives.given k.writes k.gives.are_sent agrees before;
        told = λ n f. p n (k.stands n f.respects ((k.gives.agreeing n f.respects).0 (fits_taken calls answers call.answers respects k.gives.given k.writes k.gives.are_sent agrees before n f)));
        complete = k.gives.are_sent.complete;
        fault = tt;
      }

  pub called_keeps : (touches : C → C → Bool) (s t : Recording C R) → IsRecorded M.same_answer call.answers s → ((output : O) (writes : List C) → M.right call.key call.answers output writes → writes ≡ []) → {E : Type 0} (X : Type 0) (r : Result (Reply O) E) → IfOk r (λ reply. IsReply M call es mid (Took M.same_call touches s t) reply es') → OnErr r (X × BrokeOff M.same_answer call.answers (BreaksOff (Took M.same_call touches) Spoiled s t)) → IsRecorded M.same_answer call.answers t
  called_keeps touches s t before reads X (Ok reply) k e = record {
    agrees = still_agrees calls answers call.answers respects k.gives.given k.writes k.gives.are_sent ((k.gives.agreeing call.answers respects).1 k.agrees) before.agrees;
    no_writes = no_more_writes k.gives.given k.writes k.gives.are_sent (reads reply.output k.writes (k.stands call.answers respects k.agrees)) before.no_writes;
    early = stays_early k.gives.are_sent before.no_writes before.early;
  }
  called_keeps touches s t before reads X (Err x) k e = broken_keeps s t before e.1

-- so it is after a call by any holder
pub held_keeps : {K C R O : Type 0} (M : Meaning K C R O) (touches : C → C → Bool) → IsEquivalence M.same_call → IsEquivalence M.same_answer → (o mid o' : Option (Entries K C R O)) (call : Invocation K C R) → Respects M.same_call M.same_answer call.answers → (s t : Recording C R) → IsRecorded M.same_answer call.answers s → ((output : O) (writes : List C) → M.right call.key call.answers output writes → writes ≡ []) → {E : Type 0} (X : Type 0) (r : Result (Reply O) E) → IfOk r (λ reply. LeadsBy o mid o' (λ es mid es'. IsReply M call es mid (Took M.same_call touches s t) reply es')) → OnErr r (X × BrokeOff M.same_answer call.answers (BreaksOff (Took M.same_call touches) Spoiled s t)) → IsRecorded M.same_answer call.answers t
held_keeps M touches calls answers o mid o' call respects s t before reads {E = E} X (Ok reply) k e =
    let is = some_by o mid o' _ k in
    called_keeps M calls answers is.0 is.1 is.2 call respects touches s t before reads {E = E} X (Ok reply) is.3 e
held_keeps M touches calls answers o mid o' call respects s t before reads X (Err x) k e = called_keeps M calls answers [] [] [] call respects touches s t before reads X (Err x) tt e
