-- Questions and writes to a part of a value, as questions and writes to the whole.
use Rattle.std.proofs.Common.{◌⊎◌, ◌≡◌, ◌∙◌, Bool, true, false, List, [], ◌∷◌, ◌++◌, IsTrue, Ok, map, append-nil, refl, sym, ap, subst, inl, inr}
use Rattle.std.proofs.lemmas.List.{map-append}
use Rattle.std.specs.List.{All}
use Rattle.std.specs.Cmp.{IsEquivalence}
use Rattle.comemo_base.specs.Answers.{Respects, Agrees}
use Rattle.comemo_track.specs.Mapped.{mapped_pairs, Through, MapsTook, MapsSpoils, MapsLates}
use Rattle.comemo_track.specs.declared.mapped.MappedSink.{MappedSink}
use Rattle.comemo_track.specs.Recording.{Recording, Took, Spoiled, MarkedLate}
use Rattle.comemo_track.specs.Sending.{BreaksOff, SpoiledAfter, TookAs}
use Rattle.comemo_track.specs.Writing.{Writes, Done}
use Rattle.comemo_cache.specs.Meaning.{Meaning, Invocation, Naming, invocation}
use Rattle.comemo_cache.specs.Cache.{Entries}
use Rattle.comemo.specs.Called.{IsReply, IsLate, IsReplyMut}
use Rattle.comemo.specs.Function.{Fits, OnPart}
use Rattle.comemo.specs.FunctionMut.{Lent, HasBegun, Goes, TellsMut, TellsWrites, OnPartWrites, IsFailed, WasStopped, FailsBy}
use Rattle.comemo.specs.declared.pending.Reply.{Reply}
use Rattle.comemo.specs.declared.pending.Fault.{Fault}
use Rattle.comemo.proofs.Calls.{resent}
use Rattle.comemo.proofs.Lateness.{touches_alike, path_mapped, touches_mapped}
use Rattle.comemo.proofs.RecordersMut.{AreReads, took_reads, has_begun_on, goes_on, fitted_mut, taken_mut, has_begun_late, tells_late}
use Rattle.comemo.proofs.ThroughMaps.{part_respects, agrees_mapped, agrees_part}

-- what went to a sink that sends it on through a map went so to the sink behind it
module _ {S M C D R Q : Type 0} (maps : M → C → D) (answers : M → R → Q) (took : S → S → List (D × Q) → List D → Type 0) (lates : S → S → Type 0) where
  sent_as : (late : Bool) (s t : MappedSink S M) (P : List (C × R)) (W : List C) → TookAs (MapsTook took maps answers) (MapsLates lates) late s t P W → TookAs took lates late s.sink.now t.sink.now (mapped_pairs (maps s.map) (answers s.map) P) (map (maps s.map) W)
  sent_as false s t P W a = a.sent
  sent_as true s t P W a = (a.0.sink.now, a.1.sent, a.2.marked)

  -- and the loan of that sink stays
  same_loan : (late : Bool) (s t : MappedSink S M) (P : List (C × R)) (W : List C) → TookAs (MapsTook took maps answers) (MapsLates lates) late s t P W → t.sink.ghost_name ≡ s.sink.ghost_name
  same_loan false s t P W a = a.loan
  same_loan true s t P W a = a.2.loan ∙ a.1.loan

  pub reply_loan : {K O : Type 0} {N : Meaning K C R O} {call : Invocation K C R} {touches : C → C → Bool} {es mid es' : Entries K C R O} {X : List C → Type 0} {reply : Reply O} (s t : MappedSink S M) → IsReplyMut N call touches es mid (λ late P W. TookAs (MapsTook took maps answers) (MapsLates lates) late s t P W × X W) reply es' → t.sink.ghost_name ≡ s.sink.ghost_name
  reply_loan s t (inl k) = same_loan false s t k.gives.given k.writes k.gives.are_sent.0
  reply_loan s t (inr k) = same_loan true s t k.gives.given k.writes k.gives.are_sent.0

module _ {S M C D R Q : Type 0} (maps : M → C → D) (answers : M → R → Q) {took : S → S → List (D × Q) → List D → Type 0} where
  pub broken_as : {spoils : S → S → Type 0} (s t : MappedSink S M) (P : List (C × R)) → BreaksOff (MapsTook took maps answers) (MapsSpoils spoils) s t P → BreaksOff took spoils s.sink.now t.sink.now (mapped_pairs (maps s.map) (answers s.map) P)
  broken_as s t P is = record {
    prefix = mapped_pairs (maps s.map) (answers s.map) is.prefix;
    rest = mapped_pairs (maps s.map) (answers s.map) is.rest;
    parts = ap (mapped_pairs (maps s.map) (answers s.map)) is.parts ∙ map-append (λ (p : C × R). (maps s.map p.0, answers s.map p.1)) is.prefix is.rest;
    mid = is.mid.sink.now;
    taken = is.taken.sent;
    spoiled = is.spoiled.spoiled;
  }

  pub spoiled_as : {spoils : S → S → Type 0} (s t : MappedSink S M) (P : List (C × R)) (W : List C) → SpoiledAfter (MapsTook took maps answers) (MapsSpoils spoils) s t P W → SpoiledAfter took spoils s.sink.now t.sink.now (mapped_pairs (maps s.map) (answers s.map) P) (map (maps s.map) W)
  spoiled_as s t P W is = record { mid = is.mid.sink.now; taken = is.taken.sent; spoiled = is.spoiled.spoiled }

module _ {K C R O : Type 0} {M : Meaning K C R O} {es es' : Entries K C R O} {call : Invocation K C R} where
  -- a hit that was stopped, of which the writes were done so, and the sink was left so
  stopped_as : {done did : List C → Type 0} {spoiled spoils : List (C × R) → List C → Type 0} → ((W : List C) → done W → did W) → ((P : List (C × R)) (W : List C) → spoiled P W → spoils P W) → WasStopped M es call done spoiled es' → WasStopped M es call did spoils es'
  stopped_as d p k =
      let is = k.1 in
      (k.0, record { pairs = is.pairs; output = is.output; prefix = is.prefix; next = is.next; rest = is.rest; is_refused = is.is_refused; is_enabled = is.is_enabled; kept = is.kept; agrees = is.agrees; stands = is.stands; reads = is.reads; written = is.written; are_done = d is.prefix is.are_done; is_spoiled = p is.pairs is.prefix is.is_spoiled })

  -- the fault of a call that failed so
  pub fails_as : {done did : List C → Type 0} {breaks broken : Type 0} {spoiled spoils : List (C × R) → List C → Type 0} {f : Fault} → ((W : List C) → done W → did W) → (breaks → broken) → ((P : List (C × R)) (W : List C) → spoiled P W → spoils P W) → FailsBy M es call done breaks spoiled f es' → FailsBy M es call did broken spoils f es'
  fails_as d b p (inl a) = inl (
    a.0,
    elim a.1 [
      | inl x ↦ inl (x.0, d [] x.1)
      | inr y ↦ inr (y.0, elim y.1 [ inl z ↦ inl z | inr z ↦ inr (b z) ])
    ],
  )
  fails_as d b p (inr k) = inr (k.0, stopped_as d p k.1)

module _ {K C R O : Type 0} {M : Meaning K C R O} {touches : C → C → Bool} {es es' : Entries K C R O} {call : Invocation K C R} where
  -- a reply of a function that writes, of which the pairs and writes went so to a sink
  pub resent_mut : {mid : Entries K C R O} {sent sends : Bool → List (C × R) → List C → Type 0} {reply : Reply O} → ((late : Bool) (P : List (C × R)) (W : List C) → sent late P W → sends late P W) → IsReplyMut M call touches es mid sent reply es' → IsReplyMut M call touches es mid sends reply es'
  resent_mut f (inl a) = inl (resent (f false) a)
  resent_mut f (inr b) = inr (record {
    pairs = b.pairs;
    writes = b.writes;
    is_late = b.is_late;
    touching = b.touching;
    none = b.none;
    gives = record { given = b.gives.given; alike = b.gives.alike; agreeing = b.gives.agreeing; are_sent = f true b.gives.given b.writes b.gives.are_sent };
    same = b.same;
  })

  -- a reply of a function that writes, of which no more is said than that its writes were done
  pub done_alone : {mid : Entries K C R O} {soon late : List (C × R) → List C → Type 0} {did : List C → Type 0} {reply : Reply O} → (IsReply M call es mid (λ P W. soon P W × did W) reply es' ⊎ IsLate M call touches es mid (λ P W. late P W × did W) reply es') → IsReplyMut M call touches es mid (λ late P W. did W) reply es'
  done_alone (inl a) = inl (resent (λ P W both. both.1) a)
  done_alone (inr b) = inr (record {
    pairs = b.pairs;
    writes = b.writes;
    is_late = b.is_late;
    touching = b.touching;
    none = b.none;
    gives = record { given = b.gives.given; alike = b.gives.alike; agreeing = b.gives.agreeing; are_sent = b.gives.are_sent.1 };
    same = b.same;
  })

  -- a call that failed, of which the writes were done so, and the sink broke off so
  pub failed_as : {done did : List C → Type 0} {broken breaks : List (C × R) → Type 0} {spoiled spoils : List (C × R) → List C → Type 0} → ((W : List C) → done W → did W) → ((P : List (C × R)) → broken P → breaks P) → ((P : List (C × R)) (W : List C) → spoiled P W → spoils P W) → IsFailed M touches es call done broken spoiled es' → IsFailed M touches es call did breaks spoils es'
  failed_as d b p (inl a) = inl (a.0, record { pairs = a.1.pairs; agrees = a.1.agrees; is_broken = b a.1.pairs a.1.is_broken })
  failed_as d b p (inr k) = inr (stopped_as d p k)

-- after a fault of a call of a function of a part, the recording of the whole is incomplete
pub mapped_spoils : {K M C D R Q O : Type 0} {maps : M → C → D} {answers : M → R → Q} {N : Meaning K C R O} {touching : C → C → Bool} {es es' : Entries K C R O} {call : Invocation K C R} {done : List C → Type 0} {eq touches : D → D → Bool} (s t : MappedSink (Recording D Q) M) → IsFailed N touching es call done (BreaksOff (MapsTook (Took eq touches) maps answers) (MapsSpoils Spoiled) s t) (SpoiledAfter (MapsTook (Took eq touches) maps answers) (MapsSpoils Spoiled) s t) es' → t.sink.now.complete ≡ false
mapped_spoils s t (inl a) = a.1.is_broken.spoiled.spoiled.complete
mapped_spoils s t (inr b) = b.1.is_spoiled.spoiled.spoiled.complete

-- what was established of a part, whose calls are those of the whole by f and whose answers are those of the whole by g
module _ {C D R Q : Type 0} (eq : C → C → Bool) (same : R → R → Bool) (eqd : D → D → Bool) (like : Q → Q → Bool) (f : C → D) (g : R → Q) (apart : (x y : C) → eqd (f x) (f y) ≡ eq x y) (answers_apart : (x y : R) → like (g x) (g y) ≡ same x y) where
  module _ {V : Type 0} (wrote : V → D → V → Type 0) (w : D → Bool) (touches : D → D → Bool) (answers : V → D → Q) (calls : IsEquivalence eqd) (laws : IsEquivalence like) (alike : (v : V) → Respects eqd like (answers v)) (s t : Lent V D Q) (place : t.value.ghost_name ≡ s.value.ghost_name) (same_recording : t.recording.ghost_name ≡ s.recording.ghost_name) (has : HasBegun (Done wrote w touches like answers) like answers s) (m : C → R) (each : (c : C) → answers s.value.now (f c) ≡ g (m c)) where
    -- a called function of the part
    module _ {K O : Type 0} (eqk : K → K → Bool) (kind : C → Bool) (cloned : O → O → Type 0) (def : K → (C → R) → O → List C → Type 0) (naming : Naming K C R) (kinds : (x y : D) → IsTrue (eqd x y) → w x ≡ w y) (all : All (λ p. w p.0 ≡ false) t.recording.now.pairs) (key : K) {es mid es' : Entries K C R O} (reply : Reply O) where
      -- which sent these on, and did what it wrote
      module _ {sent : List (C × R) → List C → Type 0} (k : IsReply (record { same_call = eq; same_answer = same; same_key = eqk; is_write = kind; is_clone = cloned; right = def; naming = naming }) (invocation key m true) es mid sent reply es') (took : Took eqd touches s.recording.now t.recording.now (mapped_pairs f g k.gives.given) (map f k.writes)) (did : Done wrote w touches like answers s.value.now t.value.now (map f k.writes)) where
        agreed : Agrees like (answers s.value.now) (mapped_pairs f g k.gives.given)
        agreed = agrees_mapped eq same eqd like f g apart answers_apart (answers s.value.now) m each k.gives.given ((k.gives.agreeing m (part_respects eq same eqd like f g apart answers_apart (answers s.value.now) m each (alike s.value.now))).1 k.agrees)

        are_reads : AreReads w (mapped_pairs f g k.gives.given)
        are_reads = took_reads calls w kinds (mapped_pairs f g k.gives.given) (map f k.writes) took all

        part_begun : HasBegun (Done wrote w touches like answers) like answers t
        part_begun = has_begun_on wrote w touches like answers calls laws alike s t (mapped_pairs f g k.gives.given) (map f k.writes) took are_reads agreed did has

        part_goes : Goes (Done wrote w touches like answers) eqd touches like answers s t
        part_goes = goes_on wrote w touches like answers calls laws alike s t (mapped_pairs f g k.gives.given) (map f k.writes) took are_reads agreed place same_recording did

        part_before : (n : D → Q) → Fits eqd like t.recording.now n → Fits eqd like s.recording.now n
        part_before = fitted_mut wrote w touches like answers calls laws alike s t (mapped_pairs f g k.gives.given) (map f k.writes) took are_reads agreed has

        part_told : (n : D → Q) → Fits eqd like t.recording.now n → OnPart f g n (λ part. def key part reply.output k.writes)
        part_told n fits part e =
            let r = part_respects eq same eqd like f g apart answers_apart n part e fits.respects in
            k.stands part r ((k.gives.agreeing part r).0 (agrees_part eq same eqd like f g apart answers_apart n part e k.gives.given (taken_mut wrote w touches like answers calls laws alike s t (mapped_pairs f g k.gives.given) (map f k.writes) took are_reads agreed has n fits)))

        tells_part : TellsWrites (Goes (Done wrote w touches like answers) eqd touches like answers) (Fits eqd like) s t (Ok reply.output) (λ output n writes. OnPartWrites f g n writes (λ part W. def key part output W))
        tells_part = record {
          goes = part_goes;
          before = part_before;
          told = λ n fits. (map f k.writes, took.writes, (k.writes, refl, part_told n fits));
          complete = took.complete;
          fault = tt;
        }

      -- which reads alone
      module _ (value : t.value.now ≡ s.value.now) (reads : (o : C → R) (writes : List C) → def key o reply.output writes → writes ≡ []) (k : IsReply (record { same_call = eq; same_answer = same; same_key = eqk; is_write = kind; is_clone = cloned; right = def; naming = naming }) (invocation key m true) es mid (Through f g (Took eqd touches s.recording.now t.recording.now)) reply es') where
        none : k.writes ≡ []
        none = reads m k.writes (k.stands m (part_respects eq same eqd like f g apart answers_apart (answers s.value.now) m each (alike s.value.now)) k.agrees)

        nothing : Done wrote w touches like answers s.value.now t.value.now (map f k.writes)
        nothing = subst (λ W. Done wrote w touches like answers s.value.now t.value.now (map f W)) (sym none) value

        pub part_read_begun : HasBegun (Done wrote w touches like answers) like answers t
        part_read_begun = part_begun k k.gives.are_sent nothing

        pub tells_read_part : {P : O → (C → R) → Type 0} → ((part : C → R) → def key part reply.output k.writes → P reply.output part) → TellsMut (Goes (Done wrote w touches like answers) eqd touches like answers) (Fits eqd like) s t (Ok reply.output) (λ output n. OnPart f g n (P output))
        tells_read_part so = record {
          goes = part_goes k k.gives.are_sent nothing;
          before = part_before k k.gives.are_sent nothing;
          told = λ n fits part e. so part (part_told k k.gives.are_sent nothing n fits part e);
          complete = k.gives.are_sent.complete;
          fault = tt;
        }

      -- which writes, and may be late
      module _ (touching : C → C → Bool) (same_touch : (x y : C) → touches (f x) (f y) ≡ touching x y) (k : IsReplyMut (record { same_call = eq; same_answer = same; same_key = eqk; is_write = kind; is_clone = cloned; right = def; naming = naming }) (invocation key m true) touching es mid (λ late. Through f g (λ P W. TookAs (Took eqd touches) MarkedLate late s.recording.now t.recording.now P W × Done wrote w touches like answers s.value.now t.value.now W)) reply es') where
        pub part_any_begun : HasBegun (Done wrote w touches like answers) like answers t
        part_any_begun = elim k [
          | inl a ↦ part_begun a a.gives.are_sent.0 a.gives.are_sent.1
          | inr b ↦ has_begun_late wrote w touches like answers calls laws alike s t (mapped_pairs f g b.gives.given) (map f b.writes) b.gives.are_sent.0 b.gives.are_sent.1 has
        ]

        pub tells_any_part : TellsWrites (Goes (Done wrote w touches like answers) eqd touches like answers) (Fits eqd like) s t (Ok reply.output) (λ output n writes. OnPartWrites f g n writes (λ part W. def key part output W))
        tells_any_part = elim k [
          | inl a ↦ tells_part a a.gives.are_sent.0 a.gives.are_sent.1
          | inr b ↦ tells_late wrote w touches like answers calls laws alike s t (mapped_pairs f g b.gives.given) (map f b.writes) b.gives.are_sent.0 b.gives.are_sent.1 (touches_alike calls touches like (mapped_pairs f g b.gives.given) (mapped_pairs f g b.pairs) (map f b.writes) (path_mapped eq same eqd like f g apart answers_apart b.gives.given b.pairs b.gives.alike) (touches_mapped eq touching eqd touches f g apart same_touch b.writes b.pairs b.touching)) place same_recording reply.output
        ]

-- what a call of a function of a part that reads wrote: nothing
pub part_writes : {C D R Q K O : Type 0} (f : C → D) (g : R → Q) {M : Meaning K C R O} {eqd touches : D → D → Bool} {es mid es' : Entries K C R O} {key : K} (m : C → R) → Respects M.same_call M.same_answer m → (s t : Recording D Q) (reply : Reply O) (k : IsReply M (invocation key m true) es mid (Through f g (Took eqd touches s t)) reply es') → ((o : C → R) (writes : List C) → M.right key o reply.output writes → writes ≡ []) → t.writes ≡ s.writes
part_writes f g m respects s t reply k reads = k.gives.are_sent.writes ∙ (ap (λ W. s.writes ++ map f W) (reads m k.writes (k.stands m respects k.agrees)) ∙ append-nil s.writes)

-- what was done to a part, which `put` makes the whole of, was done to the whole
module _ {S V C D R Q : Type 0} (put : V → S) (f : C → D) {own : V → C → V → Type 0} {w : C → Bool} {touches : C → C → Bool} {same : R → R → Bool} {answers : V → C → R} {wrote : S → D → S → Type 0} {v : D → Bool} {reach : D → D → Bool} {like : Q → Q → Bool} {gives : S → D → Q} (written : (i j : V) (c : C) → Writes own w touches same answers i c j → Writes wrote v reach like gives (put i) (f c) (put j)) where
  part_done : (i j : V) (W : List C) → Done own w touches same answers i j W → Done wrote v reach like gives (put i) (put j) (map f W)
  part_done i j [] d = ap put d
  part_done i j (c ∷ W) d = (put d.0, written i d.0 c d.1, part_done d.0 j W d.2)

  -- so it was to the whole whose part it is
  pub lent_done : (s : S) (i j : V) (W : List C) → put i ≡ s → Done own w touches same answers i j W → Done wrote v reach like gives s (put j) (map f W)
  lent_done s i j W e d = subst (λ x. Done wrote v reach like gives x (put j) (map f W)) e (part_done i j W d)

-- a reply of a function of a part, which did so, and sent its calls and writes on through a sink before a recording of the whole
pub part_reply : {N C D R Q K O : Type 0} (maps : N → C → D) (answers : N → R → Q) (eqd touching : D → D → Bool) {M : Meaning K C R O} {call : Invocation K C R} {touches : C → C → Bool} {es mid es' : Entries K C R O} {reply : Reply O} (own : List C → Type 0) (did : List D → Type 0) (part : N) → ((W : List C) → own W → did (map (maps part) W)) → (a b : MappedSink (Recording D Q) N) {o r : Recording D Q} → a.map ≡ part → a.sink.now ≡ o → r ≡ b.sink.now → IsReplyMut M call touches es mid (λ late L W. TookAs (MapsTook (Took eqd touching) maps answers) (MapsLates MarkedLate) late a b L W × own W) reply es' → IsReplyMut M call touches es mid (λ late. Through (maps part) (answers part) (λ L W. TookAs (Took eqd touching) MarkedLate late o r L W × did W)) reply es'
part_reply maps answers eqd touching own did part done a b {o = o} {r = r} at begins ends k = resent_mut {sent = λ late L W. TookAs (MapsTook (Took eqd touching) maps answers) (MapsLates MarkedLate) late a b L W × own W} {sends = λ late. Through (maps part) (answers part) (λ L W. TookAs (Took eqd touching) MarkedLate late o r L W × did W)} (λ late L W is. (
  subst (λ m. TookAs (Took eqd touching) MarkedLate late o r (mapped_pairs (maps m) (answers m) L) (map (maps m) W)) at (subst (λ x. TookAs (Took eqd touching) MarkedLate late x r (mapped_pairs (maps a.map) (answers a.map) L) (map (maps a.map) W)) begins (subst (λ x. TookAs (Took eqd touching) MarkedLate late a.sink.now x (mapped_pairs (maps a.map) (answers a.map) L) (map (maps a.map) W)) (sym ends) (sent_as maps answers (Took eqd touching) MarkedLate late a b L W is.0))),
  done W is.1,
)) k
