-- A call of a function of a part, as a call of the whole: its calls and answers went through a map.
use Rattle.std.proofs.Common.{◌≡◌, ◌∙◌, Bool, true, IsTrue, List, [], ◌∷◌, ◌++◌, Result, Ok, Err, IfOk, OnErr, map, ap}
use Rattle.std.proofs.lemmas.List.{map-append}
use Rattle.std.specs.Cmp.{IsEquivalence}
use Rattle.comemo_base.specs.Answers.{Respects, Agrees}
use Rattle.comemo_track.specs.Mapped.{mapped_pairs, Through}
use Rattle.comemo_track.specs.Recording.{Recording, Took}
use Rattle.comemo_track.specs.Sending.{Asks, BreaksOff}
use Rattle.comemo_cache.specs.Meaning.{Naming, invocation}
use Rattle.comemo_cache.specs.Cache.{Entries}
use Rattle.comemo.specs.Called.{IsReply}
use Rattle.comemo.specs.Finish.{BrokeOff}
use Rattle.comemo.specs.Function.{Recorded, IsRecorded, Fits, Tells, OnPart}
use Rattle.comemo.specs.FunctionMut.{Lent, TellsMut}
use Rattle.comemo.specs.declared.pending.Reply.{Reply}
use Rattle.comemo.proofs.Recorders.{fitted, fits_taken, still_agrees, stays_early, asked_keeps}

module _ {C D R Q : Type 0} (eq : C → C → Bool) (same : R → R → Bool) (eqd : D → D → Bool) (like : Q → Q → Bool) (f : C → D) (g : R → Q) (apart : (x y : C) → eqd (f x) (f y) ≡ eq x y) (answers_apart : (x y : R) → like (g x) (g y) ≡ same x y) where
  module _ (n : D → Q) (m : C → R) (each : (c : C) → n (f c) ≡ g (m c)) where
    -- the answers of a part are alike for equal calls if those of the whole are
    pub part_respects : Respects eqd like n → Respects eq same m
    part_respects r x y h = rw (answers_apart (m x) (m y)) at (rw (each y) at (rw (each x) at (r (f x) (f y) (rw (apart x y) h))))

    -- and agree with what they agree with, mapped
    pub agrees_mapped : (P : List (C × R)) → Agrees same m P → Agrees like n (mapped_pairs f g P)
    agrees_mapped [] a = tt
    agrees_mapped (p ∷ P) a = (rw (each p.0) (rw (answers_apart (m p.0) p.1) a.0), agrees_mapped P a.1)

    pub agrees_part : (P : List (C × R)) → Agrees like n (mapped_pairs f g P) → Agrees same m P
    agrees_part [] a = tt
    agrees_part (p ∷ P) a = (rw (answers_apart (m p.0) p.1) at (rw (each p.0) at a.0), agrees_part P a.1)

  -- what a function of a part added to a recording of the whole, whose answers are n
  module _ {K O : Type 0} (eqk : K → K → Bool) (w : C → Bool) (cloned : O → O → Type 0) (def : K → (C → R) → O → List C → Type 0) (naming : Naming K C R) (calls : IsEquivalence eqd) (answers : IsEquivalence like) (n : D → Q) (respects : Respects eqd like n) (m : C → R) (each : (c : C) → n (f c) ≡ g (m c)) (key : K)
      (es mid es' : Entries K C R O) (reply : Reply O) {touches : D → D → Bool} where
    module _ {s t : Recording D Q} (before : s.complete ≡ true → Agrees like n s.pairs) (k : IsReply (record { same_call = eq; same_answer = same; same_key = eqk; is_write = w; is_clone = cloned; right = def; naming = naming }) (invocation key m true) es mid (Through f g (Took eqd touches s t)) reply es') where
      given_agrees : Agrees like n (mapped_pairs f g k.gives.given)
      given_agrees = agrees_mapped n m each k.gives.given ((k.gives.agreeing m (part_respects n m each respects)).1 k.agrees)

      pub still_agrees_through : t.complete ≡ true → Agrees like n t.pairs
      still_agrees_through = still_agrees calls answers n respects (mapped_pairs f g k.gives.given) (map f k.writes) k.gives.are_sent given_agrees before

    pub keeps_through : (s t : Recording D Q) → IsRecorded like n s → (k : IsReply (record { same_call = eq; same_answer = same; same_key = eqk; is_write = w; is_clone = cloned; right = def; naming = naming }) (invocation key m true) es mid (Through f g (Took eqd touches s t)) reply es') → ((m : C → R) (writes : List C) → def key m reply.output writes → writes ≡ []) → IsRecorded like n t
    keeps_through s t before k reads = record {
      agrees = still_agrees_through before.agrees k;
      no_writes = k.gives.are_sent.writes ∙ ap (λ V. V ++ map f k.writes) before.no_writes ∙ ap (map f) (reads m k.writes (k.stands m (part_respects n m each respects) k.agrees));
      early = stays_early k.gives.are_sent before.no_writes before.early;
    }

    -- and what the run around it learnt
    pub tells_through : {V : Type 0} {s t : Recorded V D Q} → t.value ≡ s.value → (s.recording.complete ≡ true → Agrees like n s.recording.pairs) → IsReply (record { same_call = eq; same_answer = same; same_key = eqk; is_write = w; is_clone = cloned; right = def; naming = naming }) (invocation key m true) es mid (Through f g (Took eqd touches s.recording t.recording)) reply es' → {P : O → (C → R) → Type 0} → ((m : C → R) (writes : List C) → def key m reply.output writes → P reply.output m) → Tells (Fits eqd like) s t (Ok reply.output) (λ output o. OnPart f g o (P output))
    tells_through {s = s} {t = t} value before k so = record {
      same_value = value;
      before = fitted calls answers n respects (mapped_pairs f g k.gives.given) (map f k.writes) k.gives.are_sent (given_agrees before k) before;
      told = λ o fits part e.
          let r = part_respects o part e fits.respects in
          let all = fits_taken calls answers n respects (mapped_pairs f g k.gives.given) (map f k.writes) k.gives.are_sent (given_agrees before k) before o fits in
          so part k.writes (k.stands part r ((k.gives.agreeing part r).0 (agrees_part o part e k.gives.given all)));
      complete = k.gives.are_sent.complete;
      fault = tt;
    }

  -- pairs of which a prefix went through a map, before it broke off
  pub broke_through : {S T : Type 0} {took : S → S → List (C × R) → List C → Type 0} {spoils : S → S → Type 0} {takes : T → T → List (D × Q) → List D → Type 0} {breaks : T → T → Type 0} (inner : S → T) (s : S) → ((t : S) (P : List (C × R)) → took s t P [] → takes (inner s) (inner t) (mapped_pairs f g P) []) → ((t u : S) → spoils t u → breaks (inner t) (inner u)) → (n : D → Q) (m : C → R) → ((c : C) → n (f c) ≡ g (m c)) → (t : S) → BrokeOff same m (BreaksOff took spoils s t) → BrokeOff like n (BreaksOff takes breaks (inner s) (inner t))
  broke_through inner s sends spoiled n m each t is = record {
    pairs = mapped_pairs f g is.pairs;
    agrees = agrees_mapped n m each is.pairs is.agrees;
    is_broken = record {
      prefix = mapped_pairs f g is.is_broken.prefix;
      rest = mapped_pairs f g is.is_broken.rest;
      parts = ap (mapped_pairs f g) is.is_broken.parts ∙ map-append (λ (p : C × R). (f p.0, g p.1)) is.is_broken.prefix is.is_broken.rest;
      mid = inner is.is_broken.mid;
      taken = sends is.is_broken.mid is.is_broken.prefix is.is_broken.taken;
      spoiled = spoiled is.is_broken.mid t is.is_broken.spoiled;
    };
  }

  -- a read of a part, as one of the whole
  pub asks_whole : (n : D → Q) (m : C → R) → ((c : C) → n (f c) ≡ g (m c)) → {went : List (D × Q) → List D → Type 0} (call : C) (answer : R) → Asks same m call answer (Through f g went) → Asks like n (f call) (g answer) went
  asks_whole n m each call answer k = record {
    gives = rw (each call) (rw (answers_apart (m call) answer) k.gives);
    noted = g k.noted;
    alike = rw (each call) (rw (answers_apart (m call) k.noted) k.alike);
    sent = k.sent;
  }

  -- so it keeps what a recorder of the whole knows
  pub part_asked_keeps : (touches : D → D → Bool) → IsEquivalence eqd → IsEquivalence like → (n : D → Q) → Respects eqd like n → (m : C → R) → ((c : C) → n (f c) ≡ g (m c)) → (s t : Recording D Q) → IsRecorded like n s → {E : Type 0} (call : C) (r : Result R E) → IfOk r (λ answer. Asks same m call answer (Through f g (Took eqd touches s t))) → OnErr r (Took eqd touches s t [] []) → IsRecorded like n t
  part_asked_keeps touches calls answers n respects m each s t before {E} call (Ok answer) k e =
      asked_keeps touches calls answers n respects s t before (f call) (let r : Result Q E = Ok (g answer) in r) (asks_whole n m each call answer k) tt
  part_asked_keeps touches calls answers n respects m each s t before {E} call (Err x) k e =
      asked_keeps touches calls answers n respects s t before (f call) (let r : Result Q E = Err x in r) tt e

  -- and what was told of the whole is told of the part
  pub part_tells : {V : Type 0} {s t : Recorded V D Q} (call : C) (answer : R) → Tells (Fits eqd like) s t (Ok (g answer)) (λ a o. IsTrue (like (o (f call)) a)) → Tells (Fits eqd like) s t (Ok answer) (λ a o. OnPart f g o (λ part. IsTrue (same (part call) a)))
  part_tells call answer k = record {
    same_value = k.same_value;
    before = k.before;
    told = λ o fits part e. rw (answers_apart (part call) answer) at (rw (e call) at (k.told o fits));
    complete = k.complete;
    fault = tt;
  }

  -- the same of a recorder that writes
  pub part_tells_mut : {V : Type 0} {leads : Lent V D Q → Lent V D Q → Type 0} {s t : Lent V D Q} (call : C) (answer : R) → TellsMut leads (Fits eqd like) s t (Ok (g answer)) (λ a o. IsTrue (like (o (f call)) a)) → TellsMut leads (Fits eqd like) s t (Ok answer) (λ a o. OnPart f g o (λ part. IsTrue (same (part call) a)))
  part_tells_mut call answer k = record {
    goes = k.goes;
    before = k.before;
    told = λ o fits part e. rw (answers_apart (part call) answer) at (rw (e call) at (k.told o fits));
    complete = k.complete;
    fault = tt;
  }
