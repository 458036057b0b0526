-- What a finished run has recorded, if the asked calls are named; and for authors of functions that name them: what
-- follows from the clauses of a recorder's questions and calls.
use Rattle.std.proofs.Common.{◌≡◌, ◌⊎◌, Bool, true, false, List, [], ◌∷◌, ◌++◌, Result, Ok, OnOk, IsTrue, inl, inr, refl, sym, subst, append-nil}
use Rattle.std.specs.Bool.{⊤}
use Rattle.std.proofs.lemmas.Bool.{cases_Bool}
use Rattle.std.specs.Cmp.{IsEquivalence}
use Rattle.comemo_base.specs.Answers.{Respects, Agrees}
use Rattle.comemo_base.specs.Sequence.{held, absorbed}
use Rattle.comemo_base.specs.Runs.{IsRun}
use Rattle.comemo_base.specs.Settling.{Settles, nothing_left}
use Rattle.comemo_base.proofs.Paths.{turned, joined}
use Rattle.comemo_base.proofs.Sets.{held-alike}
use Rattle.comemo_base.proofs.Settling.{settles_not, settles_on, settles_absorbed, run_alike, run_from_settles}
use Rattle.comemo_track.specs.Recording.{Recording, Took}
use Rattle.comemo_track.specs.Sending.{Asks}
use Rattle.comemo_cache.specs.Cache.{Entries}
use Rattle.comemo_cache.specs.Meaning.{Invocation, Naming, unnamed, names, AsksAlike, IsRunOf}
use Rattle.comemo.specs.Called.{IsReply}
use Rattle.comemo.specs.Function.{Fits, SettlesAs}
use Rattle.comemo.specs.declared.pending.Fault.{Fault}
use Rattle.comemo.specs.declared.pending.Reply.{Reply}
use Rattle.comemo.proofs.Recorders.{was_complete, in_time}

pub settled_end : {K C R X : Type 0} (eqk : K → K → Bool) (eq : C → C → Bool) (same : R → R → Bool) (N : Naming K C R) (key : K) (t : Recording C R) (r : Result X Fault) (output : X) → SettlesAs eqk eq same N key t r → r ≡ Ok output → t.complete ≡ true → t.late ≡ false → IsRunOf eqk eq same N key t.pairs
settled_end eqk eq same unnamed key t r output s e w l = tt
settled_end eqk eq same (names asks) key t r output s e w l = subst (λ r. OnOk r (t.complete ≡ true → t.late ≡ false → IsRun eq same (AsksAlike eqk eq asks key) t.pairs)) e s w l

held_last : {C R : Type 0} (eq : C → C → Bool) (xs : List (C × R)) (q : C × R) (c : C) → eq c q.0 ≡ true → IsTrue (held eq (xs ++ q ∷ []) c)
held_last eq [] q c e = rw e refl
held_last eq (x ∷ xs) q c e = elim (cases_Bool (eq c x.0)) [ inl a ↦ rw a refl | inr a ↦ rw a (held_last eq xs q c e) ]

held_prefix : {C R : Type 0} (eq : C → C → Bool) (xs ys : List (C × R)) (c : C) → IsTrue (held eq xs c) → IsTrue (held eq (xs ++ ys) c)
held_prefix eq [] ys c h = let z : false ≡ true = h in cc
held_prefix eq (x ∷ xs) ys c h = elim (cases_Bool (eq c x.0)) [ inl e ↦ rw e refl | inr e ↦ rw e (held_prefix eq xs ys c (rw e at h)) ]

agrees_prefix : {C R : Type 0} (same : R → R → Bool) (m : C → R) (ps qs : List (C × R)) → Agrees same m (ps ++ qs) → Agrees same m ps
agrees_prefix same m [] qs a = tt
agrees_prefix same m (p ∷ ps) qs a = (a.0, agrees_prefix same m ps qs a.1)

module _ {C R : Type 0} {eq : C → C → Bool} {same : R → R → Bool} (calls : IsEquivalence eq) (answers : IsEquivalence same) where
  settles_one : (s : List (C × R)) (q : C × R) → Settles eq same (λ m c. IsTrue (eq q.0 c)) nothing_left s (absorbed eq s (q ∷ []))
  settles_one s q =
      elim (cases_Bool (held eq s q.0)) [
        | inl e ↦ rw e (record { added = []; parts = sym (append-nil s); in_turn = λ m r k. tt; complete = λ m r k c h. inl (held-alike calls answers s q.0 c h e) })
        | inr e ↦ rw e (record { added = q ∷ []; parts = refl; in_turn = λ m r k. (calls.refl q.0, λ h. tt); complete = λ m r k c h. inl (held_last eq s q c (turned calls q.0 c h)) })
      ]

  -- after a question, it is recorded, and nothing else was: from the clause `asks` of a recorder's `ask`
  pub settles_asked : {touches : C → C → Bool} {m : C → R} {s t : Recording C R} {call : C} {answer : R} → Asks same m call answer (Took eq touches s t) → Settles eq same (λ n c. IsTrue (eq call c)) nothing_left s.pairs t.pairs
  settles_asked {s = s} {call = call} k =
      subst (λ ps. Settles eq same (λ n c. IsTrue (eq call c)) nothing_left s.pairs ps) (sym k.sent.pairs) (settles_one s.pairs (call, k.noted))

module _ {K C R : Type 0} {eqk : K → K → Bool} {eq : C → C → Bool} {same : R → R → Bool} (keys : IsEquivalence eqk) (calls : IsEquivalence eq) (answers : IsEquivalence same) where
  asked_alike : (asks : K → (C → R) → C → Type 0) (key : K) (m : C → R) (c d : C) → IsTrue (eq c d) → AsksAlike eqk eq asks key m c → AsksAlike eqk eq asks key m d
  asked_alike asks key m c d e (k, b, f, g, a) = (k, b, f, joined calls b c d g e, a)

  -- after a call of a function that names its calls, these are recorded, and nothing else was: from the reply of a recorder's `call`
  pub settles_called : {O : Type 0} {is_write : C → Bool} {is_clone : O → O → Type 0} {def : K → (C → R) → O → List C → Type 0} {asks : K → (C → R) → C → Type 0} {call : Invocation K C R} {es mid es' : Entries K C R O} {touches : C → C → Bool} {s t : Recording C R} {reply : Reply O} → Respects eq same call.answers → Agrees same call.answers s.pairs → IsReply (record { same_call = eq; same_answer = same; same_key = eqk; is_write = is_write; is_clone = is_clone; right = def; naming = names asks }) call es mid (Took eq touches s t) reply es' → Settles eq same (AsksAlike eqk eq asks call.key) nothing_left s.pairs t.pairs
  settles_called {asks = asks} {call = call} {s = s} respects agrees k =
      let asked = AsksAlike eqk eq asks call.key in
      let run = run_alike calls answers asked (asked_alike asks call.key) k.pairs k.gives.given k.gives.alike k.settled in
      subst (λ ps. Settles eq same asked nothing_left s.pairs ps) (sym k.gives.are_sent.pairs) (settles_absorbed calls answers call.answers respects asked s.pairs k.gives.given agrees ((k.gives.agreeing call.answers respects).1 k.agrees) run)

-- the tests of calls and answers are equivalences, and this one is true of the key
pub record Tests {K C R : Type 0} (like : K → Bool) (key : K) (eq : C → C → Bool) (same : R → R → Bool) : Type 0 where
  pub own : IsTrue (like key)
  pub calls : IsEquivalence eq
  pub answers : IsEquivalence same

-- a call is asked under a key that is like the run's, up to equality: what `AsksAlike` computes to
abbrev pub AsksLike : {K C R : Type 0} → (K → Bool) → (C → C → Bool) → (K → (C → R) → C → Type 0) → (C → R) → C → Type 0
AsksLike {K} {C} like eq asks m call = (k : K) × (c : C) × IsTrue (like k) × IsTrue (eq c call) × asks k m c

module _ {K C R : Type 0} (eq : C → C → Bool) (same : R → R → Bool) (asks : K → (C → R) → C → Type 0) (key : K) where
  -- What a run under the key has recorded so far, from no pair on, is asked in turn. And it holds each call that is `covered`, under
  -- all answers that agree with it.
  pub record HasAsked (covered : (C → R) → C → Type 0) (t : Recording C R) : Type 0 where
    pub in_turn : (like : K → Bool) → Tests like key eq same → t.complete ≡ true → t.late ≡ false → Settles eq same (AsksLike like eq asks) (λ m c. ⊤) [] t.pairs
    pub holds : IsEquivalence eq → IsEquivalence same → (m : C → R) → Respects eq same m → Agrees same m t.pairs → (c : C) → covered m c → IsTrue (held eq t.pairs c)

module _ {K C R : Type 0} {eq : C → C → Bool} {same : R → R → Bool} {asks : K → (C → R) → C → Type 0} {key : K} where
  -- before the first question
  pub nothing_asked : {s : Recording C R} → s.pairs ≡ [] → HasAsked eq same asks key nothing_left s
  nothing_asked {s = s} none = record {
    in_turn = λ like is w l. subst (λ ps. Settles eq same (AsksLike like eq asks) (λ m c. ⊤) [] ps) (sym none) (settles_not is.calls is.answers (AsksLike like eq asks) (λ m c. ⊤) [] (λ m r k c a. tt));
    holds = λ calls answers m r k c never. absurd never;
  }

  -- one stretch more, which asks what it asks under all answers that fitted before it
  asked_on : {touches : C → C → Bool} {covered part more : (C → R) → C → Type 0} {s t : Recording C R} (P : List (C × R)) (W : List C) → Took eq touches s t P W → HasAsked eq same asks key covered s → (IsEquivalence eq → IsEquivalence same → Settles eq same part nothing_left s.pairs t.pairs) → ((m : C → R) → Fits eq same s m → (c : C) → part m c → (d : C) × IsTrue (eq d c) × asks key m d) → (IsEquivalence eq → (m : C → R) (c : C) → more m c → part m c) → HasAsked eq same asks key (λ m c. more m c ⊎ covered m c) t
  asked_on {part = part} {s = s} {t = t} P W took before next up of_part = record {
    in_turn = λ like is w l. settles_on is.calls is.answers (AsksLike like eq asks) (λ m c. ⊤) part (λ m c. ⊤) [] s.pairs t.pairs (before.in_turn like is (was_complete took w) (in_time took l).0) (next is.calls is.answers)
        (λ m r k c a. let u = up m (record { complete = was_complete took w; early = (in_time took l).0; respects = r; agrees = k }) c a in (key, u.0, is.own, u.1, u.2)) (λ m r k c a. inr tt);
    holds = λ calls answers m r k c h. let n = next calls answers in elim h [
      | inl a ↦ elim (n.complete m r k c (of_part calls m c a)) [ inl there ↦ there | inr never ↦ absurd never ]
      | inr a ↦ subst (λ ps. IsTrue (held eq ps c)) (sym n.parts) (held_prefix eq s.pairs n.added c (before.holds calls answers m r (agrees_prefix same m s.pairs n.added (subst (λ ps. Agrees same m ps) n.parts k)) c a))
    ];
  }

  -- After a question that is asked under all answers that fitted before it, it is covered too: from the clause `asks` of a
  -- recorder's `ask`.
  pub asked_then : {touches : C → C → Bool} {covered : (C → R) → C → Type 0} {m : C → R} {s t : Recording C R} {call : C} {answer : R} → Asks same m call answer (Took eq touches s t) → ((n : C → R) → Fits eq same s n → asks key n call) → HasAsked eq same asks key covered s → HasAsked eq same asks key (λ n c. IsTrue (eq call c) ⊎ covered n c) t
  asked_then {call = call} k up before =
      asked_on ((call, k.noted) ∷ []) [] k.sent before (λ calls answers. settles_asked calls answers k) (λ n f c e. (call, e, up n f)) (λ calls n c e. e)

  -- After a call of a function that names its calls, which are asked under all answers that fitted before it, these are covered
  -- too: from what the clause `reply` of a recorder's `call` says of entries.
  pub called_then : {L O : Type 0} {eql : L → L → Bool} {is_write : C → Bool} {is_clone : O → O → Type 0} {def : L → (C → R) → O → List C → Type 0} {inner : L → (C → R) → C → Type 0} {call : Invocation L C R} {es mid es' : Entries L C R O} {touches : C → C → Bool} {covered : (C → R) → C → Type 0} {s t : Recording C R} {reply : Reply O} → IsReply (record { same_call = eq; same_answer = same; same_key = eql; is_write = is_write; is_clone = is_clone; right = def; naming = names inner }) call es mid (Took eq touches s t) reply es' → IsEquivalence eql → Respects eq same call.answers → Agrees same call.answers s.pairs → ((n : C → R) → Fits eq same s n → (k : L) → IsTrue (eql k call.key) → (c : C) → inner k n c → asks key n c) → HasAsked eq same asks key covered s → HasAsked eq same asks key (λ n c. inner call.key n c ⊎ covered n c) t
  called_then {eql = eql} {inner = inner} {call = call} k others respects agrees up before =
      asked_on k.gives.given k.writes k.gives.are_sent before (λ calls answers. settles_called others calls answers respects agrees k)
      (λ n f c (l, d, e, same_c, a). (d, same_c, up n f l e d a)) (λ calls n c a. (call.key, c, others.refl call.key, calls.refl c, a))

module _ {K C R : Type 0} {eq : C → C → Bool} {same : R → R → Bool} {asks : K → (C → R) → C → Type 0} (key : K) where
  -- The end of a run under this key: each call that is asked, under a key like it, has to be covered, under all answers that fit.
  pub settled_run : {like : K → Bool} {covered : (C → R) → C → Type 0} {t : Recording C R} → Tests like key eq same → HasAsked eq same asks key covered t → ((n : C → R) → Fits eq same t n → (k : K) → IsTrue (like k) → (c : C) → asks k n c → covered n c) → t.complete ≡ true → t.late ≡ false → IsRun eq same (AsksLike like eq asks) t.pairs
  settled_run {like = like} {t = t} is h all w l =
      let turn = h.in_turn like is w l in
      run_from_settles is.calls is.answers (AsksLike like eq asks) (λ m c d e (k, b, f, g, a). (k, b, f, joined is.calls b c d g e, a)) t.pairs (record {
        added = turn.added;
        parts = turn.parts;
        in_turn = turn.in_turn;
        complete = λ n r a c (k, b, e, f, asked). inl (held-alike is.calls is.answers t.pairs b c f (h.holds is.calls is.answers n r a b (all n (record { complete = w; early = l; respects = r; agrees = a }) k e b asked)));
      })
