-- For callers: what a call that was stored implies for the next one. If answers agree with what the first call asked,
-- the next call under an equal key is a hit, and finds what the first one stored.
use Rattle.std.proofs.Common.{◌≡◌, ◌⊎◌, Bool, true, List, [], ◌∷◌, ◌++◌, Option, Some, None, IsTrue, get_or, subst, refl, sym, ◌∙◌, inl, inr}
use Rattle.std.specs.Prelude.{IsSomeAnd}
use Rattle.std.specs.Map.{lookup}
use Rattle.std.proofs.lemmas.Bool.{cases_Bool}
use Rattle.std.proofs.lemmas.List.Elements.{All-head}
use Rattle.std.proofs.lemmas.List.Sorted.{All-permutation, IsPermutation-sym}
use Rattle.std.specs.Cmp.{IsEquivalence}
use Rattle.std.specs.List.{All, Any, filter}
use Rattle.std.specs.List.Sorted.{IsPermutation}
use Rattle.comemo_base.specs.Answers.{Respects, Agrees}
use Rattle.comemo_base.specs.Insertion.{Has, AllAmong, LacksNextCall, IsNewPath, outside}
use Rattle.comemo_base.specs.Tree.{Stored, stored}
use Rattle.comemo_base.proofs.Paths.{joined, turned, get_or_same}
use Rattle.comemo_base.proofs.Under.{Any-under, Any-from_under, All-from_under}
use Rattle.comemo_track.specs.Recording.{Recording, Took}
use Rattle.comemo_track.proofs.Telling.{told_pairs}
use Rattle.comemo_cache.specs.Meaning.{Meaning, Invocation, Run, run}
use Rattle.comemo_cache.specs.Cache.{Kept, Entries, IsEntryOf, HasNone}
use Rattle.comemo.specs.Called.{IsReply}
use Rattle.comemo.specs.Finish.{Ends}
use Rattle.comemo_cache.specs.Storing.{Stores}
use Rattle.comemo.specs.declared.pending.Reply.{Reply}
use Rattle.comemo.specs.declared.pending.How.TheVariants as how
use Rattle.comemo_cache.proofs.Entries.{All-cons}

module _ {C R : Type 0} {eq : C → C → Bool} {same : R → R → Bool} (answers : IsEquivalence same) (m : C → R) (respects : Respects eq same m) where
  -- answers that agree with pairs agree with each pair that is among them
  pub agrees_has : (s : List (C × R)) (q : C × R) → Agrees same m s → Has eq same s q → IsTrue (same (m q.0) q.1)
  agrees_has [] q a h = absurd h
  agrees_has (p ∷ s) q a h =
      elim (cases_Bool (eq q.0 p.0)) [
        | inl e ↦ joined answers (m q.0) p.1 q.1 (joined answers (m q.0) (m p.0) p.1 (respects q.0 p.0 e) a.0) (rw e at h)
        | inr e ↦ agrees_has s q a.1 (rw e at h)
      ]

  pub agrees_among : (s prefix : List (C × R)) → Agrees same m s → AllAmong eq same s prefix → Agrees same m prefix
  agrees_among s [] a h = tt
  agrees_among s (q ∷ prefix) a h = (agrees_has s q a h.0, agrees_among s prefix a h.1)

  agrees_filter : (p : C × R → Bool) (s : List (C × R)) → Agrees same m s → Agrees same m (filter p s)
  agrees_filter p [] a = tt
  agrees_filter p (x ∷ s) a = elim (cases_Bool (p x)) [ inl k ↦ rw k (a.0, agrees_filter p s a.1) | inr k ↦ rw k (agrees_filter p s a.1) ]

  agrees_both : (ps qs : List (C × R)) → Agrees same m ps → Agrees same m qs → Agrees same m (ps ++ qs)
  agrees_both [] qs a b = b
  agrees_both (p ∷ ps) qs a b = (a.0, agrees_both ps qs a.1 b)

  -- answers that agree with a sequence agree with the path that an insertion of it stores
  pub agrees_stored_path : {K T : Type 0} (us : List (Stored K C R T)) (s path : List (C × R)) → IsNewPath eq same us s path → Agrees same m s → Agrees same m path
  agrees_stored_path us s path n a =
      let prefix : Agrees same m n.0 = elim n.1 [ inl none ↦ rw none.1 tt | inr some ↦ agrees_among s n.0 a some.0 ] in
      subst (λ ps. Agrees same m ps) (sym n.2) (agrees_both n.0 (outside eq n.0 s) prefix (agrees_filter _ s a))

  -- the answer that the first pair of a call has
  answers_first : (s : List (C × R)) (c : C) (o : Option R) → lookup (eq c) s ≡ o → Agrees same m s → (answer : R) → o ≡ Some answer → IsTrue (same (m c) answer)
  answers_first [] c o is a answer some = let f : None ≡ Some answer = is ∙ some in cc
  answers_first (p ∷ s) c o is a answer some =
      elim (cases_Bool (eq c p.0)) [
        | inl e ↦
            let here : Some p.1 ≡ Some answer = rw e at (is ∙ some) in
            let own : p.1 ≡ answer = cc in
            subst (λ r. IsTrue (same (m c) r)) own (joined answers (m c) (m p.0) p.1 (respects c p.0 e) a.0)
        | inr e ↦ answers_first s c o (rw e at is) a.1 answer some
      ]

  -- a path and a sequence that agree with the same answers: the sequence has all its pairs, or lacks a call of it
  next_of : (s : List (C × R)) (q : C × R) (rest : List (C × R)) → Agrees same m s → IsTrue (same (m q.0) q.1) → AllAmong eq same s rest ⊎ LacksNextCall eq same s rest → (o : Option R) → lookup (eq q.0) s ≡ o → AllAmong eq same s (q ∷ rest) ⊎ LacksNextCall eq same s (q ∷ rest)
  next_of s q rest a here later None is = inr (inl is)
  next_of s q rest a here later (Some answer) is =
      let own : Has eq same s q = subst (λ o. IsSomeAnd o (λ r. IsTrue (same r q.1))) (sym is) (joined answers answer (m q.0) q.1 (turned answers (m q.0) answer (answers_first s q.0 (Some answer) is a answer refl)) here) in
      elim later [ inl all ↦ inl (own, all) | inr lacks ↦ inr (inr (own, lacks)) ]

  pub all_or_lacks : (s path : List (C × R)) → Agrees same m s → Agrees same m path → AllAmong eq same s path ⊎ LacksNextCall eq same s path
  all_or_lacks s [] a b = inl tt
  all_or_lacks s (q ∷ path) a b = next_of s q path a b.0 (all_or_lacks s path a b.1) (lookup (eq q.0) s) refl

-- what each of some items implies follows if one of them holds
from_any : {X E : Type 0} (P : E → Type 0) (es : List E) → All (λ e. P e → X) es → Any P es → X
from_any {X} P es f (k, e, l, at, h) = (subst (λ x. P x → X) at (f k e l)) h

module _ {K C R O : Type 0} (M : Meaning K C R O) where
  -- no entry but the new one agrees with answers that agree with a run that was stored
  pub others_part : IsEquivalence M.same_answer → (ran : Run K C R O) (es es' : Entries K C R O) (m : C → R) → Respects M.same_call M.same_answer m → Stores M es ran es' → Agrees M.same_answer m ran.pairs → All (λ x. IsTrue (M.same_key x.key ran.key) → ¬ Agrees M.same_answer m x.path) es
  others_part answers ran es es' m respects stores agrees = λ k d l has_key a.
      let x : Stored K C R (Kept O C) = get_or es k d in
      let at = get_or_same es k x d l in
      elim (all_or_lacks answers m respects ran.pairs x.path agrees a) [
        | inl all ↦ stores.0 (Any-under M.same_key es ran.key (λ e. AllAmong M.same_call M.same_answer ran.pairs e.path) (k, x, l, at, (has_key, all)))
        | inr lacks ↦ stores.1 (Any-under M.same_key es ran.key (λ e. LacksNextCall M.same_call M.same_answer ran.pairs e.path) (k, x, l, at, (has_key, lacks)))
      ]

  -- some entry that was added has the key and agrees
  has_some : (es es' : Entries K C R O) (e : Stored K C R (Kept O C)) (call : Invocation K C R) → IsPermutation (e ∷ es) es' → IsTrue (M.same_key e.key call.key) → Agrees M.same_answer call.answers e.path → HasNone M es' call → ⊥
  has_some es es' e call order key agrees none =
      let Q : Stored K C R (Kept O C) → Type 0 = λ x. IsTrue (M.same_key x.key call.key) → ¬ Agrees M.same_answer call.answers x.path in
      All-head Q e es (All-permutation Q es' (e ∷ es) (IsPermutation-sym (e ∷ es) es' order) (All-from_under M.same_key es' call.key (λ x. ¬ Agrees M.same_answer call.answers x.path) none)) key agrees

  -- a run that was stored
  record StoredRun (es mid es' : Entries K C R O) (call : Invocation K C R) (pairs : List (C × R)) (output : O) (writes : List C) : Type 0 where
    pub none : call.enabled ≡ true → HasNone M es call
    pub own : K
    pub has_key : IsTrue (M.same_key call.key own)
    pub stores : Stores M mid (run own pairs output writes) es'

  stored_run : (es mid es' : Entries K C R O) (call : Invocation K C R) (sent : List (C × R) → List C → Type 0) (reply : Reply O) (is : IsReply M call es mid sent reply es') → reply.how ≡ how.Stored → StoredRun es mid es' call is.pairs reply.output is.writes
  stored_run es mid es' call sent reply is stored_it = elim is.came [
    | inl hit ↦ let f : how.Hit ≡ how.Stored = sym hit.0 ∙ stored_it in cc
    | inr ran ↦ record { none = ran.none; own = ran.own; has_key = ran.has_key; stores = subst (λ h. Ends M mid (run ran.own is.pairs reply.output is.writes) h es') stored_it ran.ends }
  ]

  -- the entry that the first call stored has the key of the second, and agrees
  still_has : IsEquivalence M.same_answer → IsEquivalence M.same_key → {es mid es' : Entries K C R O} {first : Invocation K C R} (second : Invocation K C R) {sent : List (C × R) → List C → Type 0} {one : Reply O} → (is : IsReply M first es mid sent one es') → one.how ≡ how.Stored → IsTrue (M.same_key first.key second.key) → Respects M.same_call M.same_answer second.answers → Agrees M.same_answer second.answers is.pairs → HasNone M es' second → ⊥
  still_has answers keys {es} {mid} {es'} {first} second {sent} {one} is stored_it same_key respects agrees =
      let ran = stored_run es mid es' first sent one is stored_it in
      let adds = ran.stores.2.adds in
      let e = stored adds.own adds.path ran.stores.2.kept in
      let own_key = joined keys adds.own ran.own first.key adds.is_key (turned keys first.key ran.own ran.has_key) in
      has_some mid es' e second adds.entries
      (joined keys adds.own first.key second.key own_key same_key)
      (agrees_stored_path answers second.answers respects _ is.pairs adds.path adds.is_new agrees)

  module _ (answers : IsEquivalence M.same_answer) (keys : IsEquivalence M.same_key) {es mid mid' es' es'' : Entries K C R O} {first second : Invocation K C R} {sent sends : List (C × R) → List C → Type 0} {one two : Reply O} where
    -- the next call is a hit
    pub hits_again : (is : IsReply M first es mid sent one es') → one.how ≡ how.Stored → IsTrue (M.same_key first.key second.key) → Respects M.same_call M.same_answer second.answers → Agrees M.same_answer second.answers is.pairs → second.enabled ≡ true → IsReply M second es' mid' sends two es'' → two.how ≡ how.Hit
    hits_again is stored_it same_key respects agrees enabled next = elim next.came [
      | inl hit ↦ hit.0
      | inr ran ↦ absurd (still_has answers keys second is stored_it same_key respects agrees (ran.none enabled))
    ]

    -- its output is a clone of what the first call stored
    pub finds_again : (is : IsReply M first es mid sent one es') → one.how ≡ how.Stored → IsTrue (M.same_key first.key second.key) → Respects M.same_call M.same_answer second.answers → Agrees M.same_answer second.answers is.pairs → second.enabled ≡ true → IsReply M second es' mid' sends two es'' → (kept : O) × M.is_clone one.output kept × M.is_clone kept two.output
    finds_again is stored_it same_key respects agrees enabled next = elim next.came [
      | inl hit ↦
          let ran = stored_run es mid es' first sent one is stored_it in
          let stores = ran.stores.2 in
          let X : Type 0 = (kept : O) × M.is_clone one.output kept × M.is_clone kept two.output in
          let found : Run K C R O = run second.key next.pairs two.output next.writes in
          let Q : Stored K C R (Kept O C) → Type 0 = λ e. IsTrue (M.same_key e.key second.key) × IsEntryOf M second.answers found e in
          let e : Stored K C R (Kept O C) = stored stores.adds.own stores.adds.path stores.kept in
          let own_key = joined keys second.key first.key ran.own (turned keys first.key second.key same_key) ran.has_key in
          let before = others_part answers (run ran.own is.pairs one.output is.writes) mid es' second.answers respects ran.stores agrees in
          let each = All-cons (λ x. Q x → X) e mid (λ q. (stores.kept.output, stores.is_clone, q.1.2)) (λ k d l q. absurd (before k d l (joined keys (get_or mid k d).key second.key ran.own q.0 own_key) q.1.0)) in
          from_any Q es' (All-permutation (λ x. Q x → X) (e ∷ mid) es' stores.adds.entries each) (Any-from_under M.same_key es' second.key (IsEntryOf M second.answers found) hit.1.kept)
      | inr by ↦ absurd (still_has answers keys second is stored_it same_key respects agrees (by.none enabled))
    ]

-- answers that agree with a fresh recording of a reply agree with the pairs that it rests on
pub agrees_again : {K C R O : Type 0} {touches : C → C → Bool} {M : Meaning K C R O} → IsEquivalence M.same_call → IsEquivalence M.same_answer → {es mid es' : Entries K C R O} {call : Invocation K C R} {reply : Reply O} (s t : Recording C R) → Respects M.same_call M.same_answer call.answers → s.pairs ≡ [] → (is : IsReply M call es mid (Took M.same_call touches s t) reply es') → (m : C → R) → Respects M.same_call M.same_answer m → Agrees M.same_answer m t.pairs → Agrees M.same_answer m is.pairs
agrees_again calls answers {call = call} s t respects fresh is m r a =
    let told = told_pairs calls answers call.answers respects s t is.gives.given is.writes (rw fresh tt) ((is.gives.agreeing call.answers respects).1 is.agrees) is.gives.are_sent in
    (is.gives.agreeing m r).0 (told.told m r a)
