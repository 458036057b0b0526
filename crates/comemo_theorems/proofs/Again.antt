-- What was stored is found again.
use Rattle.std.proofs.Common.{◌≡◌, ◌∙◌, ◌+◌, ℕ, Bool, true, List, [], ◌∷◌, IsTrue, get_or, refl, sym, subst, inl, inr, arith}
use Rattle.std.proofs.lemmas.List.Elements.{All-nil, All-head, All-tail}
use Rattle.std.proofs.lemmas.List.Sorted.{All-permutation}
use Rattle.std.specs.List.{All, Any}
use Rattle.comemo_base.specs.Answers.{Respects, Agrees}
use Rattle.comemo_base.specs.Tree.{Stored, stored}
use Rattle.comemo_base.specs.Lookup.{under}
use Rattle.comemo_base.specs.Insertion.{AllAmong}
use Rattle.comemo_base.proofs.Paths.{joined, turned}
use Rattle.comemo_base.proofs.Under.{Any-here, Any-weaker, Any-from_under, All-from_under}
use Rattle.comemo_cache.specs.Meaning.{Meaning, Invocation, Run, run, SameWrites}
use Rattle.comemo_cache.specs.Cache.{Kept, Entries, HasNone, IsEntryOf}
use Rattle.comemo_cache.specs.Storing.{Stores}
use Rattle.comemo_cache.proofs.Entries.{All-cons}
use Rattle.comemo_cache.proofs.Writings.{SameWrites-joined}
use Rattle.comemo.proofs.Again.{agrees_among, agrees_stored_path, others_part}
use Rattle.comemo.specs.Finish.{Ends}
use Rattle.comemo.specs.Called.{IsReply, IsReplyMut}
use Rattle.comemo.specs.declared.pending.Reply.{Reply}
use Rattle.comemo.specs.declared.pending.How.TheVariants as how
use Rattle.comemo_theorems.specs.History.{Step, found, touched, missed, ended, evicted, Does, History, Answers, Honest, Outlives}
use Rattle.comemo_theorems.specs.Statements.{HitsAgain, HitsExisting, HitsReplay, IsCopy}
use Rattle.comemo_theorems.proofs.Lawful.{IsLawful}
use Rattle.comemo_theorems.proofs.Plain.{any_permutation, agrees_back}
use Rattle.comemo_theorems.proofs.Steps.{Own, Aged, all_same, all_ended, all_touched, all_evicted, aged_same, aged_ended, aged_touched, aged_evicted, outlived}

module _ {K C R O : Type 0} (M : Meaning K C R O) (laws : IsLawful M) where
  -- a key and a path that a call's key equals and its answers agree with
  abbrev pub Of : K → (C → R) → K → List (C × R) → Type 0
  Of key m own path = IsTrue (M.same_key own key) × Agrees M.same_answer m path

  abbrev pub OfEntry : K → (C → R) → Stored K C R (Kept O C) → Type 0
  OfEntry key m e = Own M (Of key m) e

  pub not_none : (es : Entries K C R O) (call : Invocation K C R) → Any (OfEntry call.key call.answers) es → ¬ HasNone M es call
  not_none es call some none =
      let all = All-from_under M.same_key es call.key (λ x. ¬ Agrees M.same_answer call.answers x.path) none in
      all some.0 some.1 some.2 (subst (λ x. IsTrue (M.same_key x.key call.key)) (sym some.3) some.4.0) (subst (λ x. Agrees M.same_answer call.answers x.path) (sym some.3) some.4.1)

  -- each entry that agrees has what was stored
  module _ (Q : O → List C → Type 0) (key : K) (m : C → R) (respects : Respects M.same_call M.same_answer m) where
    abbrev Only : Stored K C R (Kept O C) → Type 0
    Only e = IsTrue (M.same_key e.key key) → Agrees M.same_answer m e.path → Q e.value.output e.value.writes

    only_stored : (call : Invocation K C R) (ran : Run K C R O) (es es' : Entries K C R O) → Answers M call ran → Stores M es ran es' → Any (OfEntry key m) es → All Only es → All Only es'
    only_stored call ran es es' is stores some only =
        let x = stores.2 in
        let e : Stored K C R (Kept O C) = stored x.adds.own x.adds.path x.kept in
        let here : Only e = λ has_key agrees.
        let again = agrees_back laws.answers call.answers is.alike m respects (under M.same_key es ran.key) ran.pairs x.adds.path x.adds.is_new is.agrees agrees in
        let part = others_part M laws.answers ran es es' m respects stores again in
        let own_key = joined laws.keys some.1.key key ran.key some.4.0 (joined laws.keys key x.adds.own ran.key (turned laws.keys x.adds.own key has_key) x.adds.is_key) in
        absurd (part some.0 some.1 some.2 (subst (λ y. IsTrue (M.same_key y.key ran.key)) (sym some.3) own_key) (subst (λ y. Agrees M.same_answer m y.path) (sym some.3) some.4.1)) in
        All-permutation Only (e ∷ es) es' x.adds.entries (All-cons Only e es here only)

    only_after : (h : List (Step K C R O)) (es es' : Entries K C R O) (age : ℕ) → History M h es es' → All (Honest M) h → Outlives M (λ _. ⊥) age h → Any (Aged M (Of key m) age) es → All Only es → All Only es'
    only_after [] es es' age is honest lives some only = all_same M Only es es' is only
    only_after (found call ran ∷ h) es es' age (mid, does, rest) honest lives some only = only_after h mid es' age rest (All-tail (Honest M) (found call ran) h honest) lives (aged_same M (Of key m) age es mid does.1 some) (all_same M Only es mid does.1 only)
    only_after (touched call ∷ h) es es' age (mid, does, rest) honest (inl lives) some only = only_after h mid es' age rest (All-tail (Honest M) (touched call) h honest) lives (aged_touched M (Of key m) age call es mid does some) (all_touched M Only (λ e age o. o) call es mid does only)
    only_after (touched call ∷ h) es es' age (mid, does, rest) honest (inr never) some only = absurd never.0
    only_after (missed call ∷ h) es es' age (mid, does, rest) honest lives some only = only_after h mid es' age rest (All-tail (Honest M) (missed call) h honest) lives (aged_same M (Of key m) age es mid does.1 some) (all_same M Only es mid does.1 only)
    only_after (ended call ran end ∷ h) es es' age (mid, does, rest) honest lives some only =
        let now = Any-weaker (Aged M (Of key m) age) (OfEntry key m) (λ e a. a.0) es some in
        let own = All-head (Honest M) (ended call ran end) h honest in
        let new = λ (is : end ≡ how.Stored) (stores : Stores M es ran mid). only_stored call ran es mid (own (λ late. let f : how.Late ≡ how.Stored = sym late ∙ is in cc)) stores now only in
        only_after h mid es' age rest (All-tail (Honest M) (ended call ran end) h honest) lives (aged_ended M (Of key m) age ran end es mid does some) (all_ended M Only ran end es mid new does only)
    only_after (evicted bound ∷ h) es es' age (mid, does, rest) honest lives some only = only_after h mid es' (age + 1) rest (All-tail (Honest M) (evicted bound) h honest) lives.1 (aged_evicted M (Of key m) age bound es mid lives.0 does some) (all_evicted M Only (λ e age o. o) bound es mid does only)

  pub hits_again : HitsAgain M
  hits_again call later ran h before es after stores is honest lives again =
      let x = stores.2 in
      let e : Stored K C R (Kept O C) = stored x.adds.own x.adds.path x.kept in
      let key = later.key in
      let m = later.answers in
      let own_key = joined laws.keys x.adds.own ran.key key x.adds.is_key (turned laws.keys key ran.key again.has_key) in
      let agrees = agrees_stored_path laws.answers m again.alike (under M.same_key before ran.key) ran.pairs x.adds.path x.adds.is_new again.agrees in
      let P : Stored K C R (Kept O C) → Type 0 = Aged M (Of key m) 0 in
      let some : Any P es = any_permutation P (e ∷ before) es x.adds.entries (Any-here P e before ((own_key, agrees), omega (arith, x.is_new))) in
      let Q : O → List C → Type 0 = λ output writes. M.is_clone ran.output output × SameWrites M.same_call ran.writes writes in
      let L : Stored K C R (Kept O C) → Type 0 = Only Q key m again.alike in
      let part = others_part M laws.answers ran before es m again.alike stores again.agrees in
      let old : All L before = λ k d l has_key a. absurd (part k d l (joined laws.keys (get_or before k d).key key ran.key has_key again.has_key) a) in
      let only : All L es = All-permutation L (e ∷ before) es x.adds.entries (All-cons L e before (λ _ _. (x.is_clone, x.same_writes)) old) in
      let last = only_after Q key m again.alike h es after 0 is honest lives some only in (
        not_none after later (outlived M (Of key m) h es after 0 is lives some),
        λ copy has.
            let f = Any-from_under M.same_key after key (IsEntryOf M m copy) has in
            let own : L f.1 = subst L f.3 (last f.0 f.1 f.2) in
            let q = own f.4.0 f.4.1.0 in
            (f.1.value.output, q.0, f.4.1.2, SameWrites-joined laws.calls ran.writes f.1.value.writes copy.writes q.1 f.4.1.3),
      )

  pub hits_existing : HitsExisting M
  hits_existing call ran before es does =
      let h = Any-from_under M.same_key before ran.key (λ e. AllAmong M.same_call M.same_answer ran.pairs e.path) does.0 in (
        h.1.value.age,
        λ later steps after is lives again.
            let P : Stored K C R (Kept O C) → Type 0 = Aged M (Of later.key later.answers) h.1.value.age in
            let own_key = joined laws.keys h.1.key ran.key later.key h.4.0 (turned laws.keys later.key ran.key again.has_key) in
            let agrees = agrees_among laws.answers later.answers again.alike ran.pairs h.1.path again.agrees h.4.1 in
            let some : Any P es = subst (λ xs. Any P xs) (sym does.1) (h.0, h.1, h.2, h.3, ((own_key, agrees), omega arith)) in
            not_none after later (outlived M (Of later.key later.answers) steps es after h.1.value.age is lives some),
      )

  -- Of replies, whatever their sinks.
  -- a reply `Stored` is that of such a step, and what answers the reply's run answers the step's
  stored_step : {sent : List (C × R) → List C → Type 0} (call later : Invocation K C R) (es mid es1 : Entries K C R O) (reply : Reply O) → (is : IsReply M call es mid sent reply es1) → reply.how ≡ how.Stored → Answers M later (run call.key is.pairs reply.output is.writes) → (own : K) × Does M (ended call (run own is.pairs reply.output is.writes) how.Stored) mid es1 × Answers M later (run own is.pairs reply.output is.writes)
  stored_step call later es mid es1 reply is stored_it again = elim is.came [
    | inl hit ↦ let f : how.Hit ≡ how.Stored = sym hit.0 ∙ stored_it in cc
    | inr by ↦ (
      by.own,
      subst (λ e. Ends M mid (run by.own is.pairs reply.output is.writes) e es1) stored_it by.ends,
      record {
        alike = again.alike;
        has_key = joined laws.keys later.key call.key by.own again.has_key by.has_key;
        agrees = again.agrees;
        stands = λ m r a. laws.by_key call.key by.own m reply.output is.writes r by.has_key (is.stands m r a);
      },
    )
  ]

  pub replies_again : {sent sends : List (C × R) → List C → Type 0} (call later : Invocation K C R) (h : List (Step K C R O)) (es mid es1 es2 mid2 es3 : Entries K C R O) (first second : Reply O) → (is : IsReply M call es mid sent first es1) → first.how ≡ how.Stored → History M h es1 es2 → All (Honest M) h → Outlives M (λ _. ⊥) 0 h → Answers M later (run call.key is.pairs first.output is.writes) → later.enabled ≡ true → (next : IsReply M later es2 mid2 sends second es3) → (second.how ≡ how.Hit) × IsCopy M (run call.key is.pairs first.output is.writes) (run later.key next.pairs second.output next.writes)
  replies_again call later h es mid es1 es2 mid2 es3 first second is stored_it goes honest lives again enabled next =
      let step = stored_step call later es mid es1 first is stored_it again in
      let finds = hits_again call later (run step.0 is.pairs first.output is.writes) h mid es1 es2 step.1 goes honest lives step.2 in
      elim next.came [
        | inl hit ↦ (hit.0, finds.1 (run later.key next.pairs second.output next.writes) hit.1.kept)
        | inr by2 ↦ absurd (finds.0 (by2.none enabled))
      ]

  pub hits_replay : {V : Type 0} (did : V → V → List C → Type 0) → HitsReplay M did
  hits_replay did call later h es mid es1 es2 mid2 es3 first second v w x y is stored_it goes honest lives again enabled next =
      let q = replies_again call later h es mid es1 es2 mid2 es3 first second is stored_it goes honest lives again enabled next in
      (q.0, is.gives.are_sent, next.gives.are_sent, q.1)

  -- what the reply's run answers
  pub again_of : (key : K) (later : Invocation K C R) (pairs : List (C × R)) (output : O) (writes : List C) → IsTrue (M.same_key key later.key) → Respects M.same_call M.same_answer later.answers → Agrees M.same_answer later.answers pairs → ((m : C → R) → Respects M.same_call M.same_answer m → Agrees M.same_answer m pairs → M.right key m output writes) → Answers M later (run key pairs output writes)
  again_of key later pairs output writes same_key alike agrees stands = record { alike = alike; has_key = turned laws.keys key later.key same_key; agrees = agrees; stands = stands }

  -- Two calls in turn of a function that writes.
  pub replay_twice : {V : Type 0} (did : V → V → List C → Type 0) (touches : C → C → Bool) (call later : Invocation K C R) (es mid es1 mid2 es3 : Entries K C R O) (first second : Reply O) (v w x y : V) → IsReplyMut M call touches es mid (λ _ _ W. did v w W) first es1 → first.how ≡ how.Stored → IsTrue (M.same_key call.key later.key) → Respects M.same_call M.same_answer later.answers → later.answers ≡ call.answers → later.enabled ≡ true → IsReplyMut M later touches es1 mid2 (λ _ _ W. did x y W) second es3 → (second.how ≡ how.Hit) × (U : List C) × (W : List C) × did v w U × did x y W × SameWrites M.same_call U W
  replay_twice did touches call later es mid es1 mid2 es3 first second v w x y one stored_it same_key alike same enabled two = elim one [
    | inl is ↦
        let agrees = subst (λ m. Agrees M.same_answer m is.pairs) (sym same) is.agrees in
        let again = again_of call.key later is.pairs first.output is.writes same_key alike agrees is.stands in
        elim two [
          | inl next ↦
              let q = replies_again call later [] es mid es1 es1 mid2 es3 first second is stored_it refl (All-nil (Honest M)) tt again enabled next in
              (q.0, is.writes, next.writes, is.gives.are_sent, next.gives.are_sent, q.1.3)
          | inr late ↦
              let step = stored_step call later es mid es1 first is stored_it again in
              absurd ((hits_again call later (run step.0 is.pairs first.output is.writes) [] mid es1 es1 step.1 refl (All-nil (Honest M)) tt step.2).0 (late.none enabled))
        ]
    | inr late ↦ let f : how.Late ≡ how.Stored = sym late.is_late ∙ stored_it in cc
  ]
