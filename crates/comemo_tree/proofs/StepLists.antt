-- Lemmas on lists of steps.
use Rattle.std.proofs.Common.{◌≡◌, ◌⊎◌, ◌↔◌, inl, inr, Bool, List, [], ◌∷◌, ◌++◌, refl, sym, ap, ◌∙◌, IsTrue, subst, append_assoc, append-nil}
use Rattle.std.specs.List.{Any}
use Rattle.std.specs.List.Sorted.{IsPermutation}
use Rattle.std.proofs.lemmas.List.Elements.{All-head, All-tail}
use Rattle.std.proofs.lemmas.List.Sorted.{Contains-permutation, IsPermutation-sym}
use Rattle.std.specs.Cmp.{IsEquivalence}
use Rattle.comemo_base.specs.Tree.{Stored, stored}
use Rattle.comemo_base.specs.Lookup.{under}
use Rattle.comemo_base.proofs.Paths.{joined}
use Rattle.comemo_base.proofs.Under.{Any-here, Any-later, Any-split, none-from_nothing, Any-under, Any-from_under}
use Rattle.comemo_base.specs.Sets.{HasSamePairs, HasSet, AddsSet}
use Rattle.comemo_tree.specs.StepLists.{IsStep, AreSteps, InsertsSet, IsInsert, FoundRoom, StoresAllSets, StaysThrough, KeepsSets}
use Rattle.comemo_tree.specs.declared.steps.TreeOp.{TreeOp}
use Rattle.comemo_tree.specs.declared.steps.TreeOp.TheVariants.{Insert, Retain}
use Rattle.comemo_tree.specs.declared.steps.TreeReply.{TreeReply}
use Rattle.comemo_tree.specs.declared.steps.TreeReply.TheVariants.{Inserted, AlreadyExists, Memory, Retained}
use Rattle.comemo_tree.proofs.Left.{Any-left}
use Rattle.comemo_base.proofs.Sets.{HasSamePairs-turned, HasSamePairs-joined}

module _ {K C R T P : Type 0} (eq : C → C → Bool) (same : R → R → Bool) (eqk : K → K → Bool) (keeps : P → T → Bool → T → Type 0) where
  -- some steps were done, with their replies: from now on what is left of the steps completes all of them
  abbrev pub Completes : List (TreeOp K C R T P) → List (Stored K C R T) → List (TreeOp K C R T P) → List TreeReply → List (Stored K C R T) → Type 0
  Completes all old left done now = (replies : List TreeReply) (new : List (Stored K C R T)) → AreSteps eq same eqk keeps left replies now new → AreSteps eq same eqk keeps all (done ++ replies) old new

  pub Completes-first : (all left : List (TreeOp K C R T P)) (old : List (Stored K C R T)) (done : List TreeReply) → done ≡ [] → left ≡ all → Completes all old left done old
  Completes-first all left old done none is replies new h = rw (none, ← is) h

  pub Completes-step : (all left left' : List (TreeOp K C R T P)) (old now now' : List (Stored K C R T)) (done done' : List TreeReply) (op : TreeOp K C R T P) (reply : TreeReply) → left ≡ op ∷ left' → done' ≡ done ++ reply ∷ [] → IsStep eq same eqk keeps op reply now now' → Completes all old left done now → Completes all old left' done' now'
  Completes-step all left left' old now now' done done' op reply first more step h replies new k =
      let whole = rw first at h in
      subst (λ rs. AreSteps eq same eqk keeps all rs old new) (sym (ap (λ (rs : List TreeReply). rs ++ replies) more ∙ append_assoc done (reply ∷ []) replies)) (whole (reply ∷ replies) new (now', step, k))

  pub Completes-last : (all left : List (TreeOp K C R T P)) (old now : List (Stored K C R T)) (done : List TreeReply) → left ≡ [] → Completes all old left done now → AreSteps eq same eqk keeps all done old now
  Completes-last all left old now done none h =
      let whole = rw none at h in
      subst (λ rs. AreSteps eq same eqk keeps all rs old now) (append-nil done) (whole [] now refl)

Any-permutation : {X : Type 0} (P : X → Type 0) (xs ys : List X) → IsPermutation xs ys → Any P xs → Any P ys
Any-permutation P xs ys moved found =
    let there = Contains-permutation xs ys found.1 moved (found.0, found.2, found.3) in
    (there.0, found.1, there.1, there.2, found.4)

module _ {K C R T : Type 0} {eq : C → C → Bool} {same : R → R → Bool} {eqk : K → K → Bool} (calls : IsEquivalence eq) (answers : IsEquivalence same) (keys : IsEquivalence eqk) where
  -- the set is there under the key, said of all entries
  abbrev HasAnywhere : List (Stored K C R T) → K → List (C × R) → Type 0
  HasAnywhere es k ps = Any (λ e. IsTrue (eqk e.key k) × HasSamePairs eq same e.path ps) es

  HasSet-anywhere : (es : List (Stored K C R T)) (k : K) (ps : List (C × R)) → HasAnywhere es k ps → HasSet eq same (under eqk es k) ps
  HasSet-anywhere es k ps h = Any-under eqk es k (λ e. HasSamePairs eq same e.path ps) h

  anywhere : (es : List (Stored K C R T)) (k : K) (ps : List (C × R)) → HasSet eq same (under eqk es k) ps → HasAnywhere es k ps
  anywhere es k ps h = Any-from_under eqk es k (λ e. HasSamePairs eq same e.path ps) h

  -- the sets after one was added
  HasSet-before : (key k : K) (s ps : List (C × R)) (value : T) (old new : List (Stored K C R T)) → AddsSet eq same eqk key s value old new → HasSet eq same (under eqk new k) ps → HasSet eq same (under eqk old k) ps ⊎ (IsTrue (eqk key k) × HasSamePairs eq same s ps)
  HasSet-before key k s ps value old new adds has =
      let Q : Stored K C R T → Type 0 = λ e. IsTrue (eqk e.key k) × HasSamePairs eq same e.path ps in
      let entry = stored adds.own adds.path value in
      elim (Any-split Q entry old (Any-permutation Q new (entry ∷ old) (IsPermutation-sym _ _ adds.added) (anywhere new k ps has))) [
        | inl h ↦ inr (sym (keys.congr adds.own key k adds.is_key) ∙ h.0, HasSamePairs-joined calls answers s adds.path ps (HasSamePairs-turned calls answers adds.path s adds.pairs) h.1)
        | inr h ↦ inl (HasSet-anywhere old k ps h)
      ]

  HasSet-after : (key k : K) (s ps : List (C × R)) (value : T) (old new : List (Stored K C R T)) → AddsSet eq same eqk key s value old new → HasSet eq same (under eqk old k) ps ⊎ (IsTrue (eqk key k) × HasSamePairs eq same s ps) → HasSet eq same (under eqk new k) ps
  HasSet-after key k s ps value old new adds has =
      let Q : Stored K C R T → Type 0 = λ e. IsTrue (eqk e.key k) × HasSamePairs eq same e.path ps in
      let entry = stored adds.own adds.path value in
      HasSet-anywhere new k ps (
      Any-permutation Q (entry ∷ old) new adds.added (
      elim has [
        | inl h ↦ Any-later Q entry old (anywhere old k ps h)
        | inr h ↦ Any-here Q entry old (joined keys adds.own key k adds.is_key h.0, HasSamePairs-joined calls answers adds.path s ps adds.pairs h.1)
      ]))

  HasSet-alike : (key k : K) (s ps : List (C × R)) (es : List (Stored K C R T)) → HasSet eq same (under eqk es key) s → IsTrue (eqk key k) → HasSamePairs eq same s ps → HasSet eq same (under eqk es k) ps
  HasSet-alike key k s ps es there e h =
      let has = anywhere es key s there in
      HasSet-anywhere es k ps (has.0, has.1, has.2, has.3, (joined keys has.1.key key k has.4.0 e, HasSamePairs-joined calls answers has.1.path s ps has.4.1 h))

  module _ {P : Type 0} (keeps : P → T → Bool → T → Type 0) where
    -- a step that inserts, and finds room, adds its set where it was not there, and nothing else
    step_sets : (op : TreeOp K C R T P) (reply : TreeReply) (old new : List (Stored K C R T)) → IsStep eq same eqk keeps op reply old new → IsInsert op → FoundRoom reply → (k : K) (ps : List (C × R)) → HasSet eq same (under eqk new k) ps ↔ (HasSet eq same (under eqk old k) ps ⊎ InsertsSet eq same eqk k ps op)
    step_sets (Insert key s value) Inserted old new step i f k ps = (λ h. HasSet-before key k s.pairs ps value old new step h, λ h. HasSet-after key k s.pairs ps value old new step h)
    step_sets (Insert key s value) AlreadyExists old new step i f k ps = (
      λ h. inl (subst (λ (es : List (Stored K C R T)). HasSet eq same (under eqk es k) ps) step.1 h),
      λ h. subst (λ (es : List (Stored K C R T)). HasSet eq same (under eqk es k) ps) (sym step.1) (elim h [ inl o ↦ o | inr w ↦ HasSet-alike key k s.pairs ps old step.0 w.0 w.1 ]),
    )
    step_sets (Insert key s value) Memory old new step i f k ps = absurd f
    step_sets (Insert key s value) Retained old new step i f k ps = absurd step
    step_sets (Retain keep) reply old new step i f k ps = absurd i

    pub StoresAllSets-steps : (ops : List (TreeOp K C R T P)) (replies : List TreeReply) (old new : List (Stored K C R T)) → AreSteps eq same eqk keeps ops replies old new → StoresAllSets eq same eqk ops replies old new
    StoresAllSets-steps [] [] old new h a b k ps = (
      λ has. inl (subst (λ (es : List (Stored K C R T)). HasSet eq same (under eqk es k) ps) h has),
      λ has. subst (λ (es : List (Stored K C R T)). HasSet eq same (under eqk es k) ps) (sym h) (elim has [ inl o ↦ o | inr w ↦ absurd (none-from_nothing (InsertsSet eq same eqk k ps) refl w) ]),
    )
    StoresAllSets-steps [] (r ∷ rs) old new h a b k ps = absurd h
    StoresAllSets-steps (op ∷ ops) [] old new h a b k ps = absurd h
    StoresAllSets-steps (op ∷ ops) (r ∷ rs) old new h a b k ps =
        let Q : TreeOp K C R T P → Type 0 = InsertsSet eq same eqk k ps in
        let first = step_sets op r old h.0 h.1 (All-head IsInsert op ops a) (All-head FoundRoom r rs b) k ps in
        let rest = StoresAllSets-steps ops rs h.0 new h.2 (All-tail IsInsert op ops a) (All-tail FoundRoom r rs b) k ps in (
          λ has. elim (rest.0 has) [
            | inl there ↦ elim (first.0 there) [ inl o ↦ inl o | inr w ↦ inr (Any-here Q op ops w) ]
            | inr w ↦ inr (Any-later Q op ops w)
          ],
          λ has. rest.1 (elim has [
            | inl o ↦ inl (first.1 (inl o))
            | inr w ↦ elim (Any-split Q op ops w) [ inl here ↦ inl (first.1 (inr here)) | inr later ↦ inr later ]
          ]),
        )

module _ {K C R T P : Type 0} (eq : C → C → Bool) (same : R → R → Bool) (eqk : K → K → Bool) (keeps : P → T → Bool → T → Type 0) (key : K) (ps : List (C × R)) where
  abbrev Stays : List (TreeOp K C R T P) → Stored K C R T → Type 0
  Stays ops e = (IsTrue (eqk e.key key) × HasSamePairs eq same e.path ps) × StaysThrough eq same eqk keeps ops e.value

  stays_step : (op : TreeOp K C R T P) (ops : List (TreeOp K C R T P)) (reply : TreeReply) (old new : List (Stored K C R T)) → IsStep eq same eqk keeps op reply old new → Any (Stays (op ∷ ops)) old → Any (Stays ops) new
  stays_step (Insert k s value) ops Inserted old new step found =
      Any-permutation (Stays ops) (stored step.own step.path value ∷ old) new step.added (Any-later (Stays ops) (stored step.own step.path value) old found)
  stays_step (Insert k s value) ops AlreadyExists old new step found = subst (λ xs. Any (Stays ops) xs) (sym step.1) found
  stays_step (Insert k s value) ops Memory old new step found = subst (λ xs. Any (Stays ops) xs) (sym step) found
  stays_step (Insert k s value) ops Retained old new step found = absurd step
  stays_step (Retain keep) ops Inserted old new step found = absurd step
  stays_step (Retain keep) ops AlreadyExists old new step found = absurd step
  stays_step (Retain keep) ops Memory old new step found = absurd step
  stays_step (Retain keep) ops Retained old new step found =
      Any-permutation (Stays ops) step.0 new step.2 (Any-left (λ k path. IsTrue (eqk k key) × HasSamePairs eq same path ps) (StaysThrough eq same eqk keeps ops) (keeps keep) old step.0 step.1 found)

  stays_steps : (ops : List (TreeOp K C R T P)) (replies : List TreeReply) (old new : List (Stored K C R T)) → AreSteps eq same eqk keeps ops replies old new → Any (Stays ops) old → Any (λ e. IsTrue (eqk e.key key) × HasSamePairs eq same e.path ps) new
  stays_steps [] [] old new h found =
      let there : Any (λ e. IsTrue (eqk e.key key) × HasSamePairs eq same e.path ps) old = (found.0, found.1, found.2, found.3, found.4.0) in
      subst (λ (es : List (Stored K C R T)). Any (λ e. IsTrue (eqk e.key key) × HasSamePairs eq same e.path ps) es) (sym h) there
  stays_steps [] (r ∷ rs) old new h found = absurd h
  stays_steps (op ∷ ops) [] old new h found = absurd h
  stays_steps (op ∷ ops) (r ∷ rs) old new h found = stays_steps ops rs h.0 new h.2 (stays_step op ops r old h.0 h.1 found)

pub KeepsSets-steps : {K C R T P : Type 0} (eq : C → C → Bool) (same : R → R → Bool) (eqk : K → K → Bool) (keeps : P → T → Bool → T → Type 0) (ops : List (TreeOp K C R T P)) (replies : List TreeReply) (old new : List (Stored K C R T)) → AreSteps eq same eqk keeps ops replies old new → KeepsSets eq same eqk keeps ops old new
KeepsSets-steps eq same eqk keeps ops replies old new h key ps found =
    let Q = λ (e : Stored _ _ _ _). HasSamePairs eq same e.path ps × StaysThrough eq same eqk keeps ops e.value in
    let there = Any-from_under eqk old key Q found in
    Any-under eqk new key (λ e. HasSamePairs eq same e.path ps) (stays_steps eq same eqk keeps key ps ops replies old new h (there.0, there.1, there.2, there.3, ((there.4.0, there.4.1.0), there.4.1.1)))
