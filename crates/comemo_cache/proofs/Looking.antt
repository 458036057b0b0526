-- What a look-up among reads asks of an input, and what it finds.
use Rattle.std.proofs.Common.{◌≡◌, ◌∙◌, ◌⊎◌, inl, inr, suc, Bool, false, List, [], ◌∷◌, IsTrue, Option, Some, None, Result, Ok, Err, IfOk, IfErr, OnErr, option_map, subst, arith}
use Rattle.std.proofs.lemmas.List.Elements.{All-nil, All-push}
use Rattle.std.specs.List.{All, Any}
use Rattle.std.specs.Cmp.{IsEquivalence}
use Rattle.std.specs.Fn.{Mut, CalledAt}
use Rattle.std.specs.declared.alloc.AllocError.{AllocError}
use denote.Ref.{Bor}
use Rattle.comemo_base.specs.Answers.{Respects, Agrees}
use Rattle.comemo_base.specs.Tree.{Stored, IsTree}
use Rattle.comemo_base.specs.Lookup.{under, IsNext, IsAsked, IsRefused, Answered, LooksUp, LooksUpPath, IsLookupRefused, FindsAgreeing, FindsAgreeingPath}
use Rattle.comemo_base.proofs.Paths.{Agrees-same, FindsAgreeing-from_asked, FindsAgreeingPath-from_asked}
use Rattle.comemo_cache.proofs.Entries.{All-cons, reads_same}

module _ {C R : Type 0} (eq : C → C → Bool) (same : R → R → Bool) (w : C → Bool) (kind : (x y : C) → IsTrue (eq x y) → w x ≡ w y) where
  -- a prefix of reads and the next call, which is a read too
  reads_next : (prefix : List (C × R)) (call : C) (path : List (C × R)) → IsNext eq same prefix call path → All (λ p. w p.0 ≡ false) path → All (λ p. w p.0 ≡ false) prefix × (w call ≡ false)
  reads_next prefix call [] k h = absurd k
  reads_next [] call (q ∷ qs) k h = (All-nil (λ p. w p.0 ≡ false), kind call q.0 k ∙ h 0 q (omega arith))
  reads_next (p ∷ ps) call (q ∷ qs) k h =
      let rest = reads_next ps call qs k.2 (λ j d l. h (suc j) d (omega arith)) in
      (All-cons (λ p. w p.0 ≡ false) p ps (kind p.0 q.0 k.0 ∙ h 0 q (omega arith)) rest.0, rest.1)

  module _ {K T : Type 0} (us : List (Stored K C R T)) (reads : All (λ e. All (λ p. w p.0 ≡ false) e.path) us) where
    reads_of : {P : Stored K C R T → Type 0} (some : Any P us) → All (λ p. w p.0 ≡ false) some.1.path
    reads_of some = subst (λ e. All (λ p. w p.0 ≡ false) e.path) some.3 (reads some.0 some.1 some.2)

    -- what is asked among reads is reads
    pub reads_asked : (asked : List (C × R)) (r : Option T) → IsAsked eq same us asked r → All (λ p. w p.0 ≡ false) asked
    reads_asked asked (Some v) k = reads_same eq same w kind asked k.1.path k.4.0 (reads_of k)
    reads_asked asked None k =
        elim k.1 [
          | inl is ↦ rw is (All-nil (λ p. w p.0 ≡ false))
          | inr along ↦
              let both = reads_next along.prefix along.last.0 along.next.1.path along.next.4 (reads_of along.next) in
              rw along.splits (All-push (λ p. w p.0 ≡ false) along.prefix along.last both.0 both.1)
        ]

    pub reads_refused : (asked : List (C × R)) (call : C) → IsRefused eq same us asked call → All (λ p. w p.0 ≡ false) asked
    reads_refused asked call k = (reads_next asked call k.1.path k.4 (reads_of k)).0

module _ {O C R : Type 0} (g : Mut O (Bor C × Unit {0}) (Result R AllocError)) {eq : C → C → Bool} {same : R → R → Bool} (calls : IsEquivalence eq) (answers : IsEquivalence same) (w : C → Bool) (kind : (x y : C) → IsTrue (eq x y) → w x ≡ w y) (m : C → R) (respects : Respects eq same m)
    (I : O → Type 0) (step : (f f' : O) (call : C) (r : R) → I f → w call ≡ false → CalledAt g f call (Ok r) f' → IsTrue (same (m call) r) × I f') where
  -- reads that were answered as the map does are pairs that it agrees with
  pub answered_agrees : (asked : List (C × R)) (f f' : O) → I f → All (λ p. w p.0 ≡ false) asked → Answered g f asked f' → Agrees same m asked
  answered_agrees [] f f' i reads h = tt
  answered_agrees (p ∷ asked) f f' i reads h =
      let one = step f h.0 p.0 p.1 i (reads 0 p (omega arith)) h.1 in
      (one.0, answered_agrees asked h.0 f' one.1 (λ j d l. reads (suc j) d (omega arith)) h.2)

  module _ {K T : Type 0} {eqk : K → K → Bool} (keys : IsEquivalence eqk) (es : List (Stored K C R T)) (key : K) (reads : All (λ e. All (λ p. w p.0 ≡ false) e.path) (under eqk es key)) (tree : IsTree eq same eqk es) (f f' : O) (i : I f) where
    path_found : (r : Option (List (C × R) × T)) → LooksUpPath g eq same (under eqk es key) f f' r → FindsAgreeingPath eq same (under eqk es key) m r
    path_found None h = FindsAgreeing-from_asked calls answers m respects keys es key h.asked None tree (answered_agrees h.asked f f' i (reads_asked eq same w kind (under eqk es key) reads h.asked None h.finds) h.answered) h.finds
    path_found (Some (path, v)) h = FindsAgreeingPath-from_asked calls answers m respects (under eqk es key) h.asked path v (answered_agrees h.asked f f' i (reads_asked eq same w kind (under eqk es key) reads h.asked (Some v) h.finds) h.answered) h.finds h.path

    pub finds : {B : Type 0} (value : B → List (C × R) × T) (r : Result (Option B) AllocError) → IfOk r (λ found. LooksUpPath g eq same (under eqk es key) f f' (option_map value found)) → IfOk r (λ found. FindsAgreeingPath eq same (under eqk es key) m (option_map value found))
    finds value (Ok found) h = path_found (option_map value found) h
    finds value (Err e) h = tt

    asked_so : (r : Option (List (C × R) × T)) → LooksUpPath g eq same (under eqk es key) f f' r → (asked : List (C × R)) × Agrees same m asked × IsAsked eq same (under eqk es key) asked (option_map (λ found. found.1) r)
    asked_so r h = (h.asked, answered_agrees h.asked f f' i (reads_asked eq same w kind (under eqk es key) reads h.asked (option_map (λ found. found.1) r) h.finds) h.answered, h.finds)

    pub asks : {B : Type 0} (value : B → List (C × R) × T) (r : Result (Option B) AllocError) → IfOk r (λ found. LooksUpPath g eq same (under eqk es key) f f' (option_map value found)) → IfOk r (λ found. (asked : List (C × R)) × Agrees same m asked × IsAsked eq same (under eqk es key) asked (option_map (λ b. (value b).1) found))
    asks value (Ok None) h = asked_so None h
    asks value (Ok (Some b)) h = asked_so (Some (value b)) h
    asks value (Err e) h = tt

    pub refuses : {B : Type 0} (r : Result B AllocError) → IfErr r (λ e. IsLookupRefused g eq same (under eqk es key) f e f' ⊎ ((v : T) × LooksUp g eq same (under eqk es key) f f' (Some v))) → OnErr r (((asked : List (C × R)) × (next : C) × Agrees same m asked × IsRefused eq same (under eqk es key) asked next) ⊎ Any (λ e. Agrees same m e.path) (under eqk es key))
    refuses (Ok b) h = tt
    refuses (Err e) (inl h) = inl (h.asked, h.call, answered_agrees h.asked f h.at i (reads_refused eq same w kind (under eqk es key) reads h.asked h.call h.refused) h.answered, h.refused)
    refuses (Err e) (inr (v, h)) =
        let a = answered_agrees h.asked f f' i (reads_asked eq same w kind (under eqk es key) reads h.asked (Some v) h.finds) h.answered in
        let k = h.finds in
        inr (k.0, k.1, k.2, k.3, Agrees-same calls answers m respects h.asked k.1.path k.4.0 a)

    -- so it is without the path
    pub gets : {B : Type 0} (value : B → T) (r : Result (Option B) AllocError) → IfOk r (λ found. LooksUp g eq same (under eqk es key) f f' (option_map value found)) → IfOk r (λ found. FindsAgreeing eq same (under eqk es key) m (option_map value found))
    gets value (Ok found) h = FindsAgreeing-from_asked calls answers m respects keys es key h.asked (option_map value found) tree (answered_agrees h.asked f f' i (reads_asked eq same w kind (under eqk es key) reads h.asked (option_map value found) h.finds) h.answered) h.finds
    gets value (Err e) h = tt

    pub asks_value : {B : Type 0} (value : B → T) (r : Result (Option B) AllocError) → IfOk r (λ found. LooksUp g eq same (under eqk es key) f f' (option_map value found)) → IfOk r (λ found. (asked : List (C × R)) × Agrees same m asked × IsAsked eq same (under eqk es key) asked (option_map value found))
    asks_value value (Ok found) h = (h.asked, answered_agrees h.asked f f' i (reads_asked eq same w kind (under eqk es key) reads h.asked (option_map value found) h.finds) h.answered, h.finds)
    asks_value value (Err e) h = tt

    pub refuses_answer : {B : Type 0} (r : Result B AllocError) → IfErr r (λ e. IsLookupRefused g eq same (under eqk es key) f e f') → OnErr r ((asked : List (C × R)) × (next : C) × Agrees same m asked × IsRefused eq same (under eqk es key) asked next)
    refuses_answer (Ok b) h = tt
    refuses_answer (Err e) h = (h.asked, h.call, answered_agrees h.asked f h.at i (reads_refused eq same w kind (under eqk es key) reads h.asked h.call h.refused) h.answered, h.refused)
