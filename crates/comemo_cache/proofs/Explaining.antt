-- What a look-up that notes what it asks comes to know.
use Rattle.std.proofs.Common.{◌≡◌, ◌∙◌, inl, inr, Bool, true, false, is_some, List, [], ◌∷◌, ◌++◌, IsTrue, Option, Some, None, Result, Ok, Err, IfOk, option_map, refl, sym, ap, subst, arith}
use Rattle.std.proofs.Math.Seq.{append_snoc}
use Rattle.std.proofs.lemmas.List.{append-nil}
use Rattle.std.specs.List.{All, Any}
use Rattle.std.specs.Cmp.{IsEquivalence}
use Rattle.std.specs.Fn.{Mut, CalledAt}
use Rattle.std.specs.declared.alloc.AllocError.{AllocError}
use denote.Ref.{Bor}
use Rattle.comemo_base.specs.Answers.{Respects, Agrees}
use Rattle.comemo_base.specs.Tree.{Stored, IsSamePath, IsPrefix}
use Rattle.comemo_base.specs.Lookup.{under, Answered, IsNext, IsAsked, LooksUp, FindsAgreeing}
use Rattle.comemo_base.proofs.Paths.{joined, turned, Agrees-same}
use Rattle.comemo_cache.proofs.Looking.{reads_asked, answered_agrees}

-- each call that was answered is noted, up to equality
module _ {O C R : Type 0} (g : Mut O (Bor C × Unit {0}) (Result R AllocError)) (eq : C → C → Bool) (same : R → R → Bool) (notes : O → List (C × R))
    (step : (f f' : O) (x : C) (r : R) → CalledAt g f x (Ok r) f' → (copy : C × R) × (notes f' ≡ notes f ++ copy ∷ []) × IsTrue (eq x copy.0) × IsTrue (same r copy.1)) where
  pub noted : (asked : List (C × R)) (f f' : O) → Answered g f asked f' → (copies : List (C × R)) × (notes f' ≡ notes f ++ copies) × IsSamePath eq same asked copies
  noted [] f f' h = ([], sym (ap notes h) ∙ sym (append-nil (notes f)), tt)
  noted (p ∷ asked) f f' h =
      let one = step f h.0 p.0 p.1 h.1 in
      let rest = noted asked h.0 f' h.2 in
      (one.0 ∷ rest.0, rest.1 ∙ (ap (λ xs. xs ++ rest.0) one.1 ∙ append_snoc (notes f) one.0 rest.0), (one.2, one.3, rest.2))

module _ {C R : Type 0} {eq : C → C → Bool} {same : R → R → Bool} (calls : IsEquivalence eq) (answers : IsEquivalence same) where
  -- the same pairs begin the same paths
  prefix_same : (ps qs path : List (C × R)) → IsSamePath eq same ps qs → IsPrefix eq same qs path → IsPrefix eq same ps path
  prefix_same [] qs path s k = tt
  prefix_same (p ∷ ps) [] path s k = absurd s
  prefix_same (p ∷ ps) (q ∷ qs) [] s k = absurd k
  prefix_same (p ∷ ps) (q ∷ qs) (x ∷ path) s k = (joined calls p.0 q.0 x.0 s.0 k.0, joined answers p.1 q.1 x.1 s.1 k.1, prefix_same ps qs path s.2 k.2)

  nothing_more : (qs : List (C × R)) (next : C × R) → IsSamePath eq same [] (qs ++ next ∷ []) → ⊥
  nothing_more [] next s = s
  nothing_more (q ∷ qs) next s = s

  more_than_nothing : (ps : List (C × R)) (last : C × R) → IsSamePath eq same (ps ++ last ∷ []) [] → ⊥
  more_than_nothing [] last s = s
  more_than_nothing (p ∷ ps) last s = s

  -- and go on with the same calls
  next_same : (ps qs path : List (C × R)) (last next : C × R) → IsSamePath eq same (ps ++ last ∷ []) (qs ++ next ∷ []) → IsNext eq same ps last.0 path → IsNext eq same qs next.0 path
  next_same ps qs [] last next s k = absurd k
  next_same [] [] (x ∷ path) last next s k = joined calls next.0 last.0 x.0 (turned calls last.0 next.0 s.0) k
  next_same [] (q ∷ qs) (x ∷ path) last next s k = absurd (nothing_more qs next s.2)
  next_same (p ∷ ps) [] (x ∷ path) last next s k = absurd (more_than_nothing ps last s.2)
  next_same (p ∷ ps) (q ∷ qs) (x ∷ path) last next s k =
      (joined calls q.0 p.0 x.0 (turned calls p.0 q.0 s.0) k.0, joined answers q.1 p.1 x.1 (turned answers p.1 q.1 s.1) k.1, next_same ps qs path last next s.2 k.2)

  module _ {K T : Type 0} where
    -- a look-up that asked nothing and found nothing had no path to ask along
    pub nothing_kept : (us : List (Stored K C R T)) (asked : List (C × R)) → (let none : Option T = None in IsAsked eq same us asked none) → IsSamePath eq same asked [] → us ≡ []
    nothing_kept [] asked k s = refl
    nothing_kept (u ∷ us) [] k s = absurd (k.0 0 u (omega arith) tt)
    nothing_kept (u ∷ us) (p ∷ asked) k s = absurd s

    -- one that found nothing parts from the paths at the last call that it asked
    pub parts_at : (us : List (Stored K C R T)) (asked notes : List (C × R)) (next : C × R) → (let none : Option T = None in IsAsked eq same us asked none) → IsSamePath eq same asked (notes ++ next ∷ []) → Any (λ e. IsNext eq same notes next.0 e.path) us × All (λ e. ¬ IsPrefix eq same (notes ++ next ∷ []) e.path) us
    parts_at us asked notes next k s =
        let nowhere : All (λ e. ¬ IsPrefix eq same (notes ++ next ∷ []) e.path) us = λ j d l f. k.0 j d l (prefix_same asked (notes ++ next ∷ []) _ s f) in
        elim k.1 [
          | inl is ↦ absurd (nothing_more notes next (subst (λ xs. IsSamePath eq same xs (notes ++ next ∷ [])) is s))
          | inr along ↦
              let some = along.next in
              ((some.0, some.1, some.2, some.3, next_same along.prefix notes some.1.path along.last next (subst (λ xs. IsSamePath eq same xs (notes ++ next ∷ [])) along.splits s) some.4), nowhere)
        ]

    module _ {B : Type 0} (value : B → T) (m : C → R) (respects : Respects eq same m) (us : List (Stored K C R T)) where
      -- an entry that was found agrees
      pub agreeing : (r : Option B) → IsTrue (is_some r) → FindsAgreeing eq same us m (option_map value r) → Any (λ e. Agrees same m e.path) us
      agreeing (Some b) is k = (k.0, k.1, k.2, k.3, k.4.0)
      agreeing None is k = absurd (let z : false ≡ true = is in cc)

      -- where nothing was found, and nothing noted, nothing is kept
      pub kept_none : (r : Option B) (asked : List (C × R)) → is_some r ≡ false → IsSamePath eq same asked [] → IsAsked eq same us asked (option_map value r) → us ≡ []
      kept_none (Some b) asked is s k = absurd (let z : true ≡ false = is in cc)
      kept_none None asked is s k = nothing_kept us asked k s

      -- where nothing was found, the last call that was noted parts from what is kept
      pub diverges : (r : Option B) (asked notes : List (C × R)) (next : C × R) → is_some r ≡ false → FindsAgreeing eq same us m (option_map value r) → IsSamePath eq same asked (notes ++ next ∷ []) → Agrees same m asked → IsAsked eq same us asked (option_map value r) → All (λ e. ¬ Agrees same m e.path) us × Agrees same m (notes ++ next ∷ []) × Any (λ e. IsNext eq same notes next.0 e.path) us × All (λ e. ¬ IsPrefix eq same (notes ++ next ∷ []) e.path) us
      diverges (Some b) asked notes next is none s a k = absurd (let z : true ≡ false = is in cc)
      diverges None asked notes next is none s a k =
          let parts = parts_at us asked notes next k s in
          (none, Agrees-same calls answers m respects asked (notes ++ next ∷ []) s a, parts.0, parts.1)

-- what a look-up among reads noted is what it asked, up to equality
module _ {O C R : Type 0} (g : Mut O (Bor C × Unit {0}) (Result R AllocError)) {eq : C → C → Bool} {same : R → R → Bool} (calls : IsEquivalence eq) (answers : IsEquivalence same) (w : C → Bool) (kind : (x y : C) → IsTrue (eq x y) → w x ≡ w y) (m : C → R) (respects : Respects eq same m)
    (I : O → Type 0) (step : (f f' : O) (call : C) (r : R) → I f → w call ≡ false → CalledAt g f call (Ok r) f' → IsTrue (same (m call) r) × I f')
    (notes : O → List (C × R)) (notes_call : (f f' : O) (x : C) (r : R) → CalledAt g f x (Ok r) f' → (copy : C × R) × (notes f' ≡ notes f ++ copy ∷ []) × IsTrue (eq x copy.0) × IsTrue (same r copy.1))
    {K T : Type 0} (eqk : K → K → Bool) (es : List (Stored K C R T)) (key : K) (reads : All (λ e. All (λ p. w p.0 ≡ false) e.path) (under eqk es key)) (f f' : O) (i : I f) (nothing : notes f ≡ []) where
  pub notes_value : {B : Type 0} (value : B → T) (r : Result (Option B) AllocError) → IfOk r (λ found. LooksUp g eq same (under eqk es key) f f' (option_map value found)) → (all : List (C × R)) → notes f' ≡ all → IfOk r (λ found. (asked : List (C × R)) × IsSamePath eq same asked all × Agrees same m asked × IsAsked eq same (under eqk es key) asked (option_map value found))
  notes_value value (Ok found) h all is =
      let told = noted g eq same notes notes_call h.asked f f' h.answered in
      (h.asked, subst (λ xs. IsSamePath eq same h.asked xs) (sym (told.1 ∙ ap (λ xs. xs ++ told.0) nothing) ∙ is) told.2, answered_agrees g calls answers w kind m respects I step h.asked f f' i (reads_asked eq same w kind (under eqk es key) reads h.asked (option_map value found) h.finds) h.answered, h.finds)
  notes_value value (Err e) h all is = tt
