-- What a step leaves as it is: what holds of all entries whatever their ages, and that an entry is there.
use Rattle.std.proofs.Common.{◌≡◌, ◌+◌, ◌≤◌, ◌<◌, ℕ, Bool, List, [], ◌∷◌, ◌++◌, get_or, refl, sym, subst, inl, inr, arith}
use Rattle.std.proofs.lemmas.Bool.{lt-ltb}
use Rattle.std.proofs.lemmas.List.Elements.{All-head, All-tail, All-map, All-filter}
use Rattle.std.proofs.lemmas.List.Sorted.{All-permutation, IsPermutation-sym}
use Rattle.std.specs.Prelude.{nat_lt, IsTrue}
use Rattle.std.specs.List.{All, Any, filter}
use Rattle.comemo_base.specs.Tree.{Stored, stored}
use Rattle.comemo_base.proofs.Under.{Any-here, Any-later, Any-split, Any-weaker, Any-filter}
use Rattle.comemo_cache.specs.Meaning.{Meaning, Invocation, Run}
use Rattle.comemo_cache.specs.Cache.{Kept, Entries, Evicts, young, older, aged}
use Rattle.comemo_cache.specs.Storing.{Stores}
use Rattle.comemo_cache.proofs.Entries.{All-cons}
use Rattle.comemo.specs.Finish.{Ends}
use Rattle.comemo.specs.declared.pending.How.{How}
use Rattle.comemo.specs.declared.pending.How.TheVariants as how
use Rattle.comemo_theorems.specs.History.{Step, found, touched, missed, ended, evicted, Does, History, Outlives}
use Rattle.comemo_theorems.proofs.Plain.{any_permutation, any_map}

module _ {K C R O : Type 0} (M : Meaning K C R O) where
  -- one history after another
  pub history_append : (h k : List (Step K C R O)) (es mid es' : Entries K C R O) → History M h es mid → History M k mid es' → History M (h ++ k) es es'
  history_append [] k es mid es' a b = subst (λ xs. History M k xs es') a b
  history_append (s ∷ h) k es mid es' (next, does, rest) b = (next, does, history_append h k next mid es' rest b)

  -- What holds of an entry whatever its age.
  module _ (P : Stored K C R (Kept O C) → Type 0) where
    pub all_same : (es es' : Entries K C R O) → es' ≡ es → All P es → All P es'
    all_same es es' is all = subst (λ xs. All P xs) (sym is) all

    pub all_ended : (ran : Run K C R O) (end : How) (es es' : Entries K C R O) → (end ≡ how.Stored → Stores M es ran es' → All P es') → Ends M es ran end es' → All P es → All P es'
    all_ended ran how.Hit es es' new ends all = absurd ends
    all_ended ran how.Stored es es' new ends all = new refl ends
    all_ended ran how.AlreadyExists es es' new ends all = all_same es es' ends.1 all
    all_ended ran how.MissingCall es es' new ends all = all_same es es' ends.2 all
    all_ended ran how.NotStored es es' new ends all = all_same es es' ends all
    all_ended ran how.Disabled es es' new ends all = all_same es es' ends all
    all_ended ran how.Late es es' new ends all = all_same es es' ends all

    module _ (ageless : (e : Stored K C R (Kept O C)) (age : ℕ) → P e → P (record e { value = record e.value { age = age } })) where
      pub all_touched : (call : Invocation K C R) (es es' : Entries K C R O) → Does M (touched call) es es' → All P es → All P es'
      all_touched call es es' (inl t) all =
          let now = All-permutation P es (t.entry ∷ t.others) (IsPermutation-sym (t.entry ∷ t.others) es t.before) all in
          All-permutation P (young t.entry ∷ t.others) es' t.after (All-cons P (young t.entry) t.others (ageless t.entry 0 (All-head P t.entry t.others now)) (All-tail P t.entry t.others now))
      all_touched call es es' (inr none) all = all_same es es' none.1 all

      pub all_evicted : (bound : ℕ) (es es' : Entries K C R O) → Evicts bound es es' → All P es → All P es'
      all_evicted bound es es' does all =
          let test : Stored K C R (Kept O C) → Bool = λ e. nat_lt e.value.age bound in
          let left = All-filter test P es all in
          All-permutation P (aged bound es) es' does (All-map P older (filter test es) (λ k d l. let e : Stored K C R (Kept O C) = get_or (filter test es) k d in ageless e (e.value.age + 1) (left k d l)))

  -- Some entry, told by its key and its path, that is not older than an age.
  module _ (own : K → List (C × R) → Type 0) where
    abbrev pub Own : Stored K C R (Kept O C) → Type 0
    Own e = own e.key e.path

    abbrev pub Aged : ℕ → Stored K C R (Kept O C) → Type 0
    Aged age e = Own e × (e.value.age ≤ age)

    pub aged_same : (age : ℕ) (es es' : Entries K C R O) → es' ≡ es → Any (Aged age) es → Any (Aged age) es'
    aged_same age es es' is some = subst (λ xs. Any (Aged age) xs) (sym is) some

    aged_stored : (age : ℕ) (ran : Run K C R O) (es es' : Entries K C R O) → Stores M es ran es' → Any (Aged age) es → Any (Aged age) es'
    aged_stored age ran es es' stores some =
        let x = stores.2 in
        let e : Stored K C R (Kept O C) = stored x.adds.own x.adds.path x.kept in
        any_permutation (Aged age) (e ∷ es) es' x.adds.entries (Any-later (Aged age) e es some)

    pub aged_ended : (age : ℕ) (ran : Run K C R O) (end : How) (es es' : Entries K C R O) → Ends M es ran end es' → Any (Aged age) es → Any (Aged age) es'
    aged_ended age ran how.Hit es es' ends some = absurd ends
    aged_ended age ran how.Stored es es' ends some = aged_stored age ran es es' ends some
    aged_ended age ran how.AlreadyExists es es' ends some = aged_same age es es' ends.1 some
    aged_ended age ran how.MissingCall es es' ends some = aged_same age es es' ends.2 some
    aged_ended age ran how.NotStored es es' ends some = aged_same age es es' ends some
    aged_ended age ran how.Disabled es es' ends some = aged_same age es es' ends some
    aged_ended age ran how.Late es es' ends some = aged_same age es es' ends some

    pub aged_young : (age n : ℕ) (e : Stored K C R (Kept O C)) → Aged age e → Aged n (young e)
    aged_young age n e a = (a.0, omega arith)

    pub aged_touched : (age : ℕ) (call : Invocation K C R) (es es' : Entries K C R O) → Does M (touched call) es es' → Any (Aged age) es → Any (Aged age) es'
    aged_touched age call es es' (inl t) some =
        let P : Stored K C R (Kept O C) → Type 0 = Aged age in
        let now = any_permutation P es (t.entry ∷ t.others) (IsPermutation-sym (t.entry ∷ t.others) es t.before) some in
        let then : Any P (young t.entry ∷ t.others) = elim (Any-split P t.entry t.others now) [ inl here ↦ Any-here P (young t.entry) t.others (aged_young age age t.entry here) | inr later ↦ Any-later P (young t.entry) t.others later ] in
        any_permutation P (young t.entry ∷ t.others) es' t.after then
    aged_touched age call es es' (inr none) some = aged_same age es es' none.1 some

    aged_older : (age : ℕ) (e : Stored K C R (Kept O C)) → Aged age e → Aged (age + 1) (older e)
    aged_older age e a = (a.0, omega (arith, a.1))

    pub aged_evicted : (age bound : ℕ) (es es' : Entries K C R O) → age < bound → Evicts bound es es' → Any (Aged age) es → Any (Aged (age + 1)) es'
    aged_evicted age bound es es' young_enough does some =
        let test : Stored K C R (Kept O C) → Bool = λ e. nat_lt e.value.age bound in
        let Q : Stored K C R (Kept O C) → Type 0 = λ e. Aged (age + 1) (older e) in
        let stays : Any (λ e. IsTrue (test e) × Q e) es = Any-weaker (Aged age) (λ e. IsTrue (test e) × Q e) (λ e a. (lt-ltb e.value.age bound (omega (arith, a.1, young_enough)), aged_older age e a)) es some in
        any_permutation (Aged (age + 1)) (aged bound es) es' does (any_map (Aged (age + 1)) older (filter test es) (Any-filter test Q es stays))

    -- it is there after steps that an entry of that age outlives
    pub outlived : (h : List (Step K C R O)) (es es' : Entries K C R O) (age : ℕ) → History M h es es' → Outlives M (λ _. ⊥) age h → Any (Aged age) es → Any Own es'
    outlived [] es es' age is lives some = subst (λ xs. Any Own xs) (sym is) (Any-weaker (Aged age) Own (λ e a. a.0) es some)
    outlived (found call ran ∷ h) es es' age (mid, does, rest) lives some = outlived h mid es' age rest lives (aged_same age es mid does.1 some)
    outlived (touched call ∷ h) es es' age (mid, does, rest) (inl lives) some = outlived h mid es' age rest lives (aged_touched age call es mid does some)
    outlived (touched call ∷ h) es es' age (mid, does, rest) (inr never) some = absurd never.0
    outlived (missed call ∷ h) es es' age (mid, does, rest) lives some = outlived h mid es' age rest lives (aged_same age es mid does.1 some)
    outlived (ended call ran end ∷ h) es es' age (mid, does, rest) lives some = outlived h mid es' age rest lives (aged_ended age ran end es mid does some)
    outlived (evicted bound ∷ h) es es' age (mid, does, rest) lives some = outlived h mid es' (age + 1) rest lives.1 (aged_evicted age bound es mid lives.0 does some)
