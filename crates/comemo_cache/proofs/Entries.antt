-- What is known about an entry that was found, and one that is stored.
use Rattle.std.proofs.Common.{◌≡◌, zero, suc, Bool, false, List, [], ◌∷◌, IsTrue, subst, ◌∙◌, arith}
use Rattle.std.specs.List.{All, Any}
use Rattle.std.specs.Cmp.{IsEquivalence}
use Rattle.comemo_base.specs.Answers.{Respects, Agrees}
use Rattle.comemo_base.specs.Tree.{Stored, IsSamePath}
use Rattle.comemo_base.proofs.Paths.{IsSamePath-turned, Agrees-same}
use Rattle.comemo_base.proofs.Under.{under-alike}
use Rattle.comemo_cache.specs.Meaning.{Meaning, Run, run, invocation, SameWrites}
use Rattle.comemo_cache.specs.Cache.{Kept, Entries, Stands, IsLegal, IsEntryOf, Has, HasNone}

pub All-cons : {X : Type 0} (P : X → Type 0) (x : X) (xs : List X) → P x → All P xs → All P (x ∷ xs)
All-cons P x xs p h zero d l = p
All-cons P x xs p h (suc k) d l = h k d (omega arith)

-- an equal path has reads alone too
pub reads_same : {C R : Type 0} (eq : C → C → Bool) (same : R → R → Bool) (w : C → Bool) → ((x y : C) → IsTrue (eq x y) → w x ≡ w y) → (ps qs : List (C × R)) → IsSamePath eq same ps qs → All (λ p. w p.0 ≡ false) qs → All (λ p. w p.0 ≡ false) ps
reads_same eq same w kind [] qs s h = λ k d l. absurd (omega arith)
reads_same eq same w kind (p ∷ ps) [] s h = absurd s
reads_same eq same w kind (p ∷ ps) (q ∷ qs) s h =
    All-cons (λ p. w p.0 ≡ false) p ps (kind p.0 q.0 s.0 ∙ h 0 q (omega arith)) (reads_same eq same w kind ps qs s.2 (λ j e m. h (suc j) e (omega arith)))

pub IsSamePath-itself : {C R : Type 0} {eq : C → C → Bool} {same : R → R → Bool} → IsEquivalence eq → IsEquivalence same → (ps : List (C × R)) → IsSamePath eq same ps ps
IsSamePath-itself calls answers [] = tt
IsSamePath-itself calls answers (p ∷ ps) = (calls.refl p.0, answers.refl p.1, IsSamePath-itself calls answers ps)

module _ {K C R O : Type 0} (M : Meaning K C R O) where
  module _ (calls : IsEquivalence M.same_call) (answers : IsEquivalence M.same_answer) where
    -- clones of a legal entry's path, output and writes stand in the definition at an equal key
    pub Stands-found : ((j k : K) (m : C → R) (o : O) (ws : List C) → Respects M.same_call M.same_answer m → IsTrue (M.same_key j k) → M.right j m o ws → M.right k m o ws) → ((k : K) (m : C → R) (a b : O) (ws : List C) → Respects M.same_call M.same_answer m → M.is_clone a b → M.right k m a ws → M.right k m b ws) → ((k : K) (m : C → R) (o : O) (V W : List C) → Respects M.same_call M.same_answer m → SameWrites M.same_call V W → M.right k m o V → M.right k m o W) → (e : Stored K C R (Kept O C)) (key : K) (path : List (C × R)) (output : O) (writes : List C) → IsLegal M e → IsTrue (M.same_key e.key key) → IsSamePath M.same_call M.same_answer path e.path → M.is_clone e.value.output output → SameWrites M.same_call e.value.writes writes → Stands M (run key path output writes)
    Stands-found keys outputs alike e key path output writes legal k s c same = λ m r a.
        alike key m output e.value.writes writes r same (outputs key m e.value.output output e.value.writes r c (keys e.key key m e.value.output e.value.writes r k (legal.stands m r (Agrees-same calls answers m r path e.path s a))))

    -- the path of what was found agrees with the answers
    pub Agrees-found : (m : C → R) → Respects M.same_call M.same_answer m → (ran : Run K C R O) (us : Entries K C R O) → Any (IsEntryOf M m ran) us → Agrees M.same_answer m ran.pairs
    Agrees-found m r ran us h = Agrees-same calls answers m r h.1.path ran.pairs (IsSamePath-turned calls answers ran.pairs h.1.path h.4.1) h.4.0

  module _ (keys : IsEquivalence M.same_key) (es : Entries K C R O) (j k : K) (alike : IsTrue (M.same_key j k)) (m : C → R) (b c : Bool) where
    -- what is kept under a key is kept under an equal one
    pub Has-alike : (ran : Run K C R O) → Has M es (invocation j m b) ran → Has M es (invocation k m c) ran
    Has-alike ran h = subst (λ us. Any (IsEntryOf M m ran) us) (under-alike M.same_key es j keys k alike) h

    pub HasNone-alike : HasNone M es (invocation j m b) → HasNone M es (invocation k m c)
    HasNone-alike h = subst (λ us. All (λ e. ¬ Agrees M.same_answer m e.path) us) (under-alike M.same_key es j keys k alike) h
