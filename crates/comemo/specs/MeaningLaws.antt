-- Laws of what functions mean, which traits require. No reader needs to believe them.
use Rattle.std.proofs.Common.{◌≡◌, ◌∙◌, Bool, List, [], ◌∷◌, IsTrue, map, refl, sym, ap, subst}
use Rattle.std.specs.Bool.{⊤}
use Rattle.comemo_cache.specs.Meaning.{IsRight, SameWrites}
use Rattle.comemo_cache.specs.Cache.{FunctionLaws}
use Rattle.comemo_base.specs.Answers.{Respects}
use Rattle.comemo.specs.Function.{Laws}

-- if there are no writes, there are no equal ones
pub none_alike : {C : Type 0} (eq : C → C → Bool) (V W : List C) → SameWrites eq V W → V ≡ [] → W ≡ []
none_alike eq [] [] same none = refl
none_alike eq [] (w ∷ W) same none = absurd same
none_alike eq (v ∷ V) W same none = absurd cc

-- if equal calls are the same, equal writes are the same
pub same_writes : {C : Type 0} {eq : C → C → Bool} → ((x y : C) → IsTrue (eq x y) → y ≡ x) → (V W : List C) → SameWrites eq V W → W ≡ V
same_writes exact [] [] same = refl
same_writes exact [] (w ∷ W) same = absurd same
same_writes exact (v ∷ V) [] same = absurd same
same_writes exact (v ∷ V) (w ∷ W) same = ap (λ c. c ∷ W) (exact v w same.0) ∙ ap (λ X. v ∷ X) (same_writes exact V W same.1)

-- what treats equal calls alike treats equal writes alike
pub map_writes : {C X : Type 0} {eq : C → C → Bool} (f : C → X) → ((x y : C) → IsTrue (eq x y) → f x ≡ f y) → (V W : List C) → SameWrites eq V W → map f V ≡ map f W
map_writes f alike [] [] same = refl
map_writes f alike [] (w ∷ W) same = absurd same
map_writes f alike (v ∷ V) [] same = absurd same
map_writes f alike (v ∷ V) (w ∷ W) same = rw (alike v w same.0, map_writes f alike V W same.1) refl

-- equal calls and equal keys are the same, a clone of an output is the output, and clones of keys are equal
pub record IsExact {C R K O : Type 0} (eq : C → C → Bool) (same : R → R → Bool) (eqk : K → K → Bool) (key_clone : K → K → Type 0) (cloned : O → O → Type 0) : Type 0 where
  pub calls : (x y : C) → IsTrue (eq x y) → y ≡ x
  pub keys : (x y : K) → IsTrue (eqk x y) → y ≡ x
  pub outputs : (a b : O) → cloned a b → b ≡ a
  pub key_clones : (x y : K) → key_clone x y → IsTrue (eqk x y)

-- the laws of any meaning over such types
pub exact_laws : {C R K O : Type 0} {eq : C → C → Bool} {same : R → R → Bool} {eqk : K → K → Bool} {key_clone : K → K → Type 0} {cloned : O → O → Type 0} {def : K → (C → R) → O → List C → Type 0} → IsExact eq same eqk key_clone cloned → FunctionLaws eq same eqk key_clone cloned def
exact_laws {def = def} e = record {
  outputs = λ key m a b writes respects is right. subst (λ o. def key m o writes) (sym (e.outputs a b is)) right;
  keys = λ j k m output writes respects is right. subst (λ i. def i m output writes) (sym (e.keys j k is)) right;
  writes = λ key m output V W respects is right. subst (λ ws. def key m output ws) (sym (same_writes e.calls V W is)) right;
  key_clones = e.key_clones;
}

-- the laws of what a function that writes nothing means
pub reads_laws : {C R K O : Type 0} {eq : C → C → Bool} {same : R → R → Bool} {eqk : K → K → Bool} {key_clone : K → K → Type 0} {cloned : O → O → Type 0} {means : K → (C → R) → O → Type 0} → Laws eq same eqk key_clone cloned means → FunctionLaws eq same eqk key_clone cloned (IsRight means (λ _ _ _ W. W ≡ []))
reads_laws {eq = eq} l = record {
  outputs = λ key m a b writes respects is right. (right.0, l.outputs key m a b respects is right.1);
  keys = λ j k m output writes respects is right. (right.0, l.keys j k m output respects is right.1);
  writes = λ key m output V W respects is right. (none_alike eq V W is right.0, right.1);
  key_clones = l.key_clones;
}

-- the laws of a function that writes nothing and whose output is f of its key and the answers: a clone of an output is that
-- output, clones of keys are equal, and f treats equal keys alike
pub output_laws : {C R K O : Type 0} {eq : C → C → Bool} {same : R → R → Bool} {eqk : K → K → Bool} {key_clone : K → K → Type 0} {cloned : O → O → Type 0} {f : K → (C → R) → O}
    → ((a b : O) → cloned a b → b ≡ a) → ((x y : K) → key_clone x y → IsTrue (eqk x y))
    → ((j k : K) (m : C → R) → Respects eq same m → IsTrue (eqk j k) → f j m ≡ f k m)
    → FunctionLaws eq same eqk key_clone cloned (IsRight (λ key m output. output ≡ f key m) (λ _ _ _ W. W ≡ []))
output_laws outputs key_clones keys = reads_laws (record {
  outputs = λ key m a b respects is right. outputs a b is ∙ right;
  keys = λ j k m output respects is right. right ∙ keys j k m respects is;
  key_clones = key_clones;
})

-- the laws of a function that is what it writes, whatever it gives
pub writing_laws : {C R K O : Type 0} {eq : C → C → Bool} {same : R → R → Bool} {eqk : K → K → Bool} {key_clone : K → K → Type 0} {cloned : O → O → Type 0} {writes : K → (C → R) → O → List C → Type 0} → FunctionLaws eq same eqk key_clone cloned writes → FunctionLaws eq same eqk key_clone cloned (IsRight (λ _ _ _. ⊤) writes)
writing_laws l = record {
  outputs = λ key m a b W respects is right. (l.outputs key m a b W respects is right.0, tt);
  keys = λ j k m output W respects is right. (l.keys j k m output W respects is right.0, tt);
  writes = λ key m output V W respects is right. (l.writes key m output V W respects is right.0, tt);
  key_clones = l.key_clones;
}
