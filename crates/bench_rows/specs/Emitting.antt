-- What is emitted; equal writes emit the same.
use Rattle.std.specs.Prelude.{◌≡◌, ℕ, Bool, List, [], ◌∷◌, String, IsTrue, map, codes, string_bytes}
use Rattle.std.proofs.Common.{◌∙◌, refl, sym, ap}
use Rattle.std.specs.Global.{Global}
use Rattle.comemo.specs.Meaning.{SameWrites}
use Rattle.comemo.specs.Cache.{FunctionLaws}
use Rattle.comemo_examples.specs.declared.emitter.EmitterCall.{EmitterCall}
use Rattle.comemo_examples.specs.Writers.{emitted}

-- these writes emit a text, and then `1`
abbrev pub EmitsWithOne : String Global → List EmitterCall → Type 0
EmitsWithOne text writes = map emitted writes ≡ string_bytes text ∷ codes "1" ∷ []

module _ {eq : EmitterCall → EmitterCall → Bool} (calls : (x y : EmitterCall) → IsTrue (eq x y) → emitted y ≡ emitted x) where
  same_emitted : (V W : List EmitterCall) → SameWrites eq V W → map emitted W ≡ map emitted V
  same_emitted [] [] same = refl
  same_emitted [] (w ∷ W) same = absurd same
  same_emitted (v ∷ V) [] same = absurd same
  same_emitted (v ∷ V) (w ∷ W) same = ap (λ text. text ∷ map emitted W) (calls v w same.0) ∙ ap (λ X. emitted v ∷ X) (same_emitted V W same.1)

  pub emitting_laws : {R O : Type 0} {same : R → R → Bool} {eqk : String Global → String Global → Bool} {key_clone : String Global → String Global → Type 0} {cloned : O → O → Type 0}
      → ((x y : String Global) → IsTrue (eqk x y) → string_bytes y ≡ string_bytes x) → ((x y : String Global) → key_clone x y → IsTrue (eqk x y))
      → FunctionLaws eq same eqk key_clone cloned (λ text _ _ writes. EmitsWithOne text writes)
  emitting_laws keys clones = record {
    outputs = λ _ _ _ _ _ _ _ right. right;
    keys = λ j k _ _ _ _ is right. right ∙ ap (λ bytes. bytes ∷ codes "1" ∷ []) (sym (keys j k is));
    writes = λ _ _ _ V W _ is right. same_emitted V W is ∙ right;
    key_clones = clones;
  }
