-- What a script means, given the text at each path.
use Rattle.std.specs.Prelude.{ℕ, zero, suc, ◌≤◌, max, List, [], ◌∷◌, ℤ, pos, ◌+ℤ◌, FitsSigned, Result, Ok, Err}
use Rattle.std.specs.Int.{w32}
use Rattle.calc_core.specs.Parts.{parts, IsEval, IsNumber, IsBad}
use Rattle.calc_core.specs.declared.scripts.outcome.CalcFault.{CalcFault}
use Rattle.calc_core.specs.declared.scripts.outcome.CalcFault.TheVariants.{NotANumber, Overflow}

-- a number, or the fault of the script
abbrev pub Value : Type 0
Value = Result ℤ CalcFault

abbrev pub Fits : ℤ → Type 0
Fits n = FitsSigned w32 n

-- At path text: this text is at this path
mutual
  -- the script has this value and this height: 1 plus the greatest height of its evaluated parts
  pub data Means (At : List ℕ → List ℕ → Type 0) : List ℕ → Value → ℕ → Type 0 where
    means : {script : List ℕ} {v : Value} {h : ℕ} → Takes At (parts script) (pos 0) 0 v h → Means At script v (suc h)

  -- the part has this value and this height
  pub data PartMeans (At : List ℕ → List ℕ → Type 0) : List ℕ → Value → ℕ → Type 0 where
    is_number : {part : List ℕ} {n : ℤ} → IsNumber part n → PartMeans At part (Ok n) 0
    is_bad : {part : List ℕ} → IsBad part → PartMeans At part (Err NotANumber) 0
    is_eval : {part path text : List ℕ} {v : Value} {h : ℕ} → IsEval part path → At path text → Means At text v h → PartMeans At part v h

  -- these parts, after parts with this sum and this greatest height, result in this value and this greatest height
  pub data Takes (At : List ℕ → List ℕ → Type 0) : List (List ℕ) → ℤ → ℕ → Value → ℕ → Type 0 where
    ends : {sum : ℤ} {h : ℕ} → Takes At [] sum h (Ok sum) h
    adds : {p : List ℕ} {ps : List (List ℕ)} {sum n : ℤ} {h g e : ℕ} {v : Value} → PartMeans At p (Ok n) g → Fits (sum +ℤ n) → Takes At ps (sum +ℤ n) (max h g) v e → Takes At (p ∷ ps) sum h v e
    overflows : {p : List ℕ} {ps : List (List ℕ)} {sum n : ℤ} {h g : ℕ} → PartMeans At p (Ok n) g → ¬ Fits (sum +ℤ n) → Takes At (p ∷ ps) sum h (Err Overflow) (max h g)
    fails : {p : List ℕ} {ps : List (List ℕ)} {sum : ℤ} {h g : ℕ} {fault : CalcFault} → PartMeans At p (Err fault) g → Takes At (p ∷ ps) sum h (Err fault) (max h g)

mutual
  -- the script goes deeper than the limit
  pub data Deep (At : List ℕ → List ℕ → Type 0) : List ℕ → ℕ → Type 0 where
    no_room : {script : List ℕ} → Deep At script zero
    below : {script : List ℕ} {limit : ℕ} → DeepIn At (parts script) (pos 0) limit → Deep At script (suc limit)

  -- one of these parts, taken after parts with this sum, calls a script that goes deeper than the limit
  pub data DeepIn (At : List ℕ → List ℕ → Type 0) : List (List ℕ) → ℤ → ℕ → Type 0 where
    here : {p path text : List ℕ} {ps : List (List ℕ)} {sum : ℤ} {limit : ℕ} → IsEval p path → At path text → Deep At text limit → DeepIn At (p ∷ ps) sum limit
    later : {p : List ℕ} {ps : List (List ℕ)} {sum n : ℤ} {g limit : ℕ} → PartMeans At p (Ok n) g → Fits (sum +ℤ n) → DeepIn At ps (sum +ℤ n) limit → DeepIn At (p ∷ ps) sum limit

-- the script is higher than the limit, or it means nothing
abbrev pub IsTooDeep : (List ℕ → List ℕ → Type 0) → List ℕ → ℕ → Type 0
IsTooDeep At script limit = (v : Value) (h : ℕ) → Means At script v h → ¬ (h ≤ limit)
