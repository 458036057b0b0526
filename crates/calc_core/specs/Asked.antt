-- The paths that a script reads, given the text at each path.
use Rattle.std.specs.Prelude.{ℕ, List, ◌∷◌, ℤ, pos, ◌+ℤ◌, Ok}
use Rattle.calc_core.specs.Parts.{parts, IsEval}
use Rattle.calc_core.specs.Meaning.{Fits, PartMeans}

-- At path text: this text is at this path
mutual
  -- the script reads the path
  pub data Asks (At : List ℕ → List ℕ → Type 0) : List ℕ → List ℕ → Type 0 where
    asks : {script path : List ℕ} → AsksIn At (parts script) (pos 0) path → Asks At script path

  -- one of these parts, after parts with this sum, reads the path, and those before it are numbers whose sums fit
  pub data AsksIn (At : List ℕ → List ℕ → Type 0) : List (List ℕ) → ℤ → List ℕ → Type 0 where
    asks_here : {p path : List ℕ} {ps : List (List ℕ)} {sum : ℤ} → PartAsks At p path → AsksIn At (p ∷ ps) sum path
    asks_later : {p path : List ℕ} {ps : List (List ℕ)} {sum n : ℤ} {g : ℕ} → PartMeans At p (Ok n) g → Fits (sum +ℤ n) → AsksIn At ps (sum +ℤ n) path → AsksIn At (p ∷ ps) sum path

  -- the part reads the path: it calls the script there, or one that reads it
  pub data PartAsks (At : List ℕ → List ℕ → Type 0) : List ℕ → List ℕ → Type 0 where
    asks_itself : {part path : List ℕ} → IsEval part path → PartAsks At part path
    asks_inside : {part called text path : List ℕ} → IsEval part called → At called text → Asks At text path → PartAsks At part path
